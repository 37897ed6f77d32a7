mod Making
mod Disowned
