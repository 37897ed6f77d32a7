pub mod Machines
pub mod Phases
pub mod Telegrams
pub mod Answers
pub mod Reports
pub mod Making
