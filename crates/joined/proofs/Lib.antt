mod Places
mod Sides
