mod Flags
mod Naming
mod Places
mod Reach
