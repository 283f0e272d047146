pub mod Registered
pub mod Tabled
pub mod Registers
pub mod Places
pub mod Hashed
