pub mod Good
pub mod Directory
pub mod Entries
pub mod Stores
pub mod Registers
pub mod Calls
pub mod Fresh
pub mod Reached
