pub mod Pointer
pub mod Steps
pub mod Access
pub mod Reached
