pub mod Search
pub mod Begin
pub mod Ops
pub mod Steps
pub mod Follows
