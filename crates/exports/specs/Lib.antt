pub mod Exports
pub mod Quick
