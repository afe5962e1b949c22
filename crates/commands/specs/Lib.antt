pub mod Probe
pub mod Commands
