pub mod Listed
pub mod Counts
pub mod Probe
