pub mod Sweep
pub mod Laws
pub mod Step
