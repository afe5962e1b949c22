pub mod Sweep
pub mod Point
pub mod Union
pub mod Twice
pub mod Ranges
pub mod Held
pub mod Laws
pub mod Done
