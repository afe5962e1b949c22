pub mod Own
pub mod Reset
pub mod Outcome
pub mod Refusal
