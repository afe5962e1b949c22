pub mod OneAnswer
pub mod Outcomes
pub mod Refused
pub mod Reached
