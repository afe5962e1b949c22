pub mod Patc
pub mod Laws
