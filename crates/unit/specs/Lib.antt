pub mod Unit
pub mod Mapped
