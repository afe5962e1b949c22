pub mod Course
pub mod Next
