pub mod Snoop
