pub mod Loads
pub mod Tables
pub mod Messages
