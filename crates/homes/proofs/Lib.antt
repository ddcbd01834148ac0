pub mod Records
pub mod Joins
pub mod OneWrites
