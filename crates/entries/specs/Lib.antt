pub mod Digits
pub mod Entries
pub mod Messages
pub mod Spelling
