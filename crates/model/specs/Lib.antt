pub mod Numbers
pub mod Tools
pub mod Worlds
pub mod Calls
pub mod Versions
pub mod Drafts
pub mod Steps
pub mod History
