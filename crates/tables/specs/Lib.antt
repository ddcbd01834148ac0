pub mod Tested
pub mod View
pub mod Inners
pub mod Closures
