mod Leasts
pub mod Rows
mod Arrays
mod FirstHour
mod FromFn
mod Picks
