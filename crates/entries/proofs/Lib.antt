mod Leads
mod Numbers
mod Hexes
mod Spells
pub mod Exactly
pub mod ReadsBack
