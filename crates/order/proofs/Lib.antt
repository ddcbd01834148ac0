mod Bests
pub mod Picks
