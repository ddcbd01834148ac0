pub mod Bodies
pub mod Plains
pub mod WriteOnces
pub mod Allowances
pub mod Sides
