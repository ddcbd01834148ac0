pub mod Faults
pub mod Homes
pub mod Stamps
pub mod Messages
