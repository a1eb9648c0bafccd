pub mod Marks
pub mod Setups
pub mod Stops
