pub mod Ranks
pub mod Slots
pub mod Shelves
pub mod Tables
