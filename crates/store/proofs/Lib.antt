pub mod Searching
pub mod Inserting
pub mod Growing
pub mod Outcomes
