pub mod Pages
pub mod Tallies
