pub mod Checks
pub mod Writing
pub mod Rewriting
