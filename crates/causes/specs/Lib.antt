pub mod Said
pub mod Causes
