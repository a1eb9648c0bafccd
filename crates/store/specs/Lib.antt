pub mod Said
pub mod Meaning
pub mod Calls
pub mod Index
pub mod Memory
pub mod Marks
pub mod Scripted
pub mod Laws
