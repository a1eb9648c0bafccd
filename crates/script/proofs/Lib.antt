pub mod Calling
pub mod Lining
pub mod Numbers
pub mod Pairs
pub mod Parting
pub mod Reading
pub mod Wording
