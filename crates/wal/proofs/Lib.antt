pub mod Running
pub mod Keeping
pub mod Rounding
pub mod Halving
pub mod Digits
pub mod Answering
pub mod Telling
pub mod Tailing
