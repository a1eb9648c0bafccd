pub mod Keys
pub mod Room
pub mod TableLaws
pub mod Counting
