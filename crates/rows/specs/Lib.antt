pub mod Rows
pub mod Lines
pub mod Grammar
pub mod Fields
pub mod Entries
pub mod Sizes
pub mod Reading
pub mod Blocks
