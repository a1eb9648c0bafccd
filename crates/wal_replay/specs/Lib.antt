pub mod Said
pub mod Rows
pub mod Texts
pub mod Replays
pub mod Files
pub mod Next
