pub mod Records
pub mod Settings
pub mod Loading
pub mod Replaying
pub mod Tables
