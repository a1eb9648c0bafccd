pub mod Sessions
pub mod Settings
pub mod Journal
pub mod Calls
