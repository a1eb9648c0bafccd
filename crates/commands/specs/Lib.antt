pub mod Arguments
pub mod Verbs
pub mod Commands
pub mod Settings
