pub mod Answers
pub mod Accounts
