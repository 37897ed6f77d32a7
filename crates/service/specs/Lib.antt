pub mod Words
pub mod Changes
pub mod Names
pub mod States
pub mod Replies
pub mod Steps
