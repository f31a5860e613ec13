mod Common
pub mod Sharing
pub mod Walks
pub mod Places
pub mod Rows
pub mod Links
pub mod Changes
pub mod Orderly
pub mod Inserted
pub mod Lives
pub mod Crossing
