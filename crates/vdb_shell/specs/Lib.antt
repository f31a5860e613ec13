-- Sessions.
pub mod CommandLine
pub mod Files
pub mod Session
pub mod Determined
pub mod internal
