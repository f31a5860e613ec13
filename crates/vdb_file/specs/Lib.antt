-- Scenes as files.
pub mod Bodies
pub mod Spelling
pub mod Scenes
pub mod Alike
pub mod Faults
pub mod Readers
pub mod internal
