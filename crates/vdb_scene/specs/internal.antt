-- Definitions for private functions alone.
pub mod CommandGroups
