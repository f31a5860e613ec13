-- Definitions for private functions and proofs alone: no public contract needs them.
pub mod Written
pub mod Following
pub mod FieldFaults
pub mod Reading
pub mod Parts
pub mod Loading
pub mod LeafVoxels
pub mod LoadedFields
pub mod Levels
