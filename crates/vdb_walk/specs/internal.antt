-- Definitions for private functions and proofs alone: no public contract needs them.
pub mod Halves
pub mod BlocksFrom
pub mod Surround
pub mod Covered
pub mod Firsts
pub mod Voxels
pub mod PartCells
pub mod Listings
