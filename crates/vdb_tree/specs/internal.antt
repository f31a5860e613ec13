-- Definitions for private functions and proofs only: no public contract needs them.
pub mod Holders
pub mod Jumps
pub mod Erase
pub mod Children
pub mod Seeks
pub mod Paints
pub mod Voxelised
pub mod Active
pub mod Pairing
pub mod ActiveCapacity
pub mod Refining
pub mod StateRuns
pub mod Ruled
pub mod PairBlocks
pub mod Altered
