-- Definitions for private functions and proofs alone: no public contract needs them.
pub mod Iterating
pub mod Behind
pub mod Beside
pub mod BlockStates
pub mod Eroding
pub mod Spreading
