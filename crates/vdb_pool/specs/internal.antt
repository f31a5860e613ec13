-- Words of private functions and of proofs alone: no public contract needs them.
pub mod Ownership
pub mod Lends
pub mod Rows
pub mod Slot
pub mod Stack
pub mod Chunks
pub mod Pool
