-- Definitions for private functions and proofs alone: no public contract needs them.
pub mod Answering
