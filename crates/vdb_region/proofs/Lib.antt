-- Lemmas on what lies beyond a box and around it, and on clearing it.
mod Common
pub mod Halves
pub mod Hulls
pub mod Sides
pub mod Clearing
