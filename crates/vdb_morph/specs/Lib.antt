-- Dilation and erosion by faces, iteration by iteration.
pub mod Growth
pub mod internal
