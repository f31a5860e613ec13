-- Lemmas on what lies behind faces, on marks in trees of states, and on the states of leaf extents.
mod Common
pub mod Layers
pub mod Crossings
pub mod Marks
pub mod SpreadBoxes
pub mod LeafWords
pub mod BesideStates
pub mod BlockStates
pub mod ErodedBlocks
pub mod Eroding
pub mod Settling
pub mod Activating
pub mod Spreads
pub mod Neighbours
pub mod IterationLaws
pub mod Spreading
pub mod TreeSizes
