-- Lemmas on boxes cut in two, on counts, on the keys of the table, on bounding boxes, and on block order.
mod Common
pub mod Counts
pub mod Cuts
pub mod Keys
pub mod NonConstantBlocks
pub mod NonConstantLeaves
pub mod LeafTests
pub mod Surrounds
pub mod CoveredRuns
pub mod BoxOrder
pub mod Firsts
pub mod LeafSeeks
pub mod InOrder
pub mod PiecesInTurn
pub mod PartCounts
pub mod VoxelRows
pub mod VoxelSeeks
pub mod VoxelCounts
pub mod PartCells
pub mod PartSeeks
pub mod NextVoxels
pub mod Yielded
pub mod ListingSizes
pub mod Runs
pub mod BlockCounts
pub mod SkippedParts
