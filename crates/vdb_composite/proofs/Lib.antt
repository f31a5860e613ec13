-- Lemmas on the combined cells of two trees.
mod Common
pub mod Mixed
pub mod MixWalks
pub mod MixLeaves
pub mod MixSearch
pub mod MixRoots
pub mod MixSums
pub mod TreeSizes
