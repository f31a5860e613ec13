-- Lemmas on the step of a scene, and worked examples.
mod Checks
mod Common
mod MetaChecks
pub mod Copying
pub mod AsIterated
pub mod Entries
pub mod Filling
pub mod Borrowed
pub mod Lent
pub mod Listings
pub mod Lookups
pub mod Rows
pub mod PairSteps
pub mod Reports
pub mod Steps
pub mod Trees
pub mod Iterating
pub mod TwoGrids
pub mod TwoNames
pub mod Writing
pub mod ScalarValues
pub mod ValidEntries
pub mod ValidFields
pub mod ValidSteps
