mod Common
mod Pointers
mod KeptValues
mod HeldGridValues
mod HeldSceneValues
mod HeldViewValues
pub mod Filled
pub mod NextVoxels
pub mod NestedAxes
pub mod Places
pub mod PartPlaces
pub mod Copies
pub mod Laid
pub mod RowsLaid
pub mod PartsRead
pub mod BoxReads
pub mod ManyWrites
pub mod ElementWrites
pub mod LeafRows
pub mod Ranks
pub mod BoxFields
pub mod RowFields
pub mod CopiedRows
pub mod LeafFields
pub mod GivenLeaves
pub mod GivenFields
pub mod BuiltGrids
pub mod SameTrees
pub mod EqualCells
pub mod PartsPast
