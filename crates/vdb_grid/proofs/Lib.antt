pub mod EachAccessor
pub mod NearLeaves
