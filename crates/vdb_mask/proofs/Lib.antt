mod Common
pub mod EitherSearch
pub mod FirstWords
pub mod Loops
pub mod MaskLemmas
pub mod RowBits
pub mod RowSearch
pub mod RunBits
pub mod WordBits
pub mod WordCounts
