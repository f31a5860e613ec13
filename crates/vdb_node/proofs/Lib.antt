mod Common
pub mod Entries
pub mod Leaves
pub mod Listed
pub mod Sizes
pub mod ShiftedWords
pub mod Spans
