-- Two trees combined, coordinate by coordinate.
pub mod Mixes
pub mod SumOutcome
