-- Boxes cut in two, reports on a field, and the pieces of a tree one after another.
pub mod Reports
pub mod Passing
pub mod internal
