-- Lemmas on the lines of a script, their tokens and forms, and the written answers.
mod Checks
mod Common
pub mod Forms
pub mod OneRun
pub mod Yielding
pub mod Pages
pub mod Pieces
pub mod Reading
pub mod RowLines
pub mod Splitting
pub mod ValidCommands
pub mod ValidRuns
pub mod Writing
