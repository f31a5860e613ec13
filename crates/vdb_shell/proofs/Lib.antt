-- Lemmas on playing scripts and on loading and saving, and worked examples.
mod Checks
mod CommandLines
mod Common
pub mod Prefixes
pub mod LineSteps
pub mod Told
pub mod Turns
pub mod Parts
pub mod OneSession
pub mod ValidSessions
