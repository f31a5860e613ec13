pub mod Beside
pub mod Blends
pub mod Bounds
pub mod Entries
pub mod Leaf
pub mod Nodes
pub mod Slots
pub mod Values
