pub mod Contents
pub mod Live
pub mod LendsNode
pub mod internal
