-- What lies beyond the faces of a box, and what lies around it.
pub mod internal
