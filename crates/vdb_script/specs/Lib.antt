-- Scripts: lines and tokens, the grammar of a line, the text of an answer, runs, and the state of reading and writing.
pub mod Lines
pub mod Grammar
pub mod Text
pub mod Run
pub mod Reading
pub mod Writing
