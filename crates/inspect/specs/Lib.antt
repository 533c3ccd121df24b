-- What is told of a run.
pub mod Told
