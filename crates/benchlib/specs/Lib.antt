-- What the benchmark is told.
pub mod Counts
