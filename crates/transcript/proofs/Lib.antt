-- Laws that the proofs of the functions cite, the law of the whole transcript, and document 01's example.
pub mod PieceLaws
pub mod Whole
pub mod Example
