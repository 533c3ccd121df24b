-- What a reader of the file of cases must believe of its parts.
pub mod File
pub mod Cases
pub mod Pieces
