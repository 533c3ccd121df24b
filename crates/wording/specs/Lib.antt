-- What a reader must believe of the lines that the coordinator opens and closes with.
pub mod Wording
pub mod Promises
