-- What a reader must believe of the coordinator's output.
pub mod Transcript
pub mod Promises
