-- What a reader must believe of job lists, in the order of document 01.
pub mod TaskList
pub mod Fields
pub mod Decode
pub mod Encode
pub mod Accepted
pub mod Tables
pub mod Answers
