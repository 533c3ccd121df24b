-- What a reader must believe of what the program rounds prints (`Lines`), and what the parts promise each other (`Promises`).
pub mod Lines
pub mod Promises
