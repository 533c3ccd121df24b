-- What a reader must believe of the program bill: its argument (`Argument`), what it prints (`Lines`), what the functions promise
-- (`Promises`), and what holds of them one after the other (`Statement`).
pub mod Argument
pub mod Lines
pub mod Promises
pub mod Statement
