-- What a reader must believe of request 111: what is reported (`Rounds`), and what holds of it (`Statement`). A worked case
-- as a test (`Case`).
pub mod Rounds
pub mod Statement
pub mod Case
