-- What sharing a bill answers and writes (`Answers`), and what the functions promise (`Promises`). What the wards and the shares of
-- a run are, stands in the crate `model_bill`.
pub mod Answers
pub mod Promises
