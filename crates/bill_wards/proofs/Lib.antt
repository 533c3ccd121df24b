-- What the walk's turns come to (`BlockLaws`, `TurnLaws`), and the answers to a bill (`BillLaws`).
pub mod BlockLaws
pub mod TurnLaws
pub mod BillLaws
