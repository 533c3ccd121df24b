-- What a reader must believe of request 114 over a run: what is shared among whom (`Bill`), and what holds of it (`Statement`).
-- A worked case as a test (`Case`). The numbers alone stand in the crate `bill_shares`.
pub mod Bill
pub mod Statement
pub mod Case
