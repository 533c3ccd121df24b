-- Laws of the definitions, for this crate's proofs and for the layers above.
pub mod OrderLaws
pub mod SpliceLaws
pub mod RowLaws
