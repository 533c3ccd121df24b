-- Laws of the definitions, for this crate's proofs.
pub mod ValueLaws
pub mod QuotientLaws
