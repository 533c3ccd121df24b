-- Laws that the proofs of the functions cite.
pub mod DigitLaws
pub mod WroteLaws
pub mod PutLaws
pub mod JoinedLaws
pub mod ClosingLaws
pub mod OpeningLaws
