-- Laws that the proofs of the functions cite.
pub mod SeenLaws
pub mod BatchLaws
pub mod TallyLaws
pub mod ReportLaws
pub mod TableLaws
