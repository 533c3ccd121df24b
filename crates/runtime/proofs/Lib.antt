-- Laws that the proofs of the functions cite.
pub mod ViewLaws
pub mod CallLaws
pub mod MadeLaws
pub mod MethodLaws
