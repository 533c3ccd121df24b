-- Laws of the looks.
pub mod LookLaws
