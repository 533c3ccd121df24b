-- What a reader must believe of the steps, beyond the definitions of the crates beneath.
pub mod Stepping
