-- What a reader must believe of the looks, beyond the definitions of the crates beneath.
pub mod Looks
