-- The definitions that the promises of this crate cite.
pub mod Grants
