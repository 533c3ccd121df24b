-- The definitions that the promises of this crate cite.
pub mod Records
pub mod Quotients
