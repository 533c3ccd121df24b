-- The laws of sharing, and those that the proofs of the functions cite.
pub mod Counting
pub mod ShareLaws
pub mod RankLaws
pub mod SharedLaw
pub mod CodeLaws
