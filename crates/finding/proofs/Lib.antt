-- Laws of the definitions, for this crate's proofs; and the theorem that every number of an accepted list is found.
pub mod FirstLaws
pub mod JobLaws
pub mod Finds
pub mod Shortest
