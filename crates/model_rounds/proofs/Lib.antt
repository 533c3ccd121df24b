-- Request 111's cases, and the proof of its theorem from the ground up.
pub mod Cases
pub mod Lists
pub mod Together
pub mod Round
pub mod Rounds
pub mod Theorem
pub mod Bytes
