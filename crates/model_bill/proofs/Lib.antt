-- Request 114's cases, and the proof of its theorem from the ground up.
pub mod Cases
pub mod Given
pub mod Walk
pub mod Made
pub mod Weights
pub mod Theorem
pub mod Bytes
