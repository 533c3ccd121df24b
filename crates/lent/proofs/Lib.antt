pub mod LendLaws
pub mod LineCases
