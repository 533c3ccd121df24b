-- Laws, each citing only what is above it.
pub mod CallLaws
pub mod ChangeLaws
