-- Laws, each citing only what is above it.
pub mod CodeLaws
pub mod ViewLaws
pub mod DecideLaws
pub mod StepLaws
