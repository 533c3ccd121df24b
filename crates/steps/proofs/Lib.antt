-- Laws, each citing only what is above it.
pub mod CarryLaws
pub mod MakeLaws
pub mod ChildrenLaws
pub mod StepChangeLaws
