-- Laws of the two functions.
pub mod PreviewLaws
pub mod WordingLaws
