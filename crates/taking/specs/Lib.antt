-- What a reader must believe of taken fields.
pub mod Fronts
