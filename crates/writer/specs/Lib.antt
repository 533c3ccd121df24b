-- What a reader must believe of the writer's records.
pub mod Records
