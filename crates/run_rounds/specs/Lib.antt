-- What a reader must believe of the rounds' functions, beyond the definitions of the crates beneath (`Sizes`, `Reports`), and what their
-- parts promise each other (`Looking`).
pub mod Sizes
pub mod Reports
pub mod Looking
