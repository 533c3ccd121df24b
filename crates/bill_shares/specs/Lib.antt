-- A bill shared in proportion to weights.
pub mod Shares
-- and what holds of the shares
pub mod Statement
