-- The pieces that the output is gathered into. Assumes nothing.
use Rattle.std.specs.Prelude.{ℕ, ◌-◌, cond, eqb}

-- how many bytes more a piece has room for that so many stand in; a full one is put out, and the next is empty
abbrev pub room_behind : ℕ → ℕ
room_behind filled = cond (eqb filled 4096) 4096 (4096 - filled)
