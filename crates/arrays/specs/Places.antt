-- Places in the order.
use Rattle.std.specs.Prelude.{ℕ, List, Option, insert, remove, position, take, eqb}
use Rattle.arrays.specs.declared.order.Order.{Order}

-- the unended tasks, front to back
abbrev pub unended : Order → List ℕ
unended o = take o.left o.places

-- the first place of a task
unfoldable pub place_of : ℕ → List ℕ → Option ℕ
place_of n xs = position (λ k. eqb k n) xs

-- x put at a place, those from there on moved back by one
unfoldable pub insert_at : ℕ → ℕ → List ℕ → List ℕ
insert_at at x xs = insert xs at x

-- all but the one at a place
unfoldable pub without : ℕ → List ℕ → List ℕ
without at xs = remove xs at
