-- Where a list is refused: "a field (mark, number, line, instruction) is taken only when whole, else 1; it is tested when
-- taken". So the shortest part from the front, of a byte or more, whose answer isn't 1 ends with the field that is refused;
-- with bytes left over it is the list that is followed by them.
use Rattle.std.specs.Prelude.{ℕ, List, [], ◌∷◌, Bool, true, false, not, eqb, length, take}
use Rattle.tasklist.specs.Decode.{decode}
use Rattle.tasklist.specs.Answers.{Answer, refuses, gives, check_answer}
use Rattle.finding.specs.Search.{first_from}

-- an answer other than refusal 1
abbrev pub whole_answer : Answer → Bool
whole_answer (gives n) = true
whole_answer (refuses k) = not (eqb k 1)

-- a part from the front of a list that cuts no field off; the empty part cuts the first off, though a file of no bytes is
-- a list of its own
unfoldable pub is_whole : List ℕ → Bool
is_whole [] = false
is_whole (x ∷ b) = whole_answer (check_answer (decode (x ∷ b)))

unfoldable pub shortest_whole : List ℕ → ℕ
shortest_whole b = first_from (λ n. is_whole (take n b)) 0 (length b)
