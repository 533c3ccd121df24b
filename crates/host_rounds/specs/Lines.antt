-- What the program rounds prints: request 111 for each number of workers, 1 to 16, in lines. Bytes are numbers: 10 is a line feed,
-- 32 a space, 37 the sign %.
use Rattle.std.specs.Prelude.{ℕ, zero, suc, ◌*◌, ◌/◌, List, [], ◌∷◌, ◌++◌, cond, eqb, Option, Some, None}
use Rattle.library.specs.Library.{memory_of}
use Rattle.semantics.specs.Run.{fixed_weights}
use Rattle.semantics.specs.Operations.{Asked, denies, gives}
use Rattle.model_rounds.specs.Rounds.{Report, rounds_asked, most_workers}
use Rattle.wording.specs.Wording.{followed, line, refused_line}

-- how much of the workers' time is used, in whole percent: 100 × calls / (P × rounds), rounded down
unfoldable pub used : ℕ → ℕ → ℕ → ℕ
used calls workers rounds = 100 * calls / (workers * rounds)

-- `P ROUNDS USED%`
unfoldable pub row : ℕ → ℕ → ℕ → List ℕ
row workers rounds percent = followed workers 32 ++ followed rounds 32 ++ followed percent 37 ++ (10 ∷ [])

-- the lines of so many numbers of workers, from one on; `rounds` gives the rounds with each
unfoldable pub rows : ℕ → ℕ → ℕ → (ℕ → ℕ) → List ℕ
rows zero workers calls rounds = []
rows (suc more) workers calls rounds = row workers (rounds workers) (used calls workers (rounds workers)) ++ rows more (suc workers) calls rounds

-- the least of so many numbers of workers, from one on, whose rounds equal the span, if there is one
unfoldable pub enough_from : ℕ → ℕ → ℕ → (ℕ → ℕ) → Option ℕ
enough_from zero workers span rounds = None
enough_from (suc more) workers span rounds =
    cond (eqb (rounds workers) span) (Some workers) (enough_from more (suc workers) span rounds)

-- `calls `, `span `, `enough ` and `none`, the last with the line's end
abbrev pub calls_word : List ℕ
calls_word = 99 ∷ 97 ∷ 108 ∷ 108 ∷ 115 ∷ 32 ∷ []

abbrev pub span_word : List ℕ
span_word = 115 ∷ 112 ∷ 97 ∷ 110 ∷ 32 ∷ []

abbrev pub enough_word : List ℕ
enough_word = 101 ∷ 110 ∷ 111 ∷ 117 ∷ 103 ∷ 104 ∷ 32 ∷ []

abbrev pub none_line : List ℕ
none_line = 110 ∷ 111 ∷ 110 ∷ 101 ∷ 10 ∷ []

-- `enough W`, or `enough none`
unfoldable pub enough_line : Option ℕ → List ℕ
enough_line None = enough_word ++ none_line
enough_line (Some workers) = enough_word ++ line workers

-- `calls C`, `span S`, the lines of 1 to 16 workers, `enough W`
unfoldable pub table_lines : ℕ → ℕ → (ℕ → ℕ) → List ℕ
table_lines calls span rounds =
    calls_word ++ line calls ++ span_word ++ line span ++ rows most_workers 1 calls rounds
    ++ enough_line (enough_from most_workers 1 span rounds)

-- the rounds of an answer
unfoldable pub rounds_in : Asked Report → ℕ
rounds_in (denies k) = 0
rounds_in (gives q) = q.rounds

-- `refused N`, or the table; what is asked with one worker says which, and the calls and the span
unfoldable pub printed : (ℕ → ℕ) → Asked Report → List ℕ
printed rounds (denies k) = refused_line k
printed rounds (gives q) = table_lines q.calls q.span rounds

-- what is asked with so many workers of the bytes of the two files, under today's weights
unfoldable pub files_asked : List ℕ → List ℕ → ℕ → Asked Report
files_asked jobs library workers = rounds_asked workers jobs (memory_of library) fixed_weights

-- how many places a lent slice needs: no table is longer
abbrev pub room : ℕ
room = 640

-- all that is printed for the bytes of the two files
unfoldable pub rounds_text : List ℕ → List ℕ → List ℕ
rounds_text jobs library = printed (λ workers. rounds_in (files_asked jobs library workers)) (files_asked jobs library 1)
