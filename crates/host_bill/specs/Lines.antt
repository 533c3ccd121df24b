-- What the program bill prints: request 114, in lines. Bytes are numbers: 10 is a line feed, 32 a space.
use Rattle.std.specs.Prelude.{ℕ, List, [], ◌∷◌, ◌++◌, length}
use Rattle.tasklist.specs.Decode.{decode}
use Rattle.library.specs.Library.{memory_of}
use Rattle.semantics.specs.Run.{Run, Context, fixed_weights, initial}
use Rattle.semantics.specs.Call.{after_all}
use Rattle.semantics.specs.Sequential.{sequential}
use Rattle.semantics.specs.Operations.{Asked, denies, gives, with_list}
use Rattle.bill_shares.specs.Shares.{whole}
use Rattle.model_bill.specs.Bill.{wards, ward_weights, shares_asked}
use Rattle.lent.specs.Lines.{calls_in}
use Rattle.wording.specs.Wording.{followed, line, refused_line, printed}

-- `job `, `wards `, `weight ` and `pence `
abbrev pub job_word : List ℕ
job_word = 106 ∷ 111 ∷ 98 ∷ 32 ∷ []

abbrev pub wards_word : List ℕ
wards_word = 119 ∷ 97 ∷ 114 ∷ 100 ∷ 115 ∷ 32 ∷ []

abbrev pub weight_word : List ℕ
weight_word = 119 ∷ 101 ∷ 105 ∷ 103 ∷ 104 ∷ 116 ∷ 32 ∷ []

abbrev pub pence_word : List ℕ
pence_word = 112 ∷ 101 ∷ 110 ∷ 99 ∷ 101 ∷ 32 ∷ []

-- a line: a word with a number, a weight and pence
unfoldable pub told : List ℕ → ℕ → ℕ → ℕ → List ℕ
told word n weight pence = word ++ followed n 32 ++ weight_word ++ followed weight 32 ++ pence_word ++ line pence

-- `job J weight W pence P` for each ward
unfoldable pub ward_lines : List ℕ → List ℕ → List ℕ → List ℕ
ward_lines (n ∷ ns) (w ∷ ws) (p ∷ ps) = told job_word n w p ++ ward_lines ns ws ps
ward_lines (n ∷ ns) (w ∷ ws) [] = []
ward_lines (n ∷ ns) [] ps = []
ward_lines [] ws ps = []

-- `refused N`, or a line for each ward, last `wards N weight W pence B` with the sums
unfoldable pub lines_of : Context → Run → Asked (List ℕ) → List ℕ
lines_of c r (denies k) = refused_line k
lines_of c r (gives shares) =
    ward_lines (wards c r) (ward_weights c r) shares
    ++ told wards_word (length shares) (whole (ward_weights c r)) (whole shares)

-- of a run; no run has more than 127 wards
unfoldable pub bill_text : Context → Run → ℕ → List ℕ
bill_text c r bill = lines_of c r (shares_asked c r bill 128)

-- how many places a lent slice needs: no bill's lines are longer
abbrev pub room : ℕ
room = 6452

-- All that is printed, by the bytes of jobs.bin and library.bin, under today's weights: without a file of calls the hand run's bill,
unfoldable pub hand_bill : List ℕ → List ℕ → ℕ → List ℕ
hand_bill jobs library bill =
    let memory = memory_of library in
    printed (with_list (decode jobs) memory fixed_weights (λ c. bill_text c (sequential c memory) bill))

-- with one, by its bytes too, the bill of the run after its calls
unfoldable pub calls_bill : List ℕ → List ℕ → List ℕ → ℕ → List ℕ
calls_bill jobs library input bill =
    let memory = memory_of library in
    printed (with_list (decode jobs) memory fixed_weights (λ c. bill_text c (after_all c (initial c memory) (calls_in input)) bill))
