-- THE LAW OF THE COORDINATOR: however the input is cut into pieces of at most 511 bytes, feeding them one after the other, then the line of half
-- a call and the closing lines, prints exactly the transcript of the whole input. Assumes nothing.
use Prim.Native.Nat.{ℕ, ◌+◌, ◌*◌, ◌/◌, ◌≤◌}
use mathlib.Core.Path.{◌≡◌, refl, sym, ap, subst, ◌∙◌}
use mathlib.Core.List.{List, [], ◌∷◌, ◌++◌, append-nil, append_assoc}
use lib.ListN.{length, take, drop}
use lib.Seq.{take_at, take-length}
use Rattle.tasklist.specs.TaskList.{TaskList}
use Rattle.tasklist.specs.Decode.{accepted, decode}
use Rattle.tasklist.specs.Encode.{joined}
use Rattle.tasklist.specs.Tables.{list_of}
use Rattle.tasklist.proofs.Guarantees.{accepted_same}
use Rattle.library.specs.Library.{memory_of}
use Rattle.semantics.specs.Run.{Context, context, fixed_weights, initial}
use Rattle.semantics.specs.Run as Semantics
use Rattle.semantics.specs.Call.{after_all}
use Rattle.semantics.specs.Operations.{Asked, with_list, open_asked}
use Rattle.semantics.proofs.Asked.{AskedCase, denied, given as opens, asked_case}
use Rattle.runtime.specs.declared.Run.{Run}
use Rattle.runtime.specs.declared.OpenRefusal.{OpenRefusal}
use Rattle.runtime.specs.View.{model, context_of, SoundRun}
use Rattle.runtime.specs.Asked.{open_number, Unopened, Running, OpenedAs}
use Rattle.runtime.specs.Calls.{calls_of_kind}
use Rattle.runtime.proofs.ViewLaws.{same_context}
use Rattle.runtime.proofs.MadeLaws.{after_append}
use Rattle.lent.specs.Lines.{calls_in, lines}
use Rattle.lent.specs.Lines as Called
use Rattle.std.specs.Prelude.{Option, Some, None, Result, Ok, Err, IsOkAnd}
use Rattle.wording.specs.Wording.{line, closing, refused_line, printed}
use Rattle.wording.specs.Promises.{given, Wrote, half_bytes}
use Rattle.wording.proofs.WroteLaws.{with_room}
use Rattle.transcript.specs.declared.Fed.{Fed}
use Rattle.transcript.specs.Transcript.{lines_from, transcript}
use Rattle.transcript.specs.Promises.{whole_of, half_of, pending_bytes, FedAs}
use Rattle.transcript.proofs.PieceLaws.{exceeds_none, used_all}

-- these bytes were written at the front of a lent slice that has room for them, and then printed
pub record Printed (room : ℕ) (bytes shown : List ℕ) : Type 0 where
  pub before : List ℕ
  pub after : List ℕ
  pub count : ℕ
  pub wrote : Wrote (given room before bytes) before after count
  pub enough : room ≤ length before
  pub shown_is : shown ≡ take count after

-- a piece was fed to a run, and the lines that it wrote were printed
pub record Turn (run : Run) (p : Option ℕ) (piece : List ℕ) (f : Fed) (shown : List ℕ) : Type 0 where
  pub before : List ℕ
  pub after : List ℕ
  pub fed : FedAs run p piece before after f
  pub short : length piece ≤ 511
  pub enough : 4 * (length piece / 2 + 1) ≤ length before
  pub shown_is : shown ≡ take f.wrote after

-- The program's loop from a run and a pending byte on: a turn for each piece, then half_line and closing_lines.
abbrev pub Session : Run → Option ℕ → List (List ℕ) → List ℕ → Type 0
Session run p [] shown =
    (half : List ℕ) × (last : List ℕ) × Printed 3 (half_bytes p) half × Printed 737 (closing (model run)) last × (shown ≡ half ++ last)
Session run p (piece ∷ pieces) shown =
    (f : Fed) × (now_shown : List ℕ) × (later : List ℕ) × Turn run p piece f now_shown × Session f.run f.pending pieces later
    × (shown ≡ now_shown ++ later)

-- The program behind open: the line of a failed open, "Else" the loop on the fresh run.
abbrev pub Coordinated : Result Run OpenRefusal → List (List ℕ) → List ℕ → Type 0
Coordinated (Ok run) pieces shown = Session run None pieces shown
Coordinated (Err k) pieces shown = Printed 11 (refused_line (open_number k)) shown

-- the whole input
abbrev pub all_of : List (List ℕ) → List ℕ
all_of pieces = joined (λ piece. piece) pieces

-- what was written at the front and then printed
wrote_is : (bytes before after shown : List ℕ) (n : ℕ) → Wrote bytes before after n → shown ≡ take n after → shown ≡ bytes
wrote_is bytes before after shown n w e =
    e ∙ ap (take n) w.places ∙ take_at bytes (drop (length bytes) before) n (sym w.count)

printed_is : (room : ℕ) (bytes shown : List ℕ) → Printed room bytes shown → shown ≡ bytes
printed_is room bytes shown p =
    wrote_is (given room p.before bytes) p.before p.after shown p.count p.wrote p.shown_is
    ∙ with_room room p.before bytes p.enough

-- the numbers of the calls that are whole in these bytes, each on a line
abbrev whole_lines : Context → Semantics.Run → List ℕ → List ℕ
whole_lines c r bytes = joined line (lines c r (whole_of bytes))

-- the run that they leave
abbrev whole_run : Context → Semantics.Run → List ℕ → Semantics.Run
whole_run c r bytes = after_all c r (calls_in bytes)

-- a call in front of the rest
lines_next :
    (c : Context) (r : Semantics.Run) (kind n : ℕ) (input : List ℕ)
    → lines_from c r (kind ∷ n ∷ input) ≡ line (Called.line c r kind n) ++ lines_from c (after_all c r (calls_of_kind kind n)) input
unfolding lines_from lines calls_in joined
lines_next c r kind n input =
    let after = after_all c r (calls_of_kind kind n) in
    let first = line (Called.line c r kind n) in
    ap (λ x. first ++ joined line (lines c after input) ++ closing x) (after_append c r (calls_of_kind kind n) (calls_in input))
    ∙ append_assoc first (joined line (lines c after input)) (closing (after_all c after (calls_in input)))

-- the lines of two parts of the input, one behind the other
lines_split :
    (c : Context) (r : Semantics.Run) (a b : List ℕ) → lines_from c r (a ++ b) ≡ whole_lines c r a ++ lines_from c (whole_run c r a) (half_of a ++ b)
unfolding whole_of half_of lines calls_in joined after_all
lines_split c r [] b = refl
lines_split c r (kind ∷ []) b = refl
lines_split c r (kind ∷ n ∷ a) b =
    let after = after_all c r (calls_of_kind kind n) in
    let first = line (Called.line c r kind n) in
    lines_next c r kind n (a ++ b)
    ∙ ap (λ l. first ++ l) (lines_split c after a b)
    ∙ sym (append_assoc first (whole_lines c after a) (lines_from c (whole_run c after a) (half_of a ++ b)))
    ∙ ap (λ x. first ++ whole_lines c after a ++ lines_from c x (half_of a ++ b)) (sym (after_append c r (calls_of_kind kind n) (calls_in a)))

lines_end : (c : Context) (r : Semantics.Run) (p : Option ℕ) → lines_from c r (pending_bytes p ++ []) ≡ half_bytes p ++ closing r
unfolding lines_from pending_bytes half_bytes lines calls_in joined after_all
lines_end c r None = refl
lines_end c r (Some k) = ap (λ l. l ++ closing r) (append-nil (line 18))

-- from a run and a pending byte on
pub session_lines :
    (pieces : List (List ℕ)) (run : Run) (p : Option ℕ) (shown : List ℕ) → SoundRun run → Session run p pieces shown
    → shown ≡ lines_from (context_of run) (model run) (pending_bytes p ++ all_of pieces)
unfolding joined
session_lines [] run p shown s (half, last, h, l, e) =
    e ∙ ap (λ x. x ++ last) (printed_is 3 (half_bytes p) half h) ∙ ap (λ x. half_bytes p ++ x) (printed_is 737 (closing (model run)) last l)
    ∙ sym (lines_end (context_of run) (model run) p)
session_lines (piece ∷ pieces) run p shown s (f, now_shown, later, t, rest, e) =
    let c = context_of run in
    let fed = t.fed.fed in
    let bytes = pending_bytes p ++ piece in
    let whole : pending_bytes p ++ take f.used piece ≡ bytes =
    ap (λ k. pending_bytes p ++ take k piece) (t.fed.used ∙ used_all run p piece t.before (exceeds_none (length piece) (length t.before) t.short t.enough)) ∙ ap (λ l. pending_bytes p ++ l) (take-length piece) in
    let lines : now_shown ≡ whole_lines c (model run) bytes =
    wrote_is (whole_lines c (model run) (pending_bytes p ++ take f.used piece)) t.before t.after now_shown f.wrote (fed.lines s) t.shown_is
    ∙ ap (whole_lines c (model run)) whole in
    let left : later ≡ lines_from c (whole_run c (model run) bytes) (half_of bytes ++ all_of pieces) =
    session_lines pieces f.run f.pending later (fed.made.sound s) rest
    ∙ ap (λ x. lines_from x (model f.run) (pending_bytes f.pending ++ all_of pieces))
    (same_context f.run run fed.made.list fed.made.weights)
    ∙ ap (λ m. lines_from c m (pending_bytes f.pending ++ all_of pieces)) (fed.made.run s ∙ ap (whole_run c (model run)) whole)
    ∙ ap (λ q. lines_from c (whole_run c (model run) bytes) (q ++ all_of pieces)) (fed.pending ∙ ap half_of whole) in
    e ∙ ap (λ x. x ++ later) lines ∙ ap (λ x. whole_lines c (model run) bytes ++ x) left
    ∙ sym (lines_split c (model run) bytes (all_of pieces))
    ∙ ap (lines_from c (model run)) (append_assoc (pending_bytes p) piece (all_of pieces))

-- The law
pub prints_the_transcript :
    (jobs library : List ℕ) (o : Result Run OpenRefusal) → OpenedAs jobs fixed_weights (open_asked jobs (memory_of library) fixed_weights) o
    → (pieces : List (List ℕ)) (shown : List ℕ) → Coordinated o pieces shown → shown ≡ transcript jobs library (all_of pieces)
unfolding open_asked transcript printed pending_bytes
prints_the_transcript jobs library o h pieces shown t = by_case (asked_case jobs memory fixed_weights)
  where
    memory : List ℕ
    memory = memory_of library

    input : List ℕ
    input = all_of pieces

    lines : Context → List ℕ
    lines c = lines_from c (initial c memory) input

    refusal : (k : ℕ) (r : Result Run OpenRefusal) → Coordinated r pieces shown → Unopened k r → shown ≡ refused_line k
    refusal k (Ok run) p u = absurd u
    refusal k (Err e) p u = printed_is 11 (refused_line (open_number e)) shown p ∙ ap refused_line u

    running :
        (l : TaskList) → decode jobs ≡ accepted l → (r : Result Run OpenRefusal) → Coordinated r pieces shown
        → IsOkAnd r (Running jobs fixed_weights (initial (context l fixed_weights) memory)) → shown ≡ lines (context l fixed_weights)
    running l q (Err e) p r = absurd r
    running l q (Ok run) p r =
        let same : list_of run.tables ≡ l = accepted_same (list_of run.tables) l (sym r.list ∙ q) in
        let under : context_of run ≡ context l fixed_weights = λ i. context (same i) (r.table i) in
        session_lines pieces run None shown r.sound p
        ∙ ap (λ m. lines_from (context_of run) m (pending_bytes None ++ input)) r.run
        ∙ ap (λ c. lines_from c (initial (context l fixed_weights) memory) (pending_bytes None ++ input)) under

    opened : Asked Semantics.Run → Type 0
    opened a = OpenedAs jobs fixed_weights a o

    by_case : AskedCase jobs memory fixed_weights → shown ≡ printed (with_list (decode jobs) memory fixed_weights lines)
    by_case (denied k some e) =
        refusal k o t (subst opened (e Semantics.Run (λ c. initial c memory)) h) ∙ ap printed (sym (e (List ℕ) lines))
    by_case (opens l q fits ok e) =
        running l q o t (subst opened (e Semantics.Run (λ c. initial c memory)) h) ∙ ap printed (sym (e (List ℕ) lines))
