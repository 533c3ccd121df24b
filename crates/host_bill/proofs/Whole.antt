-- What the program bill prints is `hand_bill` of the bytes of the two files, and with a file of calls `calls_bill`, however that file
-- is cut into pieces. Assumes nothing.
use Prim.Native.Nat.{ℕ, zero, suc, ◌+◌, ◌≤◌}
use mathlib.Core.Path.{◌≡◌, refl, sym, ap, subst, ◌∙◌}
use mathlib.Core.List.{List, [], ◌∷◌, ◌++◌, append_assoc, append-nil}
use native.Mathlib.Omega.{arith}
use Rattle.std.specs.Prelude.{Result, Ok, Err, IsOkAnd}
use lib.ListN.{length}
use lib.Seq.{take_all}
use Rattle.tasklist.specs.TaskList.{TaskList}
use Rattle.tasklist.specs.Decode.{accepted, decode}
use Rattle.tasklist.specs.Encode.{joined}
use Rattle.tasklist.specs.Tables.{list_of}
use Rattle.tasklist.proofs.Guarantees.{accepted_list, accepted_same}
use Rattle.library.specs.Library.{memory_of}
use Rattle.semantics.specs.Run.{Context, context, fixed_weights, initial}
use Rattle.semantics.specs.Run as Semantics
use Rattle.semantics.specs.Call.{after_all}
use Rattle.semantics.specs.Sequential.{sequential}
use Rattle.semantics.specs.Operations.{gives, with_list, open_asked, sequential_asked}
use Rattle.semantics.proofs.Guarantee.{guarantee}
use Rattle.semantics.proofs.Asked.{AskedCase, denied, given as opens, asked_case}
use Rattle.runtime.specs.declared.Run.{Run}
use Rattle.runtime.specs.declared.OpenRefusal.{OpenRefusal}
use Rattle.runtime.specs.View.{model, context_of, SoundRun}
use Rattle.runtime.specs.Asked.{Unopened, Running, OpenedAs}
use Rattle.runtime.specs.Calls.{calls_of_kind, CallsMade}
use Rattle.runtime.proofs.ViewLaws.{same_context}
use Rattle.runtime.proofs.MadeLaws.{no_calls, calls_append}
use Rattle.lent.specs.declared.Lent.{Lent}
use Rattle.lent.specs.Pieces.{LentOf}
use Rattle.lent.specs.Lines.{calls_in}
use Rattle.wording.specs.Wording.{refused_line, printed}
use Rattle.wording.specs.Promises.{Wrote, given}
use Rattle.host_bill.specs.Lines.{bill_text, room, hand_bill, calls_bill}
use Rattle.host_bill.specs.Promises.{BillPrinted}
use Rattle.host_bill.specs.Statement.{all_of, Pieces, Led, HandBilled, CallsBilled, SameBill}

-- calls don't reach over the end of a piece of an even length
calls_even :
    (a b : List ℕ) (half : ℕ) → length a ≡ half + half → calls_in (a ++ b) ≡ calls_in a ++ calls_in b
unfolding calls_in
calls_even [] b half e = refl
calls_even (kind ∷ []) b half e = let bad : ⊥ = omega (arith, e) in absurd bad
calls_even (kind ∷ n ∷ a) b zero e = let bad : ⊥ = omega (arith, e) in absurd bad
calls_even (kind ∷ n ∷ a) b (suc half) e =
    ap (λ l. calls_of_kind kind n ++ l) (calls_even a b half (omega (arith, e)))
    ∙ sym (append_assoc (calls_of_kind kind n) (calls_in a) (calls_in b))

piece_made : (piece : List ℕ) (run : Run) (r : Lent) → length piece ≤ 512 → LentOf piece run r → CallsMade (calls_in piece) run r.run
piece_made piece run r most h =
    subst (λ l. CallsMade (calls_in l) run r.run) (take_all 512 piece most) h.made

fed_made : (pieces : List (List ℕ)) (run last : Run) → Pieces run pieces last → CallsMade (calls_in (all_of pieces)) run last
unfolding joined calls_in
fed_made [] run last e = subst (CallsMade [] run) e (no_calls run)
fed_made (piece ∷ []) run last (most, r, h, e) =
    subst (λ l. CallsMade (calls_in l) run last) (sym (append-nil piece))
    (subst (CallsMade (calls_in piece) run) e (piece_made piece run r most h))
fed_made (piece ∷ next ∷ pieces) run last (most, half, even, r, h, rest) =
    subst (λ l. CallsMade l run last) (sym (calls_even piece (all_of (next ∷ pieces)) half even))
    (calls_append (calls_in piece) (calls_in (all_of (next ∷ pieces))) run r.run last (piece_made piece run r most h)
    (fed_made (next ∷ pieces) r.run last rest))

-- p leads on from o, by g; a refusal stays
abbrev Leads : (Context → Semantics.Run → Semantics.Run) → Result Run OpenRefusal → Result Run OpenRefusal → Type 0
Leads g (Ok run) (Ok last) =
    SoundRun run → SoundRun last × (context_of last ≡ context_of run) × (model last ≡ g (context_of run) (model run))
Leads g (Ok run) (Err k) = ⊥
Leads g (Err k) p = p ≡ Err k

-- What is printed of a run that leads on from the one that was asked for: `f` is what is asked of a list, `g` what it leads to.
module _
    (jobs memory : List ℕ) (f : Context → Semantics.Run) (g : Context → Semantics.Run → Semantics.Run)
    (bill : ℕ) (before after : List ℕ) (n : ℕ)
  where
    abbrev text : Context → List ℕ
    text c = bill_text c (g c (f c)) bill

    abbrev Shown : List ℕ → Type 0
    Shown bytes = Wrote (given room before bytes) before after n

    refusal : (k : ℕ) (o p : Result Run OpenRefusal) → Leads g o p → BillPrinted p bill before after n → Unopened k o → Shown (refused_line k)
    refusal k (Ok run) p led b u = absurd u
    refusal k (Err e) p led b u =
        subst (λ j. Shown (refused_line j)) u (subst (λ q. BillPrinted q bill before after n) led b).refused

    running :
        (l : TaskList) → decode jobs ≡ accepted l → (o p : Result Run OpenRefusal) → Leads g o p → BillPrinted p bill before after n
        → IsOkAnd o (Running jobs fixed_weights (f (context l fixed_weights))) → Shown (text (context l fixed_weights))
    running l q (Err k) p led b r = absurd r
    running l q (Ok run) (Err k) led b r = absurd led
    running l q (Ok run) (Ok last) led b r =
        let same : list_of run.tables ≡ l = accepted_same (list_of run.tables) l (sym r.list ∙ q) in
        let under : context_of run ≡ context l fixed_weights = λ i. context (same i) (r.table i) in
        let on = led r.sound in
        subst Shown
        (ap (λ m. bill_text (context_of last) m bill) (on.2 ∙ ap (g (context_of run)) r.run)
        ∙ ap (λ c. bill_text c (g (context_of run) (f (context l fixed_weights))) bill) (on.1 ∙ under)
        ∙ ap (λ c. bill_text (context l fixed_weights) (g c (f (context l fixed_weights))) bill) under)
        (b.lines on.0)

    shown :
        (o p : Result Run OpenRefusal) → OpenedAs jobs fixed_weights (with_list (decode jobs) memory fixed_weights f) o → Leads g o p
        → BillPrinted p bill before after n → Shown (printed (with_list (decode jobs) memory fixed_weights text))
    unfolding printed
    shown o p h led b = by_case (asked_case jobs memory fixed_weights)
      where
        by_case : AskedCase jobs memory fixed_weights → Shown (printed (with_list (decode jobs) memory fixed_weights text))
        by_case (denied k some e) =
            subst Shown (sym (ap printed (e (List ℕ) text)))
            (refusal k o p led b (subst (λ a. OpenedAs jobs fixed_weights a o) (e Semantics.Run f) h))
        by_case (opens l q fits ok e) =
            subst Shown (sym (ap printed (e (List ℕ) text)))
            (running l q o p led b (subst (λ a. OpenedAs jobs fixed_weights a o) (e Semantics.Run f) h))

-- without calls
itself : (o : Result Run OpenRefusal) → Leads (λ c r. r) o o
itself (Ok run) = λ s. (s, refl, refl)
itself (Err k) = refl

pub hand_billed : HandBilled
unfolding hand_bill sequential_asked
hand_billed jobs library o bill before after n h b =
    shown jobs (memory_of library) (λ c. sequential c (memory_of library)) (λ c r. r) bill before after n o o h (itself o) b

-- with a file of calls
by_pieces :
    (pieces : List (List ℕ)) (o led : Result Run OpenRefusal) → Led o pieces led
    → Leads (λ c r. after_all c r (calls_in (all_of pieces))) o led
by_pieces pieces (Err k) led h = h
by_pieces pieces (Ok run) (Err k) h = h
by_pieces pieces (Ok run) (Ok last) h =
    let made = fed_made pieces run last h in
    λ s. (made.sound s, same_context last run made.list made.weights, made.run s)

pub calls_billed : CallsBilled
unfolding calls_bill open_asked
calls_billed jobs library o led bill before after n h pieces f b =
    shown jobs (memory_of library) (λ c. initial c (memory_of library)) (λ c r. after_all c r (calls_in (all_of pieces)))
    bill before after n o led h (by_pieces pieces o led f) b

-- calls that leave no job
pub same_bill : SameBill
unfolding calls_bill hand_bill
same_bill jobs library input l q done bill = by_case (asked_case jobs (memory_of library) fixed_weights)
  where
    after_calls : Context → List ℕ
    after_calls c = bill_text c (after_all c (initial c (memory_of library)) (calls_in input)) bill

    by_hand : Context → List ℕ
    by_hand c = bill_text c (sequential c (memory_of library)) bill

    by_case :
        AskedCase jobs (memory_of library) fixed_weights
        → printed (with_list (decode jobs) (memory_of library) fixed_weights after_calls)
        ≡ printed (with_list (decode jobs) (memory_of library) fixed_weights by_hand)
    by_case (denied k some e) = ap printed (e (List ℕ) after_calls ∙ sym (e (List ℕ) by_hand))
    by_case (opens k listed fits ok e) =
        let same : k ≡ l = accepted_same k l (sym listed ∙ q) in
        let c = context k fixed_weights in
        let over : (after_all c (initial c (memory_of library)) (calls_in input)).order ≡ [] =
        ap
        (λ x. (after_all (context x fixed_weights) (initial (context x fixed_weights) (memory_of library)) (calls_in input)).order)
        same
        ∙ done in
        ap printed
        (e (List ℕ) after_calls
        ∙ ap (λ r. gives (bill_text c r bill)) ((guarantee c (accepted_list jobs k listed) (memory_of library) (calls_in input)).whole over)
        ∙ sym (e (List ℕ) by_hand))
