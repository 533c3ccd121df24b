-- What a row, or a whole list, that was taken tells: each of its items was taken, one behind the other.
use Prim.Native.Nat.{ℕ, zero, suc, ◌+◌, ◌≤◌, ◌<◌}
use mathlib.Core.Path.{◌≡◌, refl, sym, ap, ◌∙◌, subst, subst₂}
use mathlib.Core.List.{List, [], ◌∷◌, ◌++◌, append-nil}
use mathlib.Core.Bool.{Bool, true, false, cond}
use native.Mathlib.Omega.{arith}
use native.Mathlib.Nat.{add-zero, zero-add}
use lib.ListN.{length, get_or, get_or-eq_default}
use lib.Seq.{append_snoc}
use lib.Dec.{leb}
use borrow.Author.Tests.{leb-true, leb-false}
use Rattle.tasklist.specs.declared.Header.{Header}
use Rattle.tasklist.specs.declared.Line.{Line}
use Rattle.tasklist.specs.declared.Instruction.{Instruction}
use Rattle.tasklist.specs.TaskList.{TaskList, task_count}
use Rattle.tasklist.specs.Fields.{Taken, bad, took, and_then, counted, many, row}
use Rattle.tasklist.specs.Decode.{head, footprint, body, list_behind, refused, accepted, sized, finish, decode}
use Rattle.tasklist.specs.Encode.{marked}
use Rattle.tasklist.proofs.TakenLaws.{split, counted_most}
use Rattle.tasklist.proofs.ReaderLaws.{decode_marked}

-- the items of l, from number i on, taken one behind the other from b, up to rest
abbrev pub Chain : {A : Type 0} → (ℕ → List ℕ → Taken A) → ℕ → List ℕ → List A → List ℕ → Type 0
Chain item i b [] rest = b ≡ rest
Chain item i b (a ∷ l) rest = (between : List ℕ) × (item i b ≡ took a between) × Chain item (suc i) between l rest

-- what `many` took, besides what was done before
record ManyTaken (A : Type 0) (item : ℕ → List ℕ → Taken A) (i n : ℕ) (done : List A) (b : List ℕ) (l : List A) (rest : List ℕ) : Type 0 where
  new : List A
  all : l ≡ done ++ new
  size : length new ≡ n
  chain : Chain item i b new rest

many_taken : {A : Type 0} (item : ℕ → List ℕ → Taken A) (i n : ℕ) (done : List A) (b : List ℕ) (l : List A) (rest : List ℕ)
    → many item i n done b ≡ took l rest → ManyTaken A item i n done b l rest
unfolding many
many_taken item i zero done b l rest e = record { new = []; all = sym (append-nil done ∙ cc); size = refl; chain = cc }
many_taken item i (suc n) done b l rest e =
    let s = split (item i b) (λ a b₁. many item (suc i) n (done ++ (a ∷ [])) b₁) l rest e in
    let m = many_taken item (suc i) n (done ++ (s.first ∷ [])) s.between l rest s.took_next in
    record {
      new = s.first ∷ m.new;
      all = m.all ∙ append_snoc done s.first m.new;
      size = ap suc m.size;
      chain = (s.between, s.took_first, m.chain);
    }

record Whole (A : Type 0) (item : ℕ → List ℕ → Taken A) (n : ℕ) (b : List ℕ) (l : List A) (rest : List ℕ) : Type 0 where
  size : length l ≡ n
  chain : Chain item 0 b l rest

many_whole : {A : Type 0} (item : ℕ → List ℕ → Taken A) (n : ℕ) (b : List ℕ) (l : List A) (rest : List ℕ)
    → many item 0 n [] b ≡ took l rest → Whole A item n b l rest
many_whole {A} item n b l rest e =
    let m = many_taken item 0 n [] b l rest e in
    record {
      size = ap length m.all ∙ m.size;
      chain = subst (λ (x : List A). Chain item 0 b x rest) (sym m.all) m.chain;
    }

-- an item of a chain was taken, by its number
pub record TakenAt (A : Type 0) (item : List ℕ → Taken A) (a : A) : Type 0 where
  pub before : List ℕ
  pub behind : List ℕ
  pub taken : item before ≡ took a behind

chain_from : {A : Type 0} (item : ℕ → List ℕ → Taken A) (i : ℕ) (b : List ℕ) (l : List A) (rest : List ℕ) (j : ℕ) (d : A)
    → Chain item i b l rest → j < length l → TakenAt A (item (i + j)) (get_or l j d)
chain_from item i b [] rest j d c h = let z : ⊥ = omega arith in absurd z
chain_from item i b (a ∷ l) rest zero d c h = record { before = b; behind = c.0; taken = rw (add-zero i) c.1 }
chain_from {A} item i b (a ∷ l) rest (suc j) d c h =
    let q : suc i + j ≡ i + suc j = omega arith in
    let t = chain_from item (suc i) c.0 l rest j d c.2 (omega arith) in
    rw q at t

pub chain_at : {A : Type 0} (item : ℕ → List ℕ → Taken A) (b : List ℕ) (l : List A) (rest : List ℕ) (j : ℕ) (d : A)
    → Chain item 0 b l rest → j < length l → TakenAt A (item j) (get_or l j d)
chain_at {A} item b l rest j d c h =
    subst (λ (k : ℕ). TakenAt A (item k) (get_or l j d)) (zero-add j) (chain_from item 0 b l rest j d c h)

-- a row that was taken: its size is the count behind its mark
pub record RowTaken (A : Type 0) (second most k : ℕ) (item : ℕ → ℕ → List ℕ → Taken A) (b : List ℕ) (l : List A) (rest : List ℕ) : Type 0 where
  pub between : List ℕ
  pub count : counted second most k b ≡ took (length l) between
  pub few : length l ≤ most
  pub chain : Chain (item (length l)) 0 between l rest

pub row_taken : {A : Type 0} (second most k : ℕ) (item : ℕ → ℕ → List ℕ → Taken A) (b : List ℕ) (l : List A) (rest : List ℕ)
    → row second most k item b ≡ took l rest → RowTaken A second most k item b l rest
unfolding row
row_taken second most k item b l rest e =
    let s = split (counted second most k b) (λ n b₁. many (item n) 0 n [] b₁) l rest e in
    let n = s.first in
    let m = many_whole (item n) n s.between l rest s.took_next in
    let q : n ≡ length l = sym m.size in
    let count : counted second most k b ≡ took (length l) s.between = s.took_first ∙ ap (λ (x : ℕ). took x s.between) q in
    record {
      between = s.between;
      count = count;
      few = counted_most second most k b (length l) s.between count;
      chain = subst (λ (x : ℕ). Chain (item x) 0 s.between l rest) q m.chain;
    }

-- rows one behind the other: item s n i takes item i of row s, which has n of them; what holds of every item so taken
-- holds at every place of every row
pub record RowOk (A : Type 0) (most : ℕ) (Ok : ℕ → ℕ → A → Type 0) (d : A) (l : List A) : Type 0 where
  pub few : length l ≤ most
  pub each : (i : ℕ) → i < length l → Ok (length l) i (get_or l i d)

module _ {A : Type 0} (second most k : ℕ) (item : ℕ → ℕ → ℕ → List ℕ → Taken A) (Ok : ℕ → ℕ → ℕ → A → Type 0) (d : A)
    (holds : (s n i : ℕ) (a : A) → TakenAt A (item s n i) a → Ok s n i a) where
  row_ok : (s : ℕ) (l : List A) → TakenAt (List A) (row second most k (item s)) l → RowOk A most (Ok s) d l
  row_ok s l t =
      let r = row_taken second most k (item s) t.before l t.behind t.taken in
      record {
        few = r.few;
        each = λ i h. holds s (length l) i (get_or l i d) (chain_at (item s (length l)) r.between l t.behind i d r.chain h);
      }

  pub rows_ok : (b : List ℕ) (ls : List (List A)) (rest : List ℕ) → Chain (λ s. row second most k (item s)) 0 b ls rest
      → (s : ℕ) → RowOk A most (Ok s) d (get_or ls s [])
  rows_ok b ls rest c s = by_place (leb (length ls) s) refl
    where
      none_there : RowOk A most (Ok s) d []
      none_there = record { few = omega arith; each = λ i h. let z : ⊥ = omega arith in absurd z }

      by_place : (t : Bool) → leb (length ls) s ≡ t → RowOk A most (Ok s) d (get_or ls s [])
      by_place true q = rw (get_or-eq_default ls [] (leb-true (length ls) s q)) none_there
      by_place false q =
          row_ok s (get_or ls s []) (chain_at (λ s. row second most k (item s)) b ls rest s [] c (leb-false (length ls) s q))

-- the head of a list
abbrev pub header_of : TaskList → Header
header_of l = record { locations = l.locations; footprints = length l.footprints; bodies = length l.bodies }

-- an accepted list: its head, its footprints and its bodies were taken, and nothing is left
pub record ListTaken (b : List ℕ) (l : TaskList) : Type 0 where
  pub behind_head : List ℕ
  pub behind_footprints : List ℕ
  pub took_head : head b ≡ took (header_of l) behind_head
  pub footprints : Chain (λ _. footprint l.locations) 0 behind_head l.footprints behind_footprints
  pub bodies : Chain (body (header_of l)) 0 behind_footprints l.bodies []
  pub few_tasks : task_count l 0 ≤ 128

record Finished (t : Taken TaskList) (l : TaskList) : Type 0 where
  all : t ≡ took l []
  few : task_count l 0 ≤ 128

finished : (t : Taken TaskList) (l : TaskList) → finish t ≡ accepted l → Finished t l
unfolding finish sized
finished (bad k) l e = let z : ◌≡◌ {A = ℕ} 0 1 = cc in let y : ⊥ = omega arith in absurd y
finished (took x (r ∷ rest)) l e = let z : ◌≡◌ {A = ℕ} 0 1 = cc in let y : ⊥ = omega arith in absurd y
finished (took x []) l e = by_count (leb (task_count x 0) 128) refl e
  where
    by_count : (t : Bool) → leb (task_count x 0) 128 ≡ t → cond t (accepted x) (refused 7) ≡ accepted l → Finished (took x []) l
    by_count true q f =
        let same : x ≡ l = cc in
        record { all = ap (λ (y : TaskList). took y []) same; few = rw same at (leb-true (task_count x 0) 128 q) }
    by_count false q f = let z : ◌≡◌ {A = ℕ} 0 1 = cc in let y : ⊥ = omega arith in absurd y

list_behind_taken : (b : List ℕ) (l : TaskList) → finish (and_then (head b) list_behind) ≡ accepted l → ListTaken b l
unfolding list_behind
list_behind_taken b l e =
    let f = finished (and_then (head b) list_behind) l e in
    let s₀ = split (head b) list_behind l [] f.all in
    let h = s₀.first in
    let b₁ = s₀.between in
    let s₁ = split (many (λ _. footprint h.locations) 0 h.footprints [] b₁)
    (λ fs b₂. and_then (many (body h) 0 h.bodies [] b₂) λ bs b₃. took (record { locations = h.locations; footprints = fs; bodies = bs }) b₃)
    l [] s₀.took_next in
    let fs = s₁.first in
    let b₂ = s₁.between in
    let s₂ = split (many (body h) 0 h.bodies [] b₂) (λ bs b₃. took (record { locations = h.locations; footprints = fs; bodies = bs }) b₃) l [] s₁.took_next in
    let bs = s₂.first in
    let b₃ = s₂.between in
    go h b₁ fs b₂ bs b₃ s₀.took_first s₁.took_first s₂.took_first s₂.took_next f.few
  where
    go : (h : Header) (b₁ : List ℕ) (fs : List (List Line)) (b₂ : List ℕ) (bs : List (List Instruction)) (b₃ : List ℕ)
        → head b ≡ took h b₁
        → many (λ _. footprint h.locations) 0 h.footprints [] b₁ ≡ took fs b₂
        → many (body h) 0 h.bodies [] b₂ ≡ took bs b₃
        → took (record { locations = h.locations; footprints = fs; bodies = bs }) b₃ ≡ took l []
        → task_count l 0 ≤ 128 → ListTaken b l
    go h b₁ fs b₂ bs b₃ p q r t few =
        let m = many_whole (λ _. footprint h.locations) h.footprints b₁ fs b₂ q in
        let n = many_whole (body h) h.bodies b₂ bs b₃ r in
        let list : TaskList = record { locations = h.locations; footprints = fs; bodies = bs } in
        let same : list ≡ l = cc in
        let ended : b₃ ≡ [] = cc in
        let its_head : h ≡ header_of list = λ i. record { locations = h.locations; footprints = sym m.size i; bodies = sym n.size i } in
        let w : ListTaken b list = record {
          behind_head = b₁;
          behind_footprints = b₂;
          took_head = p ∙ ap (λ (x : Header). took x b₁) its_head;
          footprints = m.chain;
          bodies = subst₂ (λ (x : Header) (r : List ℕ). Chain (body x) 0 b₂ bs r) its_head ended n.chain;
          few_tasks = rw same few;
        } in
        subst (ListTaken b) same w

pub list_taken : (b : List ℕ) (l : TaskList) → decode b ≡ accepted l → ListTaken (marked b) l
list_taken b l e = list_behind_taken (marked b) l (sym (decode_marked b) ∙ e)
