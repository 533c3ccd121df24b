-- Laws of the view: tasks and their rows, and runs of the model by their parts. Assumes nothing.
use Rattle.std.proofs.Common.{◌≡◌, ℕ, zero, suc, ◌+◌, ◌<◌, ◌≤◌, Bool, true, false, leb, List, [], ◌∷◌, length, get_or, set, replicate, sym, refl, ap, ◌∙◌, add-zero, zero-add, arith, leb-false, leb-true}
use lib.ListN.{get_or-eq_default}
use Rattle.tasklist.specs.Tables.{list_of}
use Rattle.semantics.specs.declared.Record.{Record}
use Rattle.semantics.specs.Run.{Task, context, never, no_modes, mode_of, task_of}
use Rattle.semantics.specs.Run as Semantics
use Rattle.semantics.specs.Answers.{task_from}
use Rattle.arrays.specs.Rows.{row}
use Rattle.arrays.proofs.RowLaws.{row_beyond}
use Rattle.plans.specs.View.{Parts, tasks_from, model, context_of, blank_record}

-- the same list and the same weights
pub same_context : (a b : Parts) → a.tables ≡ b.tables → a.weights ≡ b.weights → context_of a ≡ context_of b
same_context a b t w = λ i. context (list_of (t i)) (w i)

-- a run of the model is its parts
pub same_run :
    (a b : Semantics.Run) → a.memory ≡ b.memory → a.tasks ≡ b.tasks → a.order ≡ b.order → a.calls ≡ b.calls
    → a.weight ≡ b.weight → a ≡ b
same_run a b m t o c w =
    λ i. record { memory = m i; tasks = t i; order = o i; calls = c i; weight = w i }

pub tasks_length : (k : ℕ) (ts : List Record) (modes : List ℕ) → length (tasks_from k ts modes) ≡ length ts
unfolding tasks_from
tasks_length k [] modes = refl
tasks_length k (t ∷ ts) modes = ap suc (tasks_length (suc k) ts modes)

tasks_at :
    (k : ℕ) (ts : List Record) (modes : List ℕ) (n : ℕ) → n < length ts
    → get_or (tasks_from k ts modes) n never ≡ task_from (get_or ts n blank_record) (row (k + n) modes)
unfolding tasks_from
tasks_at k [] modes n h = let z : ⊥ = omega arith in absurd z
tasks_at k (t ∷ ts) modes zero h = ap (λ m. task_from t (row m modes)) (sym (add-zero k))
tasks_at k (t ∷ ts) modes (suc n) h =
    let q : suc k + n ≡ k + suc n = omega arith in
    tasks_at (suc k) ts modes n (omega arith) ∙ ap (λ m. task_from (get_or ts n blank_record) (row m modes)) q

tasks_set_from :
    (k : ℕ) (ts : List Record) (modes : List ℕ) (n : ℕ) (t : Record)
    → tasks_from k (set ts n t) modes ≡ set (tasks_from k ts modes) n (task_from t (row (k + n) modes))
unfolding tasks_from
tasks_set_from k [] modes zero t = refl
tasks_set_from k [] modes (suc n) t = refl
tasks_set_from k (x ∷ ts) modes zero t = ap (λ m. task_from t (row m modes) ∷ tasks_from (suc k) ts modes) (sym (add-zero k))
tasks_set_from k (x ∷ ts) modes (suc n) t =
    let q : suc k + n ≡ k + suc n = omega arith in
    ap (λ l. task_from x (row k modes) ∷ l)
    (tasks_set_from (suc k) ts modes n t ∙ ap (λ m. set (tasks_from (suc k) ts modes) n (task_from t (row m modes))) q)

-- another record of task n
pub tasks_set :
    (ts : List Record) (modes : List ℕ) (n : ℕ) (t : Record)
    → tasks_from 0 (set ts n t) modes ≡ set (tasks_from 0 ts modes) n (task_from t (row n modes))
tasks_set ts modes n t =
    tasks_set_from 0 ts modes n t ∙ ap (λ m. set (tasks_from 0 ts modes) n (task_from t (row m modes))) (zero-add n)

-- the record of task n
pub task_is :
    (run : Parts) (n : ℕ) → n < length run.records
    → task_of (model run) n ≡ task_from (get_or run.records n blank_record) (row n run.modes)
unfolding model
task_is run n h =
    tasks_at 0 run.records run.modes n h
    ∙ ap (λ m. task_from (get_or run.records n blank_record) (row m run.modes)) (zero-add n)

no_mode : (a : ℕ) → get_or no_modes a 0 ≡ 0
unfolding no_modes
no_mode a = none 64 a
  where
    none : (k a : ℕ) → ◌≡◌ {A = ℕ} (get_or (replicate k 0) a 0) 0
    none zero a = refl
    none (suc k) zero = refl
    none (suc k) (suc a) = none k a

-- the mode of any number at any location
pub mode_is :
    (run : Parts) (n a : ℕ) → length run.records ≡ 128 → length run.modes ≡ 8192
    → get_or (row n run.modes) a 0 ≡ mode_of (task_of (model run) n) a
mode_is run n a r m = look (leb 128 n) refl
  where
    look : (t : Bool) → leb 128 n ≡ t → get_or (row n run.modes) a 0 ≡ mode_of (task_of (model run) n) a
    look true q =
        let h : 128 ≤ n = leb-true 128 n q in
        let none : task_of (model run) n ≡ never =
        unfold model in get_or-eq_default (tasks_from 0 run.records run.modes) never (omega (arith, tasks_length 0 run.records run.modes)) in
        sym (row_beyond n a run.modes m h) ∙ sym (ap (λ t. mode_of t a) none ∙ (unfold never in no_mode a))
    look false q =
        let h : n < 128 = leb-false 128 n q in
        sym (ap (λ t. mode_of t a) (task_is run n (omega arith)))

-- tasks that were never made
pub tasks_never :
    (k n : ℕ) (modes : List ℕ) → ((j : ℕ) → k ≤ j → j < k + n → row j modes ≡ no_modes)
    → tasks_from k (replicate n blank_record) modes ≡ replicate n never
unfolding tasks_from
tasks_never k zero modes h = refl
tasks_never k (suc n) modes h =
    let blank : task_from blank_record no_modes ≡ never = unfold blank_record never in refl in
    ap (λ (t : Task). t ∷ tasks_from (suc k) (replicate n blank_record) modes)
    (ap (task_from blank_record) (h k (omega arith) (omega arith)) ∙ blank)
    ∙ ap (λ (l : List Task). never ∷ l) (tasks_never (suc k) n modes (λ j a b. h j (omega arith) (omega arith)))
