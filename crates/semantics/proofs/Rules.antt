-- Document 01's rules of start, load, store and wait, request 107's of sum and request 108's of mul and div, in their own words,
-- for the whole call: who is let through, who is held back and with which number, and that faults come before waiting. Assumes
-- nothing.
use Prim.Native.Nat.{ℕ, suc, ◌*◌, ◌^◌, ◌<◌, ◌≤◌}
use mathlib.Core.Path.{◌≡◌, refl, sym, subst, ◌∙◌}
use mathlib.Core.List.{[], ◌∷◌}
use mathlib.Core.Bool.{Bool, true, false, cond, ◌&&◌, ◌||◌}
use native.Mathlib.Omega.{arith}
use lib.ListN.{get_or}
use Rattle.tasklist.specs.declared.Instruction.TheVariants.{Mul, Div}
use Rattle.semantics.specs.Run.{Run, Context, mode_of, register, task_of, start_weight}
use Rattle.semantics.specs.Access.{Access, reads, writes, sums, every, any, may_read, may_write, may_sum, behind_writer, allowed, access_fault}
use Rattle.semantics.specs.Effect.{Effect, own, in_state, moved, faulted, assigned, storing, adding}
use Rattle.semantics.specs.Plan.{unless_fault, plan_load, plan_store, plan_wait, plan_sum, plan_quotient, plan_instruction, start}
use Rattle.semantics.specs.Rounding.{Nearest}
use Rattle.semantics.specs.Call.{refuse, accept, hold, admit, settle}
use Rattle.semantics.specs.Sequential.{start_of}
use Rattle.semantics.specs.Sound.{In}
use Rattle.semantics.proofs.Modes.{not_zero}
use Rattle.semantics.proofs.Decide.{Settled, Accepts, settled_ready}
use Rattle.semantics.proofs.Front.{start_plan}
use Rattle.semantics.proofs.Rounding.{is_rounded, zero_faults, large_faults, small_passes}
use Rattle.semantics.proofs.SoundModes.{granted_queued}
use Rattle.semantics.proofs.Wording.{read_wording, write_wording, sum_wording, MayStart, start_wording, wording_starts}

-- "Start: the job may read each entry of mode 1 and write each of mode 2; its state becomes 2."; request 107: and sum each of mode 3
module _ (c : Context) (r : Run) (n : ℕ) where
  pub start_needs :
      (e : Effect) → Accepts c r (start_of n) e
      → ((task_of r n).state ≡ 1) × MayStart r n × (own (start_weight c) (in_state 2 (task_of r n)) ≡ e)
  start_needs e h =
      let waits = settled_ready c r n (task_of r n) e start h.settled in
      let s = subst (λ p. Settled r n p e) (start_plan c n (task_of r n) waits) h.settled in
      (waits, start_wording r n s.0, s.1)

  pub start_enough :
      n < 128 → In n r.order → (task_of r n).state ≡ 1 → ((a : ℕ) → mode_of (task_of r n) a ≤ 3) → MayStart r n
      → Accepts c r (start_of n) (own (start_weight c) (in_state 2 (task_of r n)))
  start_enough l i waits most h =
      record {
        below = l;
        present = i;
        settled =
            subst (λ p. Settled r n p (own (start_weight c) (in_state 2 (task_of r n)))) (sym (start_plan c n (task_of r n) waits))
            (wording_starts r n most h, refl);
      }

-- "for a step, the one entry concerned"
abbrev pub holder : Run → ℕ → ℕ → ℕ
holder r n a = cond (behind_writer r n a) 19 20

-- one access is let through or held back, by a test that says the same
admit_by :
    (r : Run) (n : ℕ) (g : Access) (e : Effect) (test : Bool) → allowed r n g ≡ test
    → admit r n (g ∷ []) e ≡ cond test (accept e) (refuse (holder r n g.location))
unfolding admit every hold any
admit_by r n g e test q = rw q (look test (behind_writer r n g.location))
  where
    look :
        (b w : Bool)
        → cond (b && true) (accept e) (refuse (cond (w || false) 19 20)) ≡ cond b (accept e) (refuse (cond w 19 20))
    look true w = refl
    look false true = refl
    look false false = refl

no_access : (r : Run) (n : ℕ) (e : Effect) → admit r n [] e ≡ accept e
unfolding admit every
no_access r n e = refl

module _ (r : Run) (n w place : ℕ) where
  -- "Load needs reading"
  pub load_rule :
      (a : ℕ) → access_fault (mode_of (task_of r n) place) 1 ≡ 0
      → settle r n (plan_load w (task_of r n) a place)
      ≡ cond (may_read r n place) (accept (own w (assigned a (get_or r.memory place 0) (task_of r n)))) (refuse (holder r n place))
  unfolding plan_load unless_fault settle
  load_rule a f = rw f (admit_by r n (reads place) _ _ (read_wording r n place (granted_queued (mode_of (task_of r n) place) 1 f)))

  -- "store needs writing"
  pub store_rule :
      (v : ℕ) → access_fault (mode_of (task_of r n) place) 2 ≡ 0
      → settle r n (plan_store w (task_of r n) place v)
      ≡ cond (may_write r n place) (accept (storing w place v (task_of r n))) (refuse (holder r n place))
  unfolding plan_store unless_fault settle
  store_rule v f = rw f (admit_by r n (writes place) _ _ (write_wording r n place (granted_queued (mode_of (task_of r n) place) 2 f)))

  -- "wait needs what the job's own mode there allows"
  pub wait_reading :
      mode_of (task_of r n) place ≡ 1
      → settle r n (plan_wait w (task_of r n) place)
      ≡ cond (may_read r n place) (accept (own w (moved 1 (task_of r n).registers (task_of r n)))) (refuse (holder r n place))
  unfolding plan_wait unless_fault settle access_fault
  wait_reading q = rw q (admit_by r n (reads place) _ _ (read_wording r n place (λ z. not_zero 0 (sym q ∙ z))))

  pub wait_writing :
      mode_of (task_of r n) place ≡ 2
      → settle r n (plan_wait w (task_of r n) place)
      ≡ cond (may_write r n place) (accept (own w (moved 1 (task_of r n).registers (task_of r n)))) (refuse (holder r n place))
  unfolding plan_wait unless_fault settle access_fault
  wait_writing q = rw q (admit_by r n (writes place) _ _ (write_wording r n place (λ z. not_zero 1 (sym q ∙ z))))

  -- request 107: "A wait on a sum entry passes when all ahead have mode 3."
  pub wait_summing :
      mode_of (task_of r n) place ≡ 3
      → settle r n (plan_wait w (task_of r n) place)
      ≡ cond (may_sum r n place) (accept (own w (moved 1 (task_of r n).registers (task_of r n)))) (refuse (holder r n place))
  unfolding plan_wait unless_fault settle access_fault
  wait_summing q = rw q (admit_by r n (sums place) _ _ (sum_wording r n place (λ z. not_zero 2 (sym q ∙ z))))

  -- "A job of mode 3 may sum .. when all ahead have mode 3"
  pub sum_summing :
      (v : ℕ) → mode_of (task_of r n) place ≡ 3
      → settle r n (plan_sum w (task_of r n) place v)
      ≡ cond (may_sum r n place) (accept (adding w place v (task_of r n))) (refuse (holder r n place))
  unfolding plan_sum unless_fault settle access_fault
  sum_summing v q = rw q (admit_by r n (sums place) _ _ (sum_wording r n place (λ z. not_zero 2 (sym q ∙ z))))

  -- "a writer sums only when none is ahead"
  pub sum_writing :
      (v : ℕ) → mode_of (task_of r n) place ≡ 2
      → settle r n (plan_sum w (task_of r n) place v)
      ≡ cond (may_write r n place) (accept (adding w place v (task_of r n))) (refuse (holder r n place))
  unfolding plan_sum unless_fault settle access_fault
  sum_writing v q = rw q (admit_by r n (writes place) _ _ (write_wording r n place (λ z. not_zero 1 (sym q ∙ z))))

  -- "Faults come before waiting": whoever stands ahead
  pub load_fault :
      (a k : ℕ) → access_fault (mode_of (task_of r n) place) 1 ≡ suc k
      → settle r n (plan_load w (task_of r n) a place) ≡ accept (own w (faulted (suc k) (task_of r n)))
  unfolding plan_load unless_fault settle
  load_fault a k f = rw f (no_access r n _)

  pub store_fault :
      (v k : ℕ) → access_fault (mode_of (task_of r n) place) 2 ≡ suc k
      → settle r n (plan_store w (task_of r n) place v) ≡ accept (own w (faulted (suc k) (task_of r n)))
  unfolding plan_store unless_fault settle
  store_fault v k f = rw f (no_access r n _)

  pub sum_fault :
      (v k : ℕ) → access_fault (mode_of (task_of r n) place) 3 ≡ suc k
      → settle r n (plan_sum w (task_of r n) place v) ≡ accept (own w (faulted (suc k) (task_of r n)))
  unfolding plan_sum unless_fault settle
  sum_fault v k f = rw f (no_access r n _)

  pub wait_fault :
      mode_of (task_of r n) place ≡ 0
      → settle r n (plan_wait w (task_of r n) place) ≡ accept (own w (faulted 1 (task_of r n)))
  unfolding plan_wait unless_fault settle access_fault
  wait_fault q = rw q (no_access r n _)

-- Request 108: "Both round to the nearest whole number, halves upward, on the exact value"; "Fault 4 is a result above 2^32 − 1;
-- fault 5, tested first .., is a zero Rc." No task ahead matters.
module _ (r : Run) (k w a n d : ℕ) where
  quotient_rule :
      (q : ℕ) → 0 < d → Nearest n d q → q < 2 ^ 32
      → settle r k (plan_quotient w (task_of r k) a n d) ≡ accept (own w (assigned a q (task_of r k)))
  unfolding plan_quotient unless_fault settle
  quotient_rule q h near small = rw (small_passes n d q h near small, is_rounded n d q h near) (no_access r k _)

  quotient_large :
      (q : ℕ) → 0 < d → Nearest n d q → 2 ^ 32 ≤ q
      → settle r k (plan_quotient w (task_of r k) a n d) ≡ accept (own w (faulted 4 (task_of r k)))
  unfolding plan_quotient unless_fault settle
  quotient_large q h near large = rw (large_faults n d q h near large) (no_access r k _)

  quotient_by_zero :
      d ≡ 0 → settle r k (plan_quotient w (task_of r k) a n d) ≡ accept (own w (faulted 5 (task_of r k)))
  unfolding plan_quotient unless_fault settle
  quotient_by_zero z = rw (zero_faults n d z) (no_access r k _)

module _ (c : Context) (r : Run) (n w a x y : ℕ) where
  -- "Code 11: Ra := Rb × Rc / 1000."
  pub mul_rule :
      (q : ℕ) → Nearest (register (task_of r n) x * register (task_of r n) y) 1000 q → q < 2 ^ 32
      → settle r n (plan_instruction c w n (task_of r n) (Mul a x y)) ≡ accept (own w (assigned a q (task_of r n)))
  unfolding plan_instruction
  mul_rule q near small = quotient_rule r n w a _ 1000 q (omega arith) near small

  pub mul_large :
      (q : ℕ) → Nearest (register (task_of r n) x * register (task_of r n) y) 1000 q → 2 ^ 32 ≤ q
      → settle r n (plan_instruction c w n (task_of r n) (Mul a x y)) ≡ accept (own w (faulted 4 (task_of r n)))
  unfolding plan_instruction
  mul_large q near large = quotient_large r n w a _ 1000 q (omega arith) near large

  -- "Code 12: Ra := 1000 × Rb / Rc."
  pub div_rule :
      (q : ℕ) → 0 < register (task_of r n) y → Nearest (1000 * register (task_of r n) x) (register (task_of r n) y) q → q < 2 ^ 32
      → settle r n (plan_instruction c w n (task_of r n) (Div a x y)) ≡ accept (own w (assigned a q (task_of r n)))
  unfolding plan_instruction
  div_rule q h near small = quotient_rule r n w a _ _ q h near small

  pub div_large :
      (q : ℕ) → 0 < register (task_of r n) y → Nearest (1000 * register (task_of r n) x) (register (task_of r n) y) q → 2 ^ 32 ≤ q
      → settle r n (plan_instruction c w n (task_of r n) (Div a x y)) ≡ accept (own w (faulted 4 (task_of r n)))
  unfolding plan_instruction
  div_large q h near large = quotient_large r n w a _ _ q h near large

  pub div_by_zero :
      register (task_of r n) y ≡ 0
      → settle r n (plan_instruction c w n (task_of r n) (Div a x y)) ≡ accept (own w (faulted 5 (task_of r n)))
  unfolding plan_instruction
  div_by_zero z = quotient_by_zero r n w a _ _ z
