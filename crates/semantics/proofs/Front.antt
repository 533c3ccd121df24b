-- The foremost task is never held back: whatever its own record lets through is accepted; and what its start, its steps and
-- its end do. Assumes nothing.
use Prim.Native.Nat.{ℕ, zero, suc, ◌<◌}
use mathlib.Core.Path.{◌≡◌, refl, sym, ap, subst, ◌∙◌}
use mathlib.Core.List.{List, [], ◌∷◌, ◌++◌, append_assoc}
use mathlib.Core.Bool.{Bool, true, false, ◌||◌}
use mathlib.Core.Logic.{◌⊎◌, inl, inr}
use native.Mathlib.Omega.{arith}
use lib.ListN.{length, get_or, set}
use lib.Dec.{leb}
use borrow.Author.Tests.{eq-eqb, ne_eqb}
use Rattle.tasklist.specs.declared.Instruction.{Instruction}
use Rattle.tasklist.specs.declared.Instruction.TheVariants.{Const, Add, Sub, Less, Load, Store, Skip, Spawn, Wait, Fan, Sum, Mul, Div}
use Rattle.tasklist.specs.declared.Line.{Line}
use Rattle.tasklist.specs.TaskList.{body_of, footprint_of}
use Rattle.semantics.specs.Run.{Task, Run, Context, mode_of, register, no_modes, start_weight, end_weight, task_of}
use Rattle.semantics.specs.Access.{Access, reads, every, ahead, allowed, access_fault}
use Rattle.semantics.specs.Effect.{Effect, Plan, stop, go, fetch, own, in_state, moved, faulted, leaving}
use Rattle.semantics.specs.Footprint.{Grant, denied, granted, unless_denied, grant, merged, child_modes, all_targets, Children, none_made, all_made, children, fan_of}
use Rattle.semantics.specs.Plan.{unless_fault, plan_load, plan_store, plan_wait, plan_sum, quotient_fault, plan_quotient, plan_make, plan_instruction, at_end, needs_from, plan_start, plan_step, plan_end, start, step, end, plan}
use Rattle.semantics.specs.Call.{splice, stays, places, apply}
use Rattle.semantics.specs.Sound.{In, Distinct}
use Rattle.semantics.proofs.Order.{in_every, splice_same, splice_absent, ahead_self}
use Rattle.semantics.proofs.Modes.{not_zero}
use Rattle.semantics.proofs.Children.{Made, MadeOne, children_made}
use Rattle.semantics.proofs.Apply.{numbers}
use Rattle.semantics.proofs.Decide.{Settled, Accepts, Ready}

-- What a step does to its task: it stays in the order, and moves on or is at its end.
pub record Onward (c : Context) (t : Task) (e : Effect) : Type 0 where
  pub remains : e.leaves ≡ false
  pub moves : (t.pc < e.task.pc) ⊎ (at_end c e.task ≡ true)

-- a plan that is no refusal, and steps on
abbrev pub Stepping : Context → Task → Plan → Type 0
Stepping c t (stop k) = ⊥
Stepping c t (go gs e) = Onward c t e
Stepping c t (fetch a f) = (v : ℕ) → Onward c t (f v)

fault_ends : (c : Context) (t : Task) → (t.fault ≡ 0 → ⊥) → at_end c t ≡ true
unfolding at_end
fault_ends c t h = rw (ne_eqb t.fault 0 h) (or_true (leb (length (body_of c.list t.body)) t.pc))
  where
    or_true : (b : Bool) → (b || true) ≡ true
    or_true true = refl
    or_true false = refl

-- a spawn or a fan is denied by a fault only
abbrev Faulty : Grant → Type 0
Faulty (denied k) = k ≡ 0 → ⊥
Faulty (granted ms) = Unit {0}

denied_faulty : (f : ℕ) (g : Grant) → Faulty g → Faulty (unless_denied f g)
unfolding unless_denied
denied_faulty zero g h = h
denied_faulty (suc k) g h = λ q. not_zero k q

grant_faulty : (t : Task) (ms : List ℕ) (gs : List Access) → Faulty (grant t ms gs)
unfolding grant
grant_faulty t ms [] = tt
grant_faulty t ms (g ∷ gs) = denied_faulty _ _ (grant_faulty t (set ms g.location (merged (get_or ms g.location 0) g.mode)) gs)

children_faulty :
    (s : ℕ) (ls : List Line) (ts : List Task)
    → Made (λ k. k ≡ 0 → ⊥) (λ _. Unit {0}) (length ts) (children s ls ts)
unfolding child_modes
children_faulty s ls ts =
    children_made (λ k. k ≡ 0 → ⊥) (λ _. Unit {0}) s ls ts
    (λ t i. one t (child_modes t ls) (grant_faulty t no_modes (all_targets t ls)))
  where
    one : (t : Task) (g : Grant) → Faulty g → MadeOne (λ k. k ≡ 0 → ⊥) (λ _. Unit {0}) s t g
    one t (denied k) h = h
    one t (granted ms) h = tt

module _ (c : Context) (n : ℕ) (t : Task) where
  onward : (w k : ℕ) (rs : List ℕ) → 0 < k → Onward c t (own w (moved k rs t))
  onward w k rs h = record { remains = refl; moves = inl (omega arith) }

  onward_fault : (w k : ℕ) → (k ≡ 0 → ⊥) → Onward c t (own w (faulted k t))
  onward_fault w k h = record { remains = refl; moves = inr (fault_ends c (faulted k t) h) }

  stepping_unless : (f w : ℕ) (p : Plan) → Stepping c t p → Stepping c t (unless_fault f w t p)
  unfolding unless_fault
  stepping_unless zero w p h = h
  stepping_unless (suc k) w p h = onward_fault w (suc k) (λ q. not_zero k q)

  stepping_quotient : (w a m d : ℕ) → Stepping c t (plan_quotient w t a m d)
  unfolding plan_quotient
  stepping_quotient w a m d = stepping_unless (quotient_fault m d) w _ (onward w 1 _ (omega arith))

  stepping_make :
      (w s k : ℕ) (ys : Children) → Made (λ f. f ≡ 0 → ⊥) (λ _. Unit {0}) k ys → Stepping c t (plan_make c w n t s ys)
  unfolding plan_make
  stepping_make w s k (none_made f) h = onward_fault w f h
  stepping_make w s k (all_made ts) h = record { remains = refl; moves = inl (omega arith) }

  pub stepping : (w : ℕ) (i : Instruction) → Stepping c t (plan_instruction c w n t i)
  unfolding plan_instruction plan_load plan_store plan_wait plan_sum
  stepping w (Const a v) = onward w 1 _ (omega arith)
  stepping w (Add a x y) = onward w 1 _ (omega arith)
  stepping w (Sub a x y) = onward w 1 _ (omega arith)
  stepping w (Less a x y) = onward w 1 _ (omega arith)
  stepping w (Load a x) = stepping_unless (access_fault (mode_of t (register t x)) 1) w _ (λ v. onward w 1 _ (omega arith))
  stepping w (Store a x) =
      stepping_unless (access_fault (mode_of t (register t a)) 2) w _ (record { remains = refl; moves = inl (omega arith) })
  stepping w (Skip a b) = onward w _ _ (omega arith)
  stepping w (Spawn s f) = stepping_make w s 1 (children s (footprint_of c.list f) (t ∷ [])) (children_faulty s (footprint_of c.list f) (t ∷ []))
  stepping w (Wait a) = stepping_unless (access_fault (mode_of t (register t a)) (mode_of t (register t a))) w _ (onward w 1 _ (omega arith))
  stepping w (Fan s f k) = stepping_make w s _ (children s (footprint_of c.list f) (fan_of 0 k t)) (children_faulty s (footprint_of c.list f) (fan_of 0 k t))
  stepping w (Sum a x) =
      stepping_unless (access_fault (mode_of t (register t a)) 3) w _ (record { remains = refl; moves = inl (omega arith) })
  stepping w (Mul a x y) = stepping_quotient w a _ _
  stepping w (Div a x y) = stepping_quotient w a _ _

  pub stepping_plan : Ready c t step → Stepping c t (plan c step n t)
  unfolding plan plan_step
  stepping_plan h = rw (eq-eqb t.state 2 h.0, h.1) (stepping _ _)

  pub start_plan : Ready c t start → plan c start n t ≡ go (needs_from 0 t.modes) (own (start_weight c) (in_state 2 t))
  unfolding plan plan_start
  start_plan h = rw (eq-eqb t.state 1 h) refl

pub end_plan : (c : Context) (n : ℕ) (t : Task) → Ready c t end → plan c end n t ≡ go [] (leaving (end_weight c) t)
unfolding plan plan_end
end_plan c n t h = rw (eq-eqb t.state 2 h.0, h.1) refl

-- a run whose foremost task is n
module _ (c : Context) (r : Run) (n : ℕ) (rest : List ℕ) (q : r.order ≡ n ∷ rest) (d : Distinct r.order) where
  pub front_in : In n r.order
  front_in = subst (In n) (sym q) (inl refl)

  pub front_allowed : (g : Access) → allowed r n g ≡ true
  unfolding allowed every
  front_allowed g = rw (ap (ahead n) q ∙ ahead_self n n rest refl) refl

  all_allowed : (gs : List Access) → every (allowed r n) gs ≡ true
  all_allowed gs = in_every (allowed r n) gs (λ g i. front_allowed g)

  pub front_start :
      n < 128 → Ready c (task_of r n) start
      → Accepts c r (record { action = start; task = n }) (own (start_weight c) (in_state 2 (task_of r n)))
  front_start b h =
      record {
        below = b;
        present = front_in;
        settled =
            subst (λ x. Settled r n x (own (start_weight c) (in_state 2 (task_of r n)))) (sym (start_plan c n (task_of r n) h))
            (all_allowed (needs_from 0 (task_of r n).modes), refl);
      }

  pub front_end :
      n < 128 → Ready c (task_of r n) end
      → Accepts c r (record { action = end; task = n }) (leaving (end_weight c) (task_of r n))
  front_end b h =
      record {
        below = b;
        present = front_in;
        settled =
            subst (λ x. Settled r n x (leaving (end_weight c) (task_of r n))) (sym (end_plan c n (task_of r n) h))
            (all_allowed [], refl);
      }

  pub front_step :
      n < 128 → Ready c (task_of r n) step
      → (e : Effect) × Accepts c r (record { action = step; task = n }) e × Onward c (task_of r n) e
  front_step b h = go_on (plan c step n (task_of r n)) refl (stepping_plan c n (task_of r n) h)
    where
      go_on :
          (p : Plan) → plan c step n (task_of r n) ≡ p → Stepping c (task_of r n) p
          → (e : Effect) × Accepts c r (record { action = step; task = n }) e × Onward c (task_of r n) e
      go_on (stop k) s o = absurd o
      go_on (go gs e) s o =
          (e, record { below = b; present = front_in; settled = subst (λ x. Settled r n x e) (sym s) (all_allowed gs, refl) }, o)
      go_on (fetch a f) s o =
          let e = f (get_or r.memory a 0) in (
            e,
            record { below = b; present = front_in; settled = subst (λ x. Settled r n x e) (sym s) (front_allowed (reads a), refl) },
            o (get_or r.memory a 0),
          )

  -- the order after a call of the foremost task
  pub front_order : (e : Effect) → (apply n e r).order ≡ places n e ++ rest
  unfolding apply
  front_order e =
      ap (splice n (places n e)) q
      ∙ splice_same n n (places n e) rest refl
      ∙ ap (λ l. places n e ++ l) (splice_absent n (places n e) rest (subst Distinct q d).0)

  pub front_remains : (e : Effect) → e.leaves ≡ false → (apply n e r).order ≡ numbers e.made ++ (n ∷ rest)
  unfolding places stays
  front_remains e h =
      front_order e ∙ ap (λ b. numbers e.made ++ stays b n ++ rest) h ∙ append_assoc (numbers e.made) (n ∷ []) rest
