-- The sequential run: every call of its trace is accepted, it leads to the run that the definition gives, and no task is
-- left there. By induction on the bodies left, then on the steps left, then on the tasks made. Assumes nothing.
use Prim.Native.Nat.{ℕ, zero, suc, ◌+◌, ◌<◌, ◌≤◌}
use mathlib.Core.Path.{◌≡◌, refl, sym, ap, subst, ◌∙◌}
use mathlib.Core.List.{List, [], ◌∷◌, ◌++◌}
use mathlib.Core.Bool.{Bool, true, false, cond, false≢true}
use mathlib.Core.Option.{some}
use mathlib.Core.Logic.{◌⊎◌, inl, inr, ◌≢◌}
use native.Mathlib.Omega.{arith}
use lib.ListN.{length}
use borrow.Author.Tests.{le-leb}
use Rattle.tasklist.specs.TaskList.{body_of}
use Rattle.tasklist.specs.Accepted.{Accepted}
use Rattle.semantics.specs.Run.{Task, Run, Context, task_of, start_weight, end_weight, root, initial}
use Rattle.semantics.specs.Effect.{Effect, own, in_state, leaving}
use Rattle.semantics.specs.Plan.{Action, start, step, end, at_end}
use Rattle.semantics.specs.Call.{Call, places, stays, charged, apply, decide, call, or_same, after}
use Rattle.semantics.specs.Sequential.{made_by, start_of, step_of, end_of, run_each, step_through, steps_through, enough, run_whole, sequential, trace_each, trace_steps, trace_whole, trace}
use Rattle.semantics.specs.Sound.{In, Distinct, Valid}
use Rattle.semantics.proofs.Order.{in_left, in_right}
use Rattle.semantics.proofs.Apply.{numbers, numbers_in}
use Rattle.semantics.proofs.Decide.{Accepts, accept_decide, accept_call}
use Rattle.semantics.proofs.Valid.{count_law, accepted_fair, other_record, made_record}
use Rattle.semantics.proofs.Kept.{self_record, valid_kept, call_valid, initial_valid}
use Rattle.semantics.proofs.Front.{Onward, front_in, front_start, front_end, front_step, front_order, front_remains}

-- the call's task is the foremost
abbrev pub Foremost : Run → Call → Type 0
Foremost r b = (rest : List ℕ) × (r.order ≡ b.task ∷ rest)

-- these calls, all accepted, each of the task foremost then, lead from one run to the other
abbrev pub Makes : Context → Run → List Call → Run → Type 0
Makes c r [] r' = r ≡ r'
Makes c r (b ∷ bs) r' = (r₁ : Run) × (call c r b ≡ some r₁) × Makes c r₁ bs r' × Foremost r b

pub makes_append :
    (c : Context) (bs ds : List Call) (r r₁ r₂ : Run) → Makes c r bs r₁ → Makes c r₁ ds r₂ → Makes c r (bs ++ ds) r₂
makes_append c [] ds r r₁ r₂ h k = subst (λ x. Makes c x ds r₂) (sym h) k
makes_append c (b ∷ bs) ds r r₁ r₂ h k = (h.0, h.1, makes_append c bs ds h.0 r₁ r₂ h.2 k, h.3)

pub makes_valid :
    (c : Context) → Accepted c.list → (bs : List Call) (r r' : Run) → Valid c r → Makes c r bs r' → Valid c r'
makes_valid c ok [] r r' v h = subst (Valid c) h v
makes_valid c ok (b ∷ bs) r r' v h = makes_valid c ok bs h.0 r' (call_valid c ok r h.0 b v h.1) h.2

pub after_call : (c : Context) (r r' : Run) (b : Call) → call c r b ≡ some r' → after c r b ≡ r'
unfolding after
after_call c r r' b q = ap (or_same r) q

-- The foremost task has run whole: it has left, and those behind it are as they were.
pub record Whole (c : Context) (r : Run) (rest : List ℕ) (bs : List Call) (r' : Run) : Type 0 where
  pub makes : Makes c r bs r'
  pub order : r'.order ≡ rest
  pub others : (k : ℕ) → In k rest → task_of r' k ≡ task_of r k

-- a waiting task whose body is one of the list's, with so many bodies above it at most
pub record Due (c : Context) (f : ℕ) (t : Task) : Type 0 where
  pub waiting : t.state ≡ 1
  pub exists : t.body < length c.list.bodies
  pub bodies : length c.list.bodies ≤ t.body + f

-- `whole` runs a due task whole, by these calls
abbrev Runs_whole : Context → ℕ → (ℕ → Run → List Call) → (ℕ → Run → Run) → Type 0
Runs_whole c f calls whole =
    (n : ℕ) (r : Run) (rest : List ℕ) → Valid c r → r.order ≡ n ∷ rest → Due c f (task_of r n)
    → Whole c r rest (calls n r) (whole n r)

-- The foremost task has made its steps: it is at its end, and those behind it are as they were.
record Stepped (c : Context) (r : Run) (n : ℕ) (rest : List ℕ) (bs : List Call) (r' : Run) : Type 0 where
  makes : Makes c r bs r'
  order : r'.order ≡ n ∷ rest
  others : (k : ℕ) → In k rest → task_of r' k ≡ task_of r k
  started : (task_of r' n).state ≡ 2
  ended : at_end c (task_of r' n) ≡ true

-- The foremost task has made one step, and the tasks made have run whole.
record One_step (c : Context) (r : Run) (n : ℕ) (rest : List ℕ) (bs : List Call) (r' : Run) : Type 0 where
  makes : Makes c r bs r'
  order : r'.order ≡ n ∷ rest
  others : (k : ℕ) → In k rest → task_of r' k ≡ task_of r k
  started : (task_of r' n).state ≡ 2
  body : (task_of r' n).body ≡ (task_of r n).body
  moves : ((task_of r n).pc < (task_of r' n).pc) ⊎ (at_end c (task_of r' n) ≡ true)

-- enough steps are left, or none is needed
abbrev Fuelled : Context → Task → ℕ → Type 0
Fuelled c t left = (at_end c t ≡ true) ⊎ (length (body_of c.list t.body) < t.pc + left)

-- so many steps, each with the tasks that it makes, bring a started task to its end
abbrev Runs_steps : Context → ℕ → (ℕ → Run → List Call) → (ℕ → Run → Run) → ℕ → Type 0
Runs_steps c f calls whole left =
    (r : Run) (n : ℕ) (rest : List ℕ) → Valid c r → r.order ≡ n ∷ rest → (task_of r n).state ≡ 2
    → length c.list.bodies ≤ (task_of r n).body + suc f → Fuelled c (task_of r n) left
    → Stepped c r n rest (trace_steps c calls whole n left r) (steps_through c whole n left r)

pc_ends : (c : Context) (t : Task) → length (body_of c.list t.body) ≤ t.pc → at_end c t ≡ true
unfolding at_end
pc_ends c t h = rw (le-leb (length (body_of c.list t.body)) t.pc h) refl

charged_end : (c : Context) (w : ℕ) (t : Task) → at_end c (charged w t) ≡ at_end c t
unfolding at_end
charged_end c w t = refl

module _ (c : Context) (ok : Accepted c.list) where
  pub below : (r : Run) (n : ℕ) → Valid c r → In n r.order → n < 128
  below r n v i = let q = count_law c ok (task_of r n).body in omega (arith, v.block n i, q)

  behind : (n k : ℕ) (r : Run) (rest : List ℕ) → Valid c r → r.order ≡ n ∷ rest → In k rest → k ≢ n
  behind n k r rest v q i p = (subst Distinct q v.distinct).0 (subst (λ x. In x rest) p i)

  -- an accepted call of the foremost task leaves those behind it as they were
  unmoved :
      (r : Run) (n k : ℕ) (rest : List ℕ) (a : Action) (e : Effect) → Valid c r → r.order ≡ n ∷ rest
      → Accepts c r (record { action = a; task = n }) e → In k rest → task_of (apply n e r) k ≡ task_of r k
  unmoved r n k rest a e v q h i =
      other_record c ok r v (record { action = a; task = n }) e h k (subst (In k) (sym q) (inr i)) (behind n k r rest v q i)

  module _ (f : ℕ) (calls : ℕ → Run → List Call) (whole : ℕ → Run → Run) (claim : Runs_whole c f calls whole) where
    each :
        (ks : List ℕ) (r : Run) (rest : List ℕ) → Valid c r → r.order ≡ ks ++ rest
        → ((k : ℕ) → In k ks → Due c f (task_of r k)) → Whole c r rest (trace_each calls whole ks r) (run_each whole ks r)
    unfolding trace_each run_each
    each [] r rest v q due = record { makes = refl; order = q; others = λ k i. refl }
    each (k ∷ ks) r rest v q due =
        let first = claim k r (ks ++ rest) v q (due k (inl refl)) in
        let v₁ = makes_valid c ok (calls k r) r (whole k r) v first.makes in
        let due₁ : (j : ℕ) → In j ks → Due c f (task_of (whole k r) j) =
        λ j i. subst (Due c f) (sym (first.others j (in_left j ks rest i))) (due j (inr i)) in
        let more = each ks (whole k r) rest v₁ first.order due₁ in
        record {
          makes = makes_append c (calls k r) _ r (whole k r) _ first.makes more.makes;
          order = more.order;
          others = λ j i. more.others j i ∙ first.others j (in_right j ks rest i);
        }

    -- one step of the foremost task and the tasks that it makes
    one_step :
        (r : Run) (n : ℕ) (rest : List ℕ) → Valid c r → r.order ≡ n ∷ rest → (task_of r n).state ≡ 2
        → at_end c (task_of r n) ≡ false → length c.list.bodies ≤ (task_of r n).body + suc f
        → One_step c r n rest
        (step_of n ∷ trace_each calls whole (made_by (decide c r (step_of n))) (after c r (step_of n)))
        (step_through c whole n r)
    unfolding step_through
    one_step r n rest v q s a l =
        subst (λ x. Stepping (made_by (decide c r (step_of n))) x) (sym (after_call c r r₁ (step_of n) (accept_call c r (step_of n) e h)))
        (subst (λ ks. Stepping ks r₁) (sym (ap made_by (accept_decide c r (step_of n) e h))) result)
      where
        Stepping : List ℕ → Run → Type 0
        Stepping ks x = One_step c r n rest (step_of n ∷ trace_each calls whole ks x) (run_each whole ks x)

        found : (e : Effect) × Accepts c r (step_of n) e × Onward c (task_of r n) e
        found = front_step c r n rest q v.distinct (below r n v (front_in c r n rest q v.distinct)) (s, a)

        e : Effect
        e = found.0

        h : Accepts c r (step_of n) e
        h = found.1

        r₁ : Run
        r₁ = apply n e r

        v₁ : Valid c r₁
        v₁ = valid_kept c ok r v (step_of n) e h

        order₁ : r₁.order ≡ numbers e.made ++ (n ∷ rest)
        order₁ = front_remains c r n rest q v.distinct e found.2.remains

        due : (k : ℕ) → In k (numbers e.made) → Due c f (task_of r₁ k)
        due k i =
            let x = numbers_in k e.made i in
            let b = (accepted_fair c ok r v (step_of n) e h).born x.0 x.1 in
            subst (Due c f) (sym (ap (task_of r₁) x.2 ∙ made_record c ok r v (step_of n) e h x.0 x.1))
            (record { waiting = b.waiting; exists = b.exists; bodies = omega (arith, b.higher) })

        made :
            Whole c r₁ (n ∷ rest) (trace_each calls whole (numbers e.made) r₁) (run_each whole (numbers e.made) r₁)
        made = each (numbers e.made) r₁ (n ∷ rest) v₁ order₁ due

        own_record : task_of (run_each whole (numbers e.made) r₁) n ≡ charged e.weight e.task
        own_record = made.others n (inl refl) ∙ self_record c ok r v (step_of n) e h n refl

        result : Stepping (numbers e.made) r₁
        result =
            record {
              makes = (r₁, accept_call c r (step_of n) e h, made.makes, (rest, q));
              order = made.order;
              others = λ k i. made.others k (inr i) ∙ unmoved r n k rest step e v q h i;
              started = ap (λ t. t.state) own_record ∙ (accepted_fair c ok r v (step_of n) e h).alive found.2.remains;
              body = ap (λ t. t.body) own_record ∙ (accepted_fair c ok r v (step_of n) e h).body;
              moves = subst (λ t. ((task_of r n).pc < t.pc) ⊎ (at_end c t ≡ true)) (sym own_record) (go_on found.2.moves);
            }
          where
            go_on :
                ((task_of r n).pc < e.task.pc) ⊎ (at_end c e.task ≡ true)
                → ((task_of r n).pc < e.task.pc) ⊎ (at_end c (charged e.weight e.task) ≡ true)
            go_on (inl p) = inl p
            go_on (inr p) = inr (charged_end c e.weight e.task ∙ p)

    steps : (left : ℕ) → Runs_steps c f calls whole left
    unfolding trace_steps steps_through
    steps zero r n rest v q s l h =
        record { makes = refl; order = q; others = λ k i. refl; started = s; ended = done h }
      where
        done : Fuelled c (task_of r n) 0 → at_end c (task_of r n) ≡ true
        done (inl p) = p
        done (inr p) = pc_ends c (task_of r n) (omega arith)
    steps (suc left) r n rest v q s l h = look (steps left) (at_end c (task_of r n)) refl
      where
        next : Run
        next = step_through c whole n r

        made : List Call
        made = trace_each calls whole (made_by (decide c r (step_of n))) (after c r (step_of n))

        fuel :
            at_end c (task_of r n) ≡ false → One_step c r n rest (step_of n ∷ made) next
            → Fuelled c (task_of r n) (suc left) → Fuelled c (task_of next n) left
        fuel a o (inl p) = absurd (false≢true (sym a ∙ p))
        fuel a o (inr p) = sort o.moves
          where
            sort :
                ((task_of r n).pc < (task_of next n).pc) ⊎ (at_end c (task_of next n) ≡ true)
                → Fuelled c (task_of next n) left
            sort (inr x) = inl x
            sort (inl x) =
                inr
                (subst (λ b. length (body_of c.list b) < (task_of next n).pc + left) (sym o.body) (omega arith))

        look :
            Runs_steps c f calls whole left → (b : Bool) → at_end c (task_of r n) ≡ b
            → Stepped c r n rest (cond b [] (step_of n ∷ (made ++ trace_steps c calls whole n left next))) (cond b r (steps_through c whole n left next))
        look ih true a = record { makes = refl; order = q; others = λ k i. refl; started = s; ended = a }
        look ih false a =
            let o = one_step r n rest v q s a l in
            let v' = makes_valid c ok (step_of n ∷ made) r next v o.makes in
            let l' = subst (λ b. length c.list.bodies ≤ b + suc f) (sym o.body) l in
            let more = ih next n rest v' o.order o.started l' (fuel a o h) in
            record {
              makes = makes_append c (step_of n ∷ made) _ r next _ o.makes more.makes;
              order = more.order;
              others = λ k i. more.others k i ∙ o.others k i;
              started = more.started;
              ended = more.ended;
            }

  -- no task is due with no body left
  pub runs_whole : (f : ℕ) → Runs_whole c f (trace_whole c f) (run_whole c f)
  unfolding trace_whole run_whole enough
  runs_whole zero n r rest v q d = let bad : ⊥ = omega (arith, d.exists, d.bodies) in absurd bad
  runs_whole (suc f) n r rest v q d = finish (λ left. steps f (trace_whole c f) (run_whole c f) (runs_whole f) left)
    where
      t : Task
      t = task_of r n

      size : ℕ
      size = suc (length (body_of c.list t.body))

      -- its steps from a run on, and where they lead
      walk : Run → List Call
      walk x = trace_steps c (trace_whole c f) (run_whole c f) n size x

      through : Run → Run
      through x = steps_through c (run_whole c f) n size x

      -- its start
      begun : Effect
      begun = own (start_weight c) (in_state 2 t)

      n_below : n < 128
      n_below = below r n v (front_in c r n rest q v.distinct)

      h : Accepts c r (start_of n) begun
      h = front_start c r n rest q v.distinct n_below d.waiting

      r₁ : Run
      r₁ = apply n begun r

      v₁ : Valid c r₁
      v₁ = valid_kept c ok r v (start_of n) begun h

      order₁ : r₁.order ≡ n ∷ rest
      order₁ = front_remains c r n rest q v.distinct begun refl

      record₁ : task_of r₁ n ≡ charged (start_weight c) (in_state 2 t)
      record₁ = self_record c ok r v (start_of n) begun h n refl

      started₁ : after c r (start_of n) ≡ r₁
      started₁ = after_call c r r₁ (start_of n) (accept_call c r (start_of n) begun h)

      finish :
          ((left : ℕ) → Runs_steps c f (trace_whole c f) (run_whole c f) left)
          → Whole c r rest (start_of n ∷ (walk (after c r (start_of n)) ++ (end_of n ∷ []))) (after c (through (after c r (start_of n))) (end_of n))
      finish all_steps =
          subst (λ x. Whole c r rest (start_of n ∷ (walk x ++ (end_of n ∷ []))) (after c (through x) (end_of n))) (sym started₁)
          (subst (Whole c r rest (start_of n ∷ (walk r₁ ++ (end_of n ∷ [])))) (sym (after_call c r₂ r₃ (end_of n) last)) whole)
        where
          -- its steps
          r₂ : Run
          r₂ = through r₁

          bodies₁ : length c.list.bodies ≤ (task_of r₁ n).body + suc f
          bodies₁ = subst (λ x. length c.list.bodies ≤ x.body + suc f) (sym record₁) d.bodies

          fuel₁ : length (body_of c.list (task_of r₁ n).body) < (task_of r₁ n).pc + size
          fuel₁ = subst (λ x. length (body_of c.list x.body) < x.pc + size) (sym record₁) (omega arith)

          s : Stepped c r₁ n rest (walk r₁) r₂
          s = all_steps size r₁ n rest v₁ order₁ (ap (λ x. x.state) record₁) bodies₁ (inr fuel₁)

          v₂ : Valid c r₂
          v₂ = makes_valid c ok (walk r₁) r₁ r₂ v₁ s.makes

          -- its end
          gone : Effect
          gone = leaving (end_weight c) (task_of r₂ n)

          k : Accepts c r₂ (end_of n) gone
          k = front_end c r₂ n rest s.order v₂.distinct n_below (s.started, s.ended)

          r₃ : Run
          r₃ = apply n gone r₂

          last : call c r₂ (end_of n) ≡ some r₃
          last = accept_call c r₂ (end_of n) gone k

          left₃ : r₃.order ≡ rest
          left₃ = front_order c r₂ n rest s.order v₂.distinct gone ∙ unfold places stays in refl

          others₃ : (j : ℕ) → In j rest → task_of r₃ j ≡ task_of r j
          others₃ j i =
              unmoved r₂ n j rest end gone v₂ s.order k i ∙ s.others j i ∙ unmoved r n j rest start begun v q h i

          steps_and_end : Makes c r₁ (walk r₁ ++ (end_of n ∷ [])) r₃
          steps_and_end = makes_append c (walk r₁) (end_of n ∷ []) r₁ r₂ r₃ s.makes (r₃, last, refl, (rest, s.order))

          whole : Whole c r rest (start_of n ∷ (walk r₁ ++ (end_of n ∷ []))) r₃
          whole =
              record {
                makes = (r₁, accept_call c r (start_of n) begun h, steps_and_end, (rest, q));
                order = left₃;
                others = others₃;
              }

  pub sequential_whole : (memory : List ℕ) → Whole c (initial c memory) [] (trace c memory) (sequential c memory)
  unfolding trace sequential
  sequential_whole memory =
      runs_whole (length c.list.bodies) 0 (initial c memory) [] (initial_valid c ok memory) (unfold initial in refl)
      (record {
        waiting = unfold initial root in refl;
        exists = unfold initial root in ok.some_body;
        bodies = unfold initial root in omega arith;
      })
