-- One round: its calls are next calls of tasks in the order, ready at its start, one of each task; while a task is left there
-- is one, the front task's. With 128 workers a round has all that are ready. Assumes nothing.
use Prim.Native.Nat.{ℕ, zero, suc, ◌≤◌}
use mathlib.Core.Path.{◌≡◌, refl, sym, ap, subst, ◌∙◌}
use mathlib.Core.List.{List, [], ◌∷◌, map}
use mathlib.Core.Bool.{true, false≢true}
use mathlib.Core.Option.{some}
use native.Mathlib.Omega.{arith}
use lib.ListN.{length, length-take, length-map}
use lib.Seq.{take_all}
use Rattle.tasklist.specs.Accepted.{Accepted}
use Rattle.semantics.specs.Run.{Run, Context, task_of}
use Rattle.semantics.specs.Access.{only}
use Rattle.semantics.specs.Call.{Call, Outcome, refuse, accept, decide, taken, apply, call, after_all}
use Rattle.semantics.specs.Turns.{next_call}
use Rattle.semantics.specs.Sound.{In, Distinct, Valid}
use Rattle.semantics.proofs.Decide.{accept_decide, accept_call, call_accept, settled_ready}
use Rattle.semantics.proofs.Bounds.{order_most}
use Rattle.semantics.proofs.Turns.{next_ready, next_accepted}
use Rattle.model_rounds.specs.Rounds.{is_accepted, ready, ready_calls, round_calls, while_left, rounds_from, all_workers}
use Rattle.model_rounds.specs.Statement.{Chosen}
use Rattle.model_rounds.proofs.Lists.{only_in, in_only, only_distinct, only_fewer, in_some, take_in, take_distinct, in_map, map_in, map_take, map_back}
use Rattle.model_rounds.proofs.Together.{tasks, ReadyAt, Together}

-- "whose next call would be accepted"
module _ (c : Context) (r : Run) where
  next_task : (n : ℕ) → (next_call c r n).task ≡ n
  unfolding next_call
  next_task n = refl

  -- an accepted call is its task's next call
  pub ready_next : (b : Call) → ReadyAt c r b → b ≡ next_call c r b.task
  ready_next b h =
      let x = call_accept c r b h.0 h.1 in
      sym
      (next_ready c r b.task b.action
      (settled_ready c r b.task (task_of r b.task) x.0 b.action x.1.settled))

  pub ready_true : (b : Call) → ReadyAt c r b → ready c r b.task ≡ true
  unfolding ready is_accepted
  ready_true b h =
      let x = call_accept c r b h.0 h.1 in
      ap (λ d. is_accepted (decide c r d)) (sym (ready_next b h)) ∙ ap is_accepted (accept_decide c r b x.0 x.1)

  pub true_ready : (b : Call) → b ≡ next_call c r b.task → ready c r b.task ≡ true → ReadyAt c r b
  unfolding ready call taken is_accepted
  true_ready b next h = look (decide c r b) refl (ap (λ d. is_accepted (decide c r d)) next ∙ h)
    where
      look :
          (o : Outcome) → decide c r b ≡ o → is_accepted (decide c r b) ≡ true
          → (r' : Run) × (taken r b.task (decide c r b) ≡ some r')
      look (refuse k) q t = absurd (false≢true (ap is_accepted (sym q) ∙ t))
      look (accept e) q t = (apply b.task e r, ap (taken r b.task) q)

  -- all ready calls, and no others
  pub ready_in : (b : Call) → ReadyAt c r b → In b (ready_calls c r)
  unfolding ready_calls
  ready_in b h =
      subst (λ x. In x (map (next_call c r) (only (ready c r) r.order))) (sym (ready_next b h))
      (in_map (next_call c r) b.task (only (ready c r) r.order)
      (only_in (ready c r) b.task r.order (call_accept c r b h.0 h.1).1.present (ready_true b h)))

  in_ready : (b : Call) → In b (ready_calls c r) → (b ≡ next_call c r b.task) × (ready c r b.task ≡ true)
  unfolding ready_calls
  in_ready b i =
      let x = map_in (next_call c r) b (only (ready c r) r.order) i in
      let same : b.task ≡ x.0 = ap (λ d. d.task) x.2 ∙ next_task x.0 in (
        x.2 ∙ ap (next_call c r) (sym same),
        ap (ready c r) same ∙ (in_only (ready c r) x.0 r.order x.1).1,
      )

  ready_tasks : tasks (ready_calls c r) ≡ only (ready c r) r.order
  unfolding ready_calls
  ready_tasks = map_back (next_call c r) (λ b. b.task) next_task (only (ready c r) r.order)

  ready_once : Distinct r.order → Distinct (tasks (ready_calls c r))
  ready_once d = subst Distinct (sym ready_tasks) (only_distinct (ready c r) r.order d)

  pub ready_together : Distinct r.order → Together c r (ready_calls c r)
  ready_together d =
      record { ready = λ b i. true_ready b (in_ready b i).0 (in_ready b i).1; once = ready_once d }

  ready_few : length (ready_calls c r) ≤ length r.order
  ready_few =
      omega (
        arith,
        sym (length-map (ready_calls c r) (λ b. b.task)) ∙ ap length ready_tasks,
        only_fewer (ready c r) r.order,
      )

  -- at most as many calls as workers
  pub round_few : (workers : ℕ) → length (round_calls c workers r) ≤ workers
  unfolding round_calls
  round_few workers = omega (arith, length-take workers (ready_calls c r))

  -- a round is such a choice itself
  pub round_chosen : (workers : ℕ) → Distinct r.order → Chosen c workers r (round_calls c workers r)
  unfolding round_calls
  round_chosen workers d =
      record {
        few = omega (arith, round_few workers);
        next = λ b i. (in_ready b (take_in workers b (ready_calls c r) i)).0;
        accepted = λ b i. (in_ready b (take_in workers b (ready_calls c r) i)).1;
        once =
            subst Distinct (sym (map_take (λ b. b.task) workers (ready_calls c r)))
            (take_distinct workers (tasks (ready_calls c r)) (ready_once d));
      }

  pub chosen_together : (workers : ℕ) (bs : List Call) → Chosen c workers r bs → Together c r bs
  chosen_together workers bs h =
      record { ready = λ b i. true_ready b (h.next b i) (h.accepted b i); once = h.once }

module _ (c : Context) (ok : Accepted c.list) (r : Run) (v : Valid c r) where
  -- "with 128 workers"
  pub round_whole : round_calls c all_workers r ≡ ready_calls c r
  unfolding round_calls
  round_whole = take_all all_workers (ready_calls c r) (omega (arith, ready_few c r, order_most c ok r v))

  -- the front task is never held back
  pub some_ready : (n : ℕ) (ns : List ℕ) → r.order ≡ n ∷ ns → 1 ≤ length (ready_calls c r)
  some_ready n ns q =
      let b = next_call c r n in
      let x = next_accepted c ok r n ns v q in
      in_some b (ready_calls c r) (ready_in c r b (apply b.task x.0 r, accept_call c r b x.0 x.1))

  pub round_some :
      (workers n : ℕ) (ns : List ℕ) → 1 ≤ workers → r.order ≡ n ∷ ns → 1 ≤ length (round_calls c workers r)
  unfolding round_calls
  round_some workers n ns low q = omega (arith, length-take workers (ready_calls c r), some_ready n ns q)

-- the rounds from a run on, by its order
module _ (c : Context) (workers : ℕ) where
  pub no_rounds : (r : Run) → rounds_from c workers 0 r ≡ []
  unfolding rounds_from
  no_rounds r = refl

  pub rounds_none : (most : ℕ) (r : Run) → r.order ≡ [] → rounds_from c workers most r ≡ []
  unfolding rounds_from
  rounds_none zero r q = no_rounds r
  rounds_none (suc most) r q =
      let calls = round_calls c workers r in
      ap (λ o. while_left o (calls ∷ rounds_from c workers most (after_all c r calls))) q

  pub rounds_some :
      (most n : ℕ) (ns : List ℕ) (r : Run) → r.order ≡ n ∷ ns
      → rounds_from c workers (suc most) r
      ≡ round_calls c workers r ∷ rounds_from c workers most (after_all c r (round_calls c workers r))
  unfolding rounds_from
  rounds_some most n ns r q =
      let calls = round_calls c workers r in
      ap (λ o. while_left o (calls ∷ rounds_from c workers most (after_all c r calls))) q

  -- by cases: none, or a round and those after it
  pub rounds_by :
      (most : ℕ) (r : Run) (Q : List (List Call) → Type 0) → (r.order ≡ [] → Q [])
      → ((n : ℕ) (ns : List ℕ) → r.order ≡ n ∷ ns
      → Q (round_calls c workers r ∷ rounds_from c workers most (after_all c r (round_calls c workers r))))
      → Q (rounds_from c workers (suc most) r)
  rounds_by most r Q none_left some_left = look r.order refl
    where
      look : (o : List ℕ) → r.order ≡ o → Q (rounds_from c workers (suc most) r)
      look [] q = subst Q (sym (rounds_none (suc most) r q)) (none_left q)
      look (n ∷ ns) q = subst Q (sym (rounds_some most n ns r q)) (some_left n ns q)
