-- Request 112, in one piece: for every accepted list, memory, weights and every play of the two sides. Assumes nothing.
use Prim.Native.Nat.{ℕ, zero, suc, ◌<◌, ◌≤◌}
use mathlib.Core.Path.{◌≡◌, refl, sym, ap, subst, ◌∙◌}
use mathlib.Core.List.{List, []}
use mathlib.Core.Bool.{true}
use native.Mathlib.Omega.{arith}
use lib.ListN.{replicate}
use Rattle.tasklist.specs.Accepted.{Accepted}
use Rattle.semantics.specs.Run.{Run, Context, task_of, initial}
use Rattle.semantics.specs.Effect.{Effect}
use Rattle.semantics.specs.Call.{Call, refuse, accept, after_all}
use Rattle.semantics.specs.Sequential.{sequential, trace}
use Rattle.semantics.specs.Turns.{move, Ply, turn, after_play, turns, others_accepted, ends_at, ends_with}
use Rattle.semantics.specs.Sound.{Valid}
use Rattle.semantics.proofs.Kept.{initial_valid}
use Rattle.semantics.proofs.Sequential.{Makes, sequential_whole}
use Rattle.semantics.proofs.Reached.{sequential_ahead}
use Rattle.semantics.proofs.Guarantee.{Guarantee, guarantee}
use Rattle.semantics.proofs.Turns.{played, move_none, move_accepted, ended_by, unended_before}

-- What holds of the run r after a play from the initial run.
pub record HeldUp (c : Context) (memory : List ℕ) (play : List Ply) (r : Run) : Type 0 where
  -- "If the hand run ends job n with its K-th call, job n has ended by the first side's K-th turn."
  pub by_turn : (n k : ℕ) → ends_with c memory n k ≡ true → k ≤ turns play → (task_of r n).state ≡ 3
  -- "If the other side's calls are all refused, it ends on exactly that turn.": it has not ended before
  pub on_turn :
      (n k : ℕ) → ends_with c memory n k ≡ true → others_accepted c (initial c memory) play ≡ 0 → turns play < k
      → (task_of r n).state ≡ 3 → ⊥
  -- "25 where no job is left": where a turn never comes, the task has ended
  pub none_left : r.order ≡ [] → move c r ≡ refuse 25
  pub all_ended : (n k : ℕ) → ends_with c memory n k ≡ true → r.order ≡ [] → (task_of r n).state ≡ 3
  -- "the only refusal of that move"
  pub accepted : (r.order ≡ [] → ⊥) → (e : Effect) × (move c r ≡ accept e)

turns_only : (k : ℕ) → k ≤ turns (replicate k turn)
unfolding turns
turns_only zero = omega arith
turns_only (suc k) = let h = turns_only k in omega (arith, h)

pub held_up :
    (c : Context) → Accepted c.list → (memory : List ℕ) (play : List Ply)
    → HeldUp c memory play (after_play c (initial c memory) play)
unfolding ends_with
held_up c ok memory play =
    record {
      by_turn = by_turn play;
      on_turn = λ n k q o l e. unended_before c ok play (trace c memory) n k r₀ (sequential c memory) v₀ w q o l e;
      none_left = move_none c (after_play c r₀ play);
      all_ended = all_ended;
      accepted = move_accepted c ok (after_play c r₀ play) (played_valid play);
    }
  where
    r₀ : Run
    r₀ = initial c memory

    v₀ : Valid c r₀
    v₀ = initial_valid c ok memory

    w : Makes c r₀ (trace c memory) (sequential c memory)
    w = (sequential_whole c ok memory).makes

    by_turn :
        (ps : List Ply) (n k : ℕ) → ends_at n k (trace c memory) ≡ true → k ≤ turns ps
        → (task_of (after_play c r₀ ps) n).state ≡ 3
    by_turn ps n k q l = ended_by c ok ps (trace c memory) n k r₀ r₀ (sequential c memory) v₀ w q l (0, refl)

    -- a play leads where some calls lead
    calls : (ps : List Ply) → (bs : List Call) × (after_play c r₀ ps ≡ after_all c r₀ bs)
    calls ps = played c ps r₀

    played_valid : (ps : List Ply) → Valid c (after_play c r₀ ps)
    played_valid ps = subst (Valid c) (sym (calls ps).1) (sequential_ahead c ok memory (calls ps).0).2

    guaranteed : (ps : List Ply) → Guarantee c memory (calls ps).0 (after_play c r₀ ps)
    guaranteed ps = subst (Guarantee c memory (calls ps).0) (sym (calls ps).1) (guarantee c ok memory (calls ps).0)

    all_ended :
        (n k : ℕ) → ends_at n k (trace c memory) ≡ true → (after_play c r₀ play).order ≡ []
        → (task_of (after_play c r₀ play) n).state ≡ 3
    all_ended n k q left =
        let ps = replicate k turn in
        let done = by_turn ps n k q (turns_only k) in
        ap (λ x. (task_of x n).state) ((guaranteed play).whole left) ∙ ap (λ t. t.state) (sym ((guaranteed ps).ended n done)) ∙ done
