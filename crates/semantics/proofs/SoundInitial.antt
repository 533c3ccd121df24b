-- An initial run is sound. Assumes nothing.
use Prim.Native.Nat.{ℕ, zero, suc, ◌-◌, ◌^◌, ◌<◌, ◌≤◌}
use mathlib.Core.Path.{◌≡◌, refl, sym, ap, subst, ◌∙◌}
use mathlib.Core.List.{List, [], ◌∷◌, ◌++◌}
use mathlib.Core.Logic.{◌⊎◌, inl, inr}
use native.Mathlib.Omega.{arith}
use lib.ListN.{length, get_or, replicate, length-append, length-replicate}
use Rattle.tasklist.specs.TaskList.{total}
use Rattle.tasklist.specs.Accepted.{Accepted}
use Rattle.semantics.specs.Run.{Task, Context, never, task_of, root_modes, root, initial}
use Rattle.semantics.specs.Sound.{In, ModesSound, RegistersSound, TaskSound, rank, weighs, Sound}
use Rattle.semantics.proofs.SoundModes.{none_sound}
use Rattle.semantics.proofs.Valid.{never_state}
use Rattle.semantics.proofs.Kept.{blanks, initial_valid}
use Rattle.semantics.proofs.Ranks.{total_cons, never_rank, never_weighs}

-- the initial run
zeros_small : RegistersSound (0 ∷ 0 ∷ 0 ∷ 0 ∷ [])
zeros_small = record { size = refl; small = each }
  where
    each : (a : ℕ) → get_or (0 ∷ 0 ∷ 0 ∷ 0 ∷ []) a 0 < 2 ^ 32
    each zero = omega arith
    each (suc zero) = omega arith
    each (suc (suc zero)) = omega arith
    each (suc (suc (suc zero))) = omega arith
    each (suc (suc (suc (suc a)))) = omega arith

writes_at : (n m a : ℕ) → get_or (replicate n 2 ++ replicate m 0) a 0 ≤ 3
writes_at zero zero a = omega arith
writes_at zero (suc m) zero = omega arith
writes_at zero (suc m) (suc a) = writes_at zero m a
writes_at (suc n) m zero = omega arith
writes_at (suc n) m (suc a) = writes_at n m a

none_beyond : (n m a : ℕ) → n ≤ a → ◌≡◌ {A = ℕ} (get_or (replicate n 2 ++ replicate m 0) a 0) 0
none_beyond zero zero a h = refl
none_beyond zero (suc m) zero h = refl
none_beyond zero (suc m) (suc a) h = none_beyond zero m a (omega arith)
none_beyond (suc n) m zero h = let bad : ⊥ = omega arith in absurd bad
none_beyond (suc n) m (suc a) h = none_beyond n m a (omega arith)

module _ (c : Context) (ok : Accepted c.list) where
  root_modes_sound : ModesSound c.list.locations (root_modes c.list.locations)
  unfolding root_modes
  root_modes_sound =
      record {
        size =
            length-append (replicate c.list.locations 2) (replicate (64 - c.list.locations) 0)
            ∙ simp length-replicate (omega (arith, ok.most_locations));
        most = writes_at c.list.locations (64 - c.list.locations);
        beyond = none_beyond c.list.locations (64 - c.list.locations);
      }

  root_sound : TaskSound c (root c)
  unfolding root
  root_sound =
      record {
        state = omega arith;
        body = ok.some_body;
        pc = omega arith;
        registers = zeros_small;
        modes = root_modes_sound;
        steps = omega arith;
        early = λ _. omega arith;
        fault = omega arith;
        blank = λ q. let bad : ⊥ = omega arith in absurd bad;
      }

  never_sound : TaskSound c never
  unfolding never
  never_sound =
      record {
        state = omega arith;
        body = ok.some_body;
        pc = omega arith;
        registers = zeros_small;
        modes = none_sound c.list.locations;
        steps = omega arith;
        early = λ _. omega arith;
        fault = omega arith;
        blank = λ q. refl;
      }

  module _ (memory : List ℕ) where
    initial_tasks : (k : ℕ) → TaskSound c (task_of (initial c memory) k)
    unfolding initial
    initial_tasks zero = root_sound
    initial_tasks (suc k) = subst (TaskSound c) (sym (blanks k 127)) never_sound

    initial_light : (k : ℕ) → (task_of (initial c memory) k).weight ≡ 0
    unfolding initial
    initial_light zero = unfold root in refl
    initial_light (suc k) = ap (λ t. t.weight) (blanks k 127) ∙ unfold never in refl

    initial_unended :
        (k : ℕ) → ((task_of (initial c memory) k).state ≡ 1) ⊎ ((task_of (initial c memory) k).state ≡ 2)
        → In k (initial c memory).order
    unfolding initial
    initial_unended zero a = inl refl
    initial_unended (suc k) a = absurd (no_state a (ap (λ t. t.state) (blanks k 127) ∙ never_state))
      where
        no_state :
            ((get_or (replicate 127 never) k never).state ≡ 1) ⊎ ((get_or (replicate 127 never) k never).state ≡ 2)
            → (get_or (replicate 127 never) k never).state ≡ 0 → ⊥
        no_state (inl p) z = omega arith
        no_state (inr p) z = omega arith

    -- a sum over the table of what is 0 for job 0 and for a blank record
    blank_total : (f : Task → ℕ) → f never ≡ 0 → (m : ℕ) → total f (replicate m never) ≡ 0
    unfolding total
    blank_total f none zero = refl
    blank_total f none (suc m) = let h = blank_total f none m in omega (arith, none)

    initial_total : (f : Task → ℕ) → f never ≡ 0 → f (root c) ≡ 0 → total f (root c ∷ replicate 127 never) ≡ 0
    initial_total f none first =
        total_cons f (root c) (replicate 127 never) ∙ omega (arith, first, blank_total f none 127)

    root_rank : rank (root c) ≡ 0
    unfolding rank root
    root_rank = refl

    initial_rank : (k : ℕ) → rank (task_of (initial c memory) k) ≡ 0
    unfolding initial
    initial_rank zero = root_rank
    initial_rank (suc k) = ap rank (blanks k 127) ∙ never_rank

    pub initial_sound :
        (most : ℕ) → length memory ≡ c.list.locations → ((a : ℕ) → get_or memory a 0 < 2 ^ 32)
        → Sound c most (initial c memory)
    initial_sound most q h =
        record {
          valid = initial_valid c ok memory;
          tasks = initial_tasks;
          unended = initial_unended;
          locations = unfold initial in q;
          small = unfold initial in h;
          ranks = unfold initial in initial_total rank never_rank root_rank;
          weight = unfold initial in omega arith;
          weights = λ k. let z = initial_light k in omega arith;
          weighed = unfold initial in initial_total weighs never_weighs (unfold root in refl);
          earned = λ _ k. omega (arith, initial_rank k);
        }
