-- Every run that calls lead to from an initial one is sound: bounds of every record, of the memory and of the counters.
-- Each accepted call raises one task's rank by one, so that the calls are the sum of the ranks. Assumes nothing.
use Prim.Native.Nat.{ℕ, ◌*◌, ◌^◌, ◌<◌, ◌≤◌}
use mathlib.Core.Path.{◌≡◌, subst}
use mathlib.Core.List.{List}
use lib.ListN.{length, get_or}
use Rattle.tasklist.specs.Accepted.{Accepted}
use Rattle.semantics.specs.Run.{Context, weight_of, initial}
use Rattle.semantics.specs.Call.{Call, after_all}
use Rattle.semantics.specs.Sequential.{sequential, trace}
use Rattle.semantics.specs.Sound.{Sound}
use Rattle.semantics.proofs.Trace.{traced}
use Rattle.semantics.proofs.SoundKept.{sound_after_all}
use Rattle.semantics.proofs.SoundInitial.{initial_sound}

-- For every list of calls, and for the sequential run.
module _
    (c : Context) (ok : Accepted c.list) (most : ℕ) (light : (place : ℕ) → 16 * weight_of c place ≤ most) (memory : List ℕ)
    (fits : length memory ≡ c.list.locations) (small : (a : ℕ) → get_or memory a 0 < 2 ^ 32)
  where
    pub sound : (calls : List Call) → Sound c most (after_all c (initial c memory) calls)
    sound calls = sound_after_all c ok most light calls (initial c memory) (initial_sound c ok memory most fits small)

    pub sequential_sound : Sound c most (sequential c memory)
    sequential_sound = subst (Sound c most) (traced c ok memory).leads (sound (trace c memory))
