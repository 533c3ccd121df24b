-- The sequential run's calls: each is accepted, they lead to the sequential run, and no task is left there. Assumes nothing.
use Prim.Native.Nat.{ℕ}
use mathlib.Core.Path.{◌≡◌, refl, sym, ap, subst, ◌∙◌}
use mathlib.Core.List.{List, [], ◌∷◌}
use native.Mathlib.Omega.{arith}
use lib.ListN.{length}
use Rattle.tasklist.specs.Accepted.{Accepted}
use Rattle.semantics.specs.Run.{Run, Context, initial}
use Rattle.semantics.specs.Call.{Call, call, after, after_all, one_if, accepted_count}
use Rattle.semantics.specs.Sequential.{sequential, trace}
use Rattle.semantics.proofs.Sequential.{Makes, after_call, sequential_whole}

pub makes_all : (c : Context) (bs : List Call) (r r' : Run) → Makes c r bs r' → after_all c r bs ≡ r'
unfolding after_all
makes_all c [] r r' h = h
makes_all c (b ∷ bs) r r' h =
    ap (λ x. after_all c x bs) (after_call c r h.0 b h.1) ∙ makes_all c bs h.0 r' h.2

pub makes_accepted : (c : Context) (bs : List Call) (r r' : Run) → Makes c r bs r' → accepted_count c r bs ≡ length bs
unfolding accepted_count
makes_accepted c [] r r' h = refl
makes_accepted c (b ∷ bs) r r' h =
    let more : accepted_count c (after c r b) bs ≡ length bs =
    subst (λ x. accepted_count c x bs ≡ length bs) (sym (after_call c r h.0 b h.1)) (makes_accepted c bs h.0 r' h.2) in
    let one : one_if (call c r b) ≡ 1 = ap one_if h.1 in
    omega arith

pub record Traced (c : Context) (memory : List ℕ) : Type 0 where
  pub accepted : accepted_count c (initial c memory) (trace c memory) ≡ length (trace c memory)
  pub leads : after_all c (initial c memory) (trace c memory) ≡ sequential c memory
  pub ends : (sequential c memory).order ≡ []

pub traced : (c : Context) → Accepted c.list → (memory : List ℕ) → Traced c memory
traced c ok memory =
    let w = sequential_whole c ok memory in
    record {
      accepted = makes_accepted c (trace c memory) (initial c memory) (sequential c memory) w.makes;
      leads = makes_all c (trace c memory) (initial c memory) (sequential c memory) w.makes;
      ends = w.order;
    }
