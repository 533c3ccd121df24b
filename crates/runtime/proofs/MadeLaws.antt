-- What calls made one after the other come to. Assumes nothing.
use Rattle.std.proofs.Common.{◌≡◌, ℕ, zero, suc, List, [], ◌∷◌, ◌++◌, sym, refl, ap, ◌∙◌, subst}
use Rattle.semantics.specs.Run.{Context}
use Rattle.semantics.specs.Run as Semantics
use Rattle.semantics.specs.Plan.{start, step, «end»}
use Rattle.semantics.specs.Call.{Call, after, after_all}
use Rattle.plans.specs.Calls.{call_of}
use Rattle.runtime.specs.declared.Run.{Run}
use Rattle.runtime.specs.View.{model, context_of}
use Rattle.runtime.specs.Calls.{calls_of_kind, CallsMade}
use Rattle.runtime.proofs.ViewLaws.{same_context}

pub after_append :
    (c : Context) (r : Semantics.Run) (bs ds : List Call) → after_all c r (bs ++ ds) ≡ after_all c (after_all c r bs) ds
unfolding after_all
after_append c r [] ds = refl
after_append c r (b ∷ bs) ds = after_append c (after c r b) bs ds

-- none
pub no_calls : (r : Run) → CallsMade [] r r
unfolding after_all
no_calls r = record { list = refl; weights = refl; run = λ s. refl; sound = λ s. s }

-- one after the other
pub calls_append :
    (bs ds : List Call) (a b d : Run) → CallsMade bs a b → CallsMade ds b d → CallsMade (bs ++ ds) a d
calls_append bs ds a b d h k =
    record {
      list = k.list ∙ h.list;
      weights = k.weights ∙ h.weights;
      run =
          λ s.
          k.run (h.sound s)
          ∙ ap (λ c. after_all c (model b) ds) (same_context b a h.list h.weights)
          ∙ ap (λ m. after_all (context_of a) m ds) (h.run s)
          ∙ sym (after_append (context_of a) (model a) bs ds);
      sound = λ s. k.sound (h.sound s);
    }

-- a call by its kind
module _ (run : Run) (kind n : ℕ) where
  pub kind_start : kind ≡ 0 → (next : Run) → CallsMade (call_of start n ∷ []) run next → CallsMade (calls_of_kind kind n) run next
  unfolding calls_of_kind
  kind_start q next h = subst (λ k. CallsMade (calls_of_kind k n) run next) (sym q) h

  pub kind_step : kind ≡ 1 → (next : Run) → CallsMade (call_of step n ∷ []) run next → CallsMade (calls_of_kind kind n) run next
  unfolding calls_of_kind
  kind_step q next h = subst (λ k. CallsMade (calls_of_kind k n) run next) (sym q) h

  pub kind_end : kind ≡ 2 → (next : Run) → CallsMade (call_of «end» n ∷ []) run next → CallsMade (calls_of_kind kind n) run next
  unfolding calls_of_kind
  kind_end q next h = subst (λ k. CallsMade (calls_of_kind k n) run next) (sym q) h

pub other_kind :
    (kind n : ℕ) → (kind ≡ 0 → ⊥) → (kind ≡ 1 → ⊥) → (kind ≡ 2 → ⊥) → calls_of_kind kind n ≡ []
unfolding calls_of_kind
other_kind zero n p q s = absurd (p refl)
other_kind (suc zero) n p q s = absurd (q refl)
other_kind (suc (suc zero)) n p q s = absurd (s refl)
other_kind (suc (suc (suc k))) n p q s = refl

pub kind_none :
    (run : Run) (kind n : ℕ) → (kind ≡ 0 → ⊥) → (kind ≡ 1 → ⊥) → (kind ≡ 2 → ⊥) → CallsMade (calls_of_kind kind n) run run
kind_none run kind n p q s = subst (λ bs. CallsMade bs run run) (sym (other_kind kind n p q s)) (no_calls run)
