-- Confluence, for any runs and calls: where two accepted calls can always follow each other with one result, a terminal run
-- that is reached at all is reached from wherever the calls lead, by the calls that are left. Assumes nothing.
use Prim.Native.Nat.{ℕ, zero, suc}
use mathlib.Core.Path.{◌≡◌, refl, sym, ap, subst, ◌∙◌}
use mathlib.Core.Option.{Option, none, some, none-ne-some, some-injective}
use mathlib.Core.Logic.{◌⊎◌, inl, inr}

module _ {R B : Type 0} (accept : R → B → Option R) where
  -- f is reached from r by n accepted calls
  abbrev pub Reach : R → ℕ → R → Type 0
  Reach f zero r = r ≡ f
  Reach f (suc n) r = (b : B) × (r' : R) × (accept r b ≡ some r') × Reach f n r'

  abbrev pub Terminal : R → Type 0
  Terminal f = (b : B) → accept f b ≡ none

  -- two accepted calls are one and the same, or can follow each other with one result
  abbrev pub Meet : B → B → R → R → Type 0
  Meet b b' r₁ r₂ = (b ≡ b') ⊎ ((r₃ : R) × (accept r₁ b' ≡ some r₃) × (accept r₂ b ≡ some r₃))

  pub terminal_refuses : (f r r' : R) (b : B) → Terminal f → r ≡ f → accept r b ≡ some r' → ⊥
  terminal_refuses f r r' b end q e = none-ne-some r' (sym (end b) ∙ ap (λ x. accept x b) (sym q) ∙ e)

  pub same_result : (r r₁ r₂ : R) (b b' : B) → b ≡ b' → accept r b ≡ some r₁ → accept r b' ≡ some r₂ → r₂ ≡ r₁
  same_result r r₁ r₂ b b' q e e' = some-injective r₂ r₁ (sym e' ∙ ap (λ x. accept r x) (sym q) ∙ e)

module _
    {R B : Type 0} (accept : R → B → Option R) (Valid : R → Type 0)
    (kept : (r r' : R) (b : B) → Valid r → accept r b ≡ some r' → Valid r')
    (diamond : (r r₁ r₂ : R) (b b' : B) → Valid r → accept r b ≡ some r₁ → accept r b' ≡ some r₂ → Meet accept b b' r₁ r₂)
    (f : R) (end : Terminal accept f)
  where
    -- an accepted call is one of those that lead to the terminal run
    pub strip :
        (n : ℕ) (r r' : R) (b : B) → Valid r → Reach accept f n r → accept r b ≡ some r'
        → (m : ℕ) × (n ≡ suc m) × Reach accept f m r'
    strip zero r r' b v q e = absurd (terminal_refuses accept f r r' b end q e)
    strip (suc n) r r' b v q e = go (strip n) (diamond r r' q.1 b q.0 v e q.2)
      where
        b₀ : B
        b₀ = q.0

        r₀ : R
        r₀ = q.1

        go :
            ((s s' : R) (d : B) → Valid s → Reach accept f n s → accept s d ≡ some s'
            → (m : ℕ) × (n ≡ suc m) × Reach accept f m s')
            → Meet accept b b₀ r' r₀ → (m : ℕ) × (suc n ≡ suc m) × Reach accept f m r'
        go ih (inl p) = (n, refl, subst (Reach accept f n) (same_result accept r r' r₀ b b₀ p e q.2) q.3)
        go ih (inr d) =
            let rest = ih r₀ d.0 b (kept r r₀ b₀ v q.2) q.3 d.2 in
            (n, refl, subst (λ k. Reach accept f k r') (sym rest.1) (b₀, d.0, d.1, rest.2))
