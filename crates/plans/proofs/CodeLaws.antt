-- By its code an instruction never waits, or may wait. Assumes nothing.
use Rattle.std.proofs.Common.{◌≡◌, ℕ, ◌≤◌, ◌≢◌, refl, arith, get_or}
use Rattle.tasklist.specs.declared.Instruction.{Instruction}
use Rattle.tasklist.specs.declared.Instruction.TheVariants.{Const, Add, Sub, Less, Load, Store, Skip, Spawn, Wait, Fan, Sum, Mul, Div}
use Rattle.tasklist.specs.Encode.{instruction_fields}

-- there is no other case with a code of those that never wait
pub never_waits :
    (i : Instruction) (code : ℕ) → code ≡ get_or (instruction_fields i) 0 0 → code ≢ 4 → code ≢ 5 → code ≢ 8 → code ≢ 10
    → ((a v : ℕ) → i ≡ Const a v → ⊥) → ((a x y : ℕ) → i ≡ Add a x y → ⊥) → ((a x y : ℕ) → i ≡ Sub a x y → ⊥)
    → ((a x y : ℕ) → i ≡ Less a x y → ⊥) → ((a b : ℕ) → i ≡ Skip a b → ⊥) → ((s x : ℕ) → i ≡ Spawn s x → ⊥)
    → ((s x k : ℕ) → i ≡ Fan s x k → ⊥) → ((a x y : ℕ) → i ≡ Mul a x y → ⊥) → ((a x y : ℕ) → i ≡ Div a x y → ⊥) → ⊥
unfolding instruction_fields
never_waits (Const a v) code q f g h o c1 c2 c3 c4 c5 c6 c7 c8 c9 = c1 a v refl
never_waits (Add a x y) code q f g h o c1 c2 c3 c4 c5 c6 c7 c8 c9 = c2 a x y refl
never_waits (Sub a x y) code q f g h o c1 c2 c3 c4 c5 c6 c7 c8 c9 = c3 a x y refl
never_waits (Less a x y) code q f g h o c1 c2 c3 c4 c5 c6 c7 c8 c9 = c4 a x y refl
never_waits (Load a x) code q f g h o c1 c2 c3 c4 c5 c6 c7 c8 c9 = f q
never_waits (Store a x) code q f g h o c1 c2 c3 c4 c5 c6 c7 c8 c9 = g q
never_waits (Skip a b) code q f g h o c1 c2 c3 c4 c5 c6 c7 c8 c9 = c5 a b refl
never_waits (Spawn s x) code q f g h o c1 c2 c3 c4 c5 c6 c7 c8 c9 = c6 s x refl
never_waits (Wait a) code q f g h o c1 c2 c3 c4 c5 c6 c7 c8 c9 = h q
never_waits (Fan s x k) code q f g h o c1 c2 c3 c4 c5 c6 c7 c8 c9 = c7 s x k refl
never_waits (Sum a x) code q f g h o c1 c2 c3 c4 c5 c6 c7 c8 c9 = o q
never_waits (Mul a x y) code q f g h o c1 c2 c3 c4 c5 c6 c7 c8 c9 = c8 a x y refl
never_waits (Div a x y) code q f g h o c1 c2 c3 c4 c5 c6 c7 c8 c9 = c9 a x y refl

-- nor one with a code of those that may wait
pub may_wait :
    (i : Instruction) (code : ℕ) → code ≡ get_or (instruction_fields i) 0 0 → 4 ≤ code → code ≢ 6 → code ≢ 7 → code ≢ 9
    → code ≢ 11 → code ≢ 12 → ((a x : ℕ) → i ≡ Load a x → ⊥) → ((a x : ℕ) → i ≡ Store a x → ⊥) → ((a : ℕ) → i ≡ Wait a → ⊥)
    → ((a x : ℕ) → i ≡ Sum a x → ⊥) → ⊥
unfolding instruction_fields
may_wait (Const a v) code q f g h o m d c1 c2 c3 c4 = omega arith
may_wait (Add a x y) code q f g h o m d c1 c2 c3 c4 = omega arith
may_wait (Sub a x y) code q f g h o m d c1 c2 c3 c4 = omega arith
may_wait (Less a x y) code q f g h o m d c1 c2 c3 c4 = omega arith
may_wait (Load a x) code q f g h o m d c1 c2 c3 c4 = c1 a x refl
may_wait (Store a x) code q f g h o m d c1 c2 c3 c4 = c2 a x refl
may_wait (Skip a b) code q f g h o m d c1 c2 c3 c4 = g q
may_wait (Spawn s x) code q f g h o m d c1 c2 c3 c4 = h q
may_wait (Wait a) code q f g h o m d c1 c2 c3 c4 = c3 a refl
may_wait (Fan s x k) code q f g h o m d c1 c2 c3 c4 = o q
may_wait (Sum a x) code q f g h o m d c1 c2 c3 c4 = c4 a x refl
may_wait (Mul a x y) code q f g h o m d c1 c2 c3 c4 = m q
may_wait (Div a x y) code q f g h o m d c1 c2 c3 c4 = d q
