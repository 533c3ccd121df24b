-- The first stage of a call: what a task's own record and the list say, with no look at other tasks or at the memory.
-- Document 01, "Calls".
use Rattle.std.specs.Prelude.{ℕ, zero, suc, ◌+◌, ◌-◌, ◌*◌, ◌%◌, ◌^◌, List, [], ◌∷◌, Bool, cond, not, ◌||◌, length, get_or, take, leb, ltb, eqb}
use Rattle.tasklist.specs.declared.Instruction.{Instruction}
use Rattle.tasklist.specs.declared.Instruction.TheVariants.{Const, Add, Sub, Less, Load, Store, Skip, Spawn, Wait, Fan, Sum, Mul, Div}
use Rattle.tasklist.specs.TaskList.{body_of, footprint_of, instruction_of, total, adds, task_count}
use Rattle.tasklist.specs.Encode.{instruction_fields}
use Rattle.semantics.specs.Run.{Task, Context, mode_of, register, start_weight, end_weight, code_weight}
use Rattle.semantics.specs.Access.{Access, writes, own_access, access_fault}
use Rattle.semantics.specs.Effect.{Plan, stop, go, fetch, own, in_state, moved, assigned, fails, passes, storing, adding, numbered_from, making, leaving}
use Rattle.semantics.specs.Footprint.{Children, none_made, all_made, children, fan_of}
use Rattle.semantics.specs.Rounding.{rounded}

-- "Faults come before waiting": the plan of a step by its fault's number
unfoldable pub unless_fault : ℕ → ℕ → Task → Plan → Plan
unless_fault zero w t p = p
unless_fault (suc k) w t p = fails w (suc k) t

-- "Load needs reading"
unfoldable pub plan_load : ℕ → Task → ℕ → ℕ → Plan
plan_load w t a place =
    unless_fault (access_fault (mode_of t place) 1) w t (fetch place (λ v. own w (assigned a v t)))

-- "store needs writing"
unfoldable pub plan_store : ℕ → Task → ℕ → ℕ → Plan
plan_store w t place v =
    unless_fault (access_fault (mode_of t place) 2) w t (go (writes place ∷ []) (storing w place v t))

-- "wait needs what the job's own mode there allows"
unfoldable pub plan_wait : ℕ → Task → ℕ → Plan
plan_wait w t place =
    let own_mode = mode_of t place in
    unless_fault (access_fault own_mode own_mode) w t (passes w (own_access t place ∷ []) t)

-- request 107: "A job of mode 3 may sum .. when all ahead have mode 3; a writer sums only when none is ahead"
unfoldable pub plan_sum : ℕ → Task → ℕ → ℕ → Plan
plan_sum w t place v =
    unless_fault (access_fault (mode_of t place) 3) w t (go (own_access t place ∷ []) (adding w place v t))

-- "if Ra is 0, pass over the next b instructions"
unfoldable pub passed_over : ℕ → ℕ → ℕ
passed_over zero b = b
passed_over (suc x) b = 0

-- "sums and differences are modulo 2^32"
abbrev pub wrap : ℕ → ℕ
wrap x = x % 2 ^ 32

-- request 108: "Fault 4 is a result above 2^32 − 1; fault 5, tested first .., is a zero Rc."
unfoldable pub quotient_fault : ℕ → ℕ → ℕ
quotient_fault n d = cond (eqb d 0) 5 (cond (ltb (rounded n d) (2 ^ 32)) 0 4)

-- register a := n / d, rounded
unfoldable pub plan_quotient : ℕ → Task → ℕ → ℕ → ℕ → Plan
plan_quotient w t a n d = unless_fault (quotient_fault n d) w t (go [] (own w (assigned a (rounded n d) t)))

-- "Job n's spawn at place i makes job n + 1 + the counts of all spawns before i in that sheet."; request 104: "Later spawns and
-- fans of the sheet number on after the block."
unfoldable pub child_number : Context → ℕ → Task → ℕ
child_number c n t = n + 1 + total (adds (task_count c.list)) (take t.pc (body_of c.list t.body))

-- E-TASK: the spawner steps on and its children of body s are made; "A spawn that faults has no child."
unfoldable pub plan_make : Context → ℕ → ℕ → Task → ℕ → Children → Plan
plan_make c w n t s (none_made k) = fails w k t
plan_make c w n t s (all_made ts) =
    go [] (making w (numbered_from (child_number c n t) (task_count c.list s) ts) t)

-- The thirteen instructions; "Const, add, sub, less, skip and spawn never wait.", and the fan is "one step that never waits".
-- Request 108: "Code 11: Ra := Rb × Rc / 1000. Code 12: Ra := 1000 × Rb / Rc.", the first with a divisor that is never zero.
unfoldable pub plan_instruction : Context → ℕ → ℕ → Task → Instruction → Plan
plan_instruction c w n t (Const a v) = go [] (own w (assigned a (wrap v) t))
plan_instruction c w n t (Add a x y) = go [] (own w (assigned a (wrap (register t x + register t y)) t))
plan_instruction c w n t (Sub a x y) = go [] (own w (assigned a (wrap (register t x + 2 ^ 32 - register t y)) t))
plan_instruction c w n t (Less a x y) = go [] (own w (assigned a (cond (ltb (register t x) (register t y)) 1 0) t))
plan_instruction c w n t (Load a x) = plan_load w t a (register t x)
plan_instruction c w n t (Store a x) = plan_store w t (register t a) (register t x)
plan_instruction c w n t (Skip a b) = go [] (own w (moved (1 + passed_over (register t a) b) t.registers t))
plan_instruction c w n t (Spawn s f) = plan_make c w n t s (children s (footprint_of c.list f) (t ∷ []))
plan_instruction c w n t (Wait a) = plan_wait w t (register t a)
plan_instruction c w n t (Fan s f k) = plan_make c w n t s (children s (footprint_of c.list f) (fan_of 0 k t))
plan_instruction c w n t (Sum a x) = plan_sum w t (register t a) (register t x)
plan_instruction c w n t (Mul a x y) = plan_quotient w t a (register t x * register t y) 1000
plan_instruction c w n t (Div a x y) = plan_quotient w t a (1000 * register t x) (register t y)

-- how often the number of its code an instruction weighs; request 104: "The weight is 8 × c."
unfoldable pub units : Instruction → ℕ
units (Const a v) = 1
units (Add a x y) = 1
units (Sub a x y) = 1
units (Less a x y) = 1
units (Load a x) = 1
units (Store a x) = 1
units (Skip a b) = 1
units (Spawn s f) = 1
units (Wait a) = 1
units (Fan s f k) = k
units (Sum a x) = 1
units (Mul a x y) = 1
units (Div a x y) = 1

-- the code of an instruction is the first of its fields
unfoldable pub step_weight : Context → Instruction → ℕ
step_weight c i = units i * code_weight c (get_or (instruction_fields i) 0 0)

-- "at the end of its sheet or after a fault"
unfoldable pub at_end : Context → Task → Bool
at_end c t = leb (length (body_of c.list t.body)) t.pc || not (eqb t.fault 0)

-- a location and its mode for each mode that isn't 0, from location a on
unfoldable pub needs_from : ℕ → List ℕ → List Access
needs_from a [] = []
needs_from a (zero ∷ ms) = needs_from (suc a) ms
needs_from a (suc m ∷ ms) = record { location = a; mode = suc m } ∷ needs_from (suc a) ms

-- E-START: "the job may read each entry of mode 1 and write each of mode 2; its state becomes 2"; request 107: and sum each of
-- mode 3; 11 already started
unfoldable pub plan_start : Context → Task → Plan
plan_start c t =
    cond (eqb t.state 1) (go (needs_from 0 t.modes) (own (start_weight c) (in_state 2 t))) (stop 11)

-- E-SEQ: "one instruction"; 13 not started, 14 at its end
unfoldable pub plan_step : Context → ℕ → Task → Plan
plan_step c n t =
    let i = instruction_of c.list t.body t.pc in
    cond (eqb t.state 2) (cond (at_end c t) (stop 14) (plan_instruction c (step_weight c i) n t i)) (stop 13)

-- E-JOIN: 13 not started, 15 not at its end
unfoldable pub plan_end : Context → Task → Plan
plan_end c t = cond (eqb t.state 2) (cond (at_end c t) (go [] (leaving (end_weight c) t)) (stop 15)) (stop 13)

-- The three kinds of call.
pub data Action : Type 0 where
  start : Action
  step : Action
  end : Action

-- the plan of a call on task n, by its record
unfoldable pub plan : Context → Action → ℕ → Task → Plan
plan c start n t = plan_start c t
plan c step n t = plan_step c n t
plan c end n t = plan_end c t
