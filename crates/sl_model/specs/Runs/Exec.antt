-- Statements: where one goes from a state.
--
-- Restates ISO/IEC 14882:2017, [stmt.stmt] with [stmt.block], [stmt.if], [stmt.while], [stmt.for], [stmt.ranged], [stmt.break],
-- [stmt.cont], [stmt.return] and [stmt.dcl]; [stmt.expr] with [expr], by which nothing is read where a discarded value is a
-- variable's name; [expr.ass], by which the right side comes first; [istream.formatted.arithmetic] and [ostream.formatted] as far
-- as numbers and texts go.
-- Chosen here: each statement but a block takes a step when it starts, and each test of a loop takes one. Input is a list of
-- ints, and a read fails at its end alone. A variable that couldn't be read keeps its number. Binding a reference is no use of it; a
-- range-for by reference binds its name anew on each turn.
use Rattle.std.specs.Prelude.{ℕ, zero, suc, ◌+◌, Bool, true, false, not, List, [], ◌∷◌, ◌++◌, length, ℤ, pos, Option, Some, None, unwrap_or}
use Rattle.std.specs.Prelude.{slice_get}
use Rattle.std.specs.Fmt.{signed_decimal}
use Rattle.sl_base.specs.declared.scalar.Scalar.TheVariants as t
use Rattle.sl_syntax.specs.declared.operator.Comparison.TheVariants as c
use Rattle.sl_base.specs.declared.place.Place.{Place}
use Rattle.sl_model.specs.Numbers.{is_zero, converted, operated}
use Rattle.sl_syntax.specs.declared.typed.callee.Callee.TheVariants as callees
use Rattle.sl_syntax.specs.declared.typed.element.ElementPart.TheVariants as parts
use Rattle.sl_syntax.specs.declared.typed.element.Taken.TheVariants as taken
use Rattle.sl_syntax.specs.declared.typed.head.Head.{Head}
use Rattle.sl_syntax.specs.declared.typed.operator.Operator.{Operator}
use Rattle.sl_syntax.specs.declared.typed.operator.Operator.TheVariants as operators
use Rattle.sl_syntax.specs.Typed.{Expr, held, scalar, reference, Cond, read, not_read, test, always, Printed, text, endline, number as printed_number}
use Rattle.sl_syntax.specs.Typed.{Effect, reads, prints, evaluates, assigns, updates, moves_to, Declaration, unset_scalar, set_scalar, set_iterator}
use Rattle.sl_syntax.specs.Typed.{binds_reference, makes, First, no_first, declares_first, does_first, Stmt, block, declares, choice, choice_else}
use Rattle.sl_syntax.specs.Typed.{while, for, range_for, break, continue, gives_back, does, Stmts, no_more, followed}
use Rattle.sl_model.specs.Memory.Containers.{Part, cont_at, refers, begin_of, end_of}
use Rattle.sl_model.specs.LibraryCalls.Values.{Value, nothing, number, iterator, element_at}
use Rattle.sl_model.specs.Runs.Ends.{End, OutOfSteps, NoMeaning}
use Rattle.sl_model.specs.Runs.State.{reference_to, State, scalar_of, cont_of, iter_of, set_scalar_at, set_iterator_at, stamp_held, new_scalar}
use Rattle.sl_model.specs.Runs.State.{new_pointer, new_iterator, new_container, leave}
use Rattle.sl_model.specs.Runs.Eval.{Out, Gives, Stops, World, then_number, then_call, eval, reach, eval_all, use_library, read_at, write_at}
use Rattle.sl_model.specs.Runs.Eval.{answered, name_place}

-- where a statement goes
pub data Flow : Type 0 where
  Next : State → Flow
  Broke : State → Flow
  Continued : State → Flow
  Returned : Value → State → Flow
  Over : End → State → Flow

-- what a statement does to a state
abbrev pub Meaning : Type 0
Meaning = State → Flow

-- a step is taken, or the run is out of steps
abbrev pub tick : Meaning → Meaning
tick go s = elim s.steps as (λ _. Flow) [ zero ↦ Over OutOfSteps s | suc n ↦ go (record s { steps = n }) ]

-- goes on from where a statement is done
abbrev pub and_then : Flow → Meaning → Flow
and_then (Next s) go = go s
and_then (Broke s) go = Broke s
and_then (Continued s) go = Continued s
and_then (Returned v s) go = Returned v s
and_then (Over e s) go = Over e s

-- what follows a value
abbrev pub flow_of : Out → (Value → Meaning) → Flow
flow_of (Gives v s) go = go v s
flow_of (Stops e s) go = Over e s

-- what follows a number
abbrev pub on_number : (ℤ → Meaning) → Value → Meaning
on_number go (number z) s = go z s
on_number go v s = go (pos 0) s

-- what follows a stamp
abbrev pub on_stamp : (ℕ → Meaning) → Value → Meaning
on_stamp go (iterator x) s = go x s
on_stamp go v s = go 0 s

-- one of two ways
abbrev pub either_way : Bool → Meaning → Meaning → Meaning
either_way true a b s = a s
either_way false a b s = b s

-- a scope ends on each way out of it; the end of the run ends none
abbrev pub scoped : ℕ → State → Flow → Flow
scoped site start (Next s) = Next (leave site start s)
scoped site start (Broke s) = Broke (leave site start s)
scoped site start (Continued s) = Continued (leave site start s)
scoped site start (Returned v s) = Returned v (leave site start s)
scoped site start (Over e s) = Over e s

-- variables are read in turn until the input is at its end; then goes on with whether all were
abbrev pub read_all : List ℕ → State → (Bool → Meaning) → Flow
read_all [] s go = go true s
read_all (x ∷ xs) s go = elim s.input as (λ _. Flow) [
  | [] ↦ go false s
  | z ∷ rest ↦ read_all xs (set_scalar_at (scalar_of s x) z (record s { input = rest })) go
]

-- a condition, and what follows its answer
abbrev pub tested : World → Cond → State → (Bool → Meaning) → Flow
tested w (read xs) s go = read_all xs s go
tested w (not_read xs) s go = read_all xs s (λ b. go (not b))
tested w (test a) s go = flow_of (eval w a s) (on_number (λ z. go (not (is_zero z))))
tested w always s go = go true s

-- bytes are written
abbrev pub wrote : List ℕ → State → State
wrote bytes s = record s { written = s.written ++ bytes }

-- one item of a print
abbrev pub printed : World → Printed → Meaning
printed w (text bytes) s = Next (wrote bytes s)
printed w endline s = Next (wrote (10 ∷ []) s)
printed w (printed_number a) s = flow_of (eval w a s) (on_number (λ z s. Next (wrote (signed_decimal z) s)))

-- the items of a print in turn
abbrev pub print_all : World → List Printed → Meaning
print_all w [] s = Next s
print_all w (p ∷ ps) s = and_then (printed w p s) (print_all w ps)

-- an expression is the name of a scalar or of a reference alone
abbrev pub is_name : Expr → Bool
is_name (held (scalar x at)) = true
is_name (held (reference x at name parts.Whole)) = true
is_name a = false

-- a value is discarded: a name alone is not read, and every other expression is evaluated
abbrev pub discarded : World → Expr → Meaning
discarded w a = either_way (is_name a) Next (λ s. flow_of (eval w a s) (λ v. Next))

-- an effect; the right side of an assignment comes first, then the place of the left, then its number
abbrev pub affect : World → Effect → Meaning
affect w (reads xs) s = read_all xs s (λ b. Next)
affect w (prints ps) s = print_all w ps s
affect w (evaluates a) s = discarded w a s
affect w (assigns l a) s = flow_of (eval w a s) (on_number (λ z s. flow_of (reach w l s) (λ at_l s. Next (write_at at_l z s))))
affect w (updates op ty left_ty at l a) s = flow_of (eval w a s) (on_number (λ y s. flow_of (reach w l s) (λ at_l s.
    flow_of (then_number (read_at (name_place l) at_l s) (λ x s. answered at (operated op ty (converted ty x) y) s)) (on_number (λ z s.
    Next (write_at at_l (converted left_ty z) s))))))
affect w (moves_to it a) s = flow_of (eval w a s) (on_stamp (λ stamp s. Next (set_iterator_at (iter_of s it) stamp s)))

-- a reference to the element at a place comes into scope, where there is one
abbrev pub bound_to : Place → Part → Option ℕ → Meaning
bound_to at part None s = Over (NoMeaning at) s
bound_to at part (Some refer) s = Next (new_pointer (reference_to refer part) s)

-- a reference to what a call gave comes into scope
abbrev pub binds_to : Place → Value → Meaning
binds_to at (element_at j k part) s = bound_to at part (slice_get (refers (cont_at s.memory j)) k) s
binds_to at v s = Over (NoMeaning at) s

-- a declaration: the variable comes into scope when its initialiser is done
abbrev pub declared : World → Declaration → Meaning
declared w (unset_scalar ty) s = Next (new_scalar ty None s)
declared w (set_scalar ty a) s = flow_of (eval w a s) (on_number (λ z s. Next (new_scalar ty (Some z) s)))
declared w (set_iterator a) s = flow_of (eval w a s) (on_stamp (λ stamp s. Next (new_iterator stamp s)))
declared w (binds_reference h ops) s = flow_of (then_call (eval_all w ops s) (use_library w.lib h)) (binds_to h.place)
declared w (makes form h ops) s = flow_of (then_call (eval_all w ops s) (use_library w.lib h)) (λ v t. Next (new_container (length s.memory.conts) t))

-- the first and the last part of a `for`
abbrev pub begun : World → First → Meaning
begun w no_first s = Next s
begun w (declares_first d) s = declared w d s
begun w (does_first e) s = affect w e s

-- the last part of a `for`
abbrev pub ended : World → Option Effect → Meaning
ended w None s = Next s
ended w (Some e) s = affect w e s

-- a loop's body is done, by its end or by `continue`, or the loop is left
abbrev pub after_body : Flow → Meaning → Flow
after_body (Next s) go = go s
after_body (Continued s) go = go s
after_body (Broke s) go = Next s
after_body (Returned v s) go = Returned v s
after_body (Over e s) go = Over e s

-- a test of a loop is counted
abbrev pub counted : State → State
counted s = record s { tests = s.tests + 1 }

-- at most n turns of a loop; each test takes a step, so n steps and one are enough
abbrev pub turns : ℕ → (State → (Bool → Meaning) → Flow) → Meaning → Meaning → Meaning
turns zero check body last s = Over OutOfSteps s
turns (suc n) check body last s =
    tick (λ s. check (counted s) (λ b. either_way b (λ s. after_body (body s) (λ s. and_then (last s) (turns n check body last))) Next)) s

-- a loop in a state
abbrev pub loop : (State → (Bool → Meaning) → Flow) → Meaning → Meaning → Meaning
loop check body last s = turns (suc s.steps) check body last s

-- what a range-for asks of the library by itself
abbrev pub asks : Operator → Place → ℕ → Head
asks op at name = record { callee = callees.Hidden op; place = at; site = None; object = None; names = None ∷ Some name ∷ Some name ∷ [] }

-- the hidden iterator at a location
abbrev pub hidden_at : State → ℕ → Value
hidden_at s at = iterator (stamp_held s at)

-- what a range-for does with the element that it reads: its variable takes the number
abbrev pub takes_number : Place → ℕ → Meaning → Value → Meaning
takes_number at x body v s = flow_of (read_at at v s) (on_number (λ z s. body (set_scalar_at x z s)))

-- or its reference is bound to the element, for this turn
abbrev pub takes_element : Place → Meaning → Value → Meaning
takes_element at body v s = scoped 0 s (and_then (binds_to at v s) body)

-- a range-for whose two hidden iterators have just come into scope: the iterators are compared, the element is read and taken, with
-- the body behind it, and the first iterator goes up
abbrev pub over_range : World → Place → ℕ → ℕ → ℕ → (Value → Meaning) → Meaning
over_range w at name b e takes = loop
    (λ s go. flow_of (use_library w.lib (asks (operators.Compare c.NotEqual) at name) (hidden_at s b ∷ hidden_at s e ∷ []) s)
    (on_number (λ z. go (not (is_zero z)))))
    (λ s. flow_of (use_library w.lib (asks operators.Dereference at name) (hidden_at s b ∷ []) s) takes)
    (λ s. flow_of (use_library w.lib (asks operators.Increment at name) (hidden_at s b ∷ []) s)
    (on_stamp (λ stamp s. Next (set_iterator_at b stamp s))))

-- the state in which a range-for over a container's location has its two hidden iterators
abbrev pub range_start : ℕ → State → State
range_start i s = new_iterator (end_of s.memory i) (new_iterator (begin_of s.memory i) s)

abbrev mutual
  -- a statement takes a step when it starts, but for a block
  pub exec : World → Stmt → Meaning
  exec w (block site all) s = scoped (unwrap_or site 0) s (exec_all w all s)
  exec w (declares d) s = tick (declared w d) s
  exec w (choice c a) s = tick (λ s. tested w c s (λ v. either_way v (exec w a) Next)) s
  exec w (choice_else c a b) s = tick (λ s. tested w c s (λ v. either_way v (exec w a) (exec w b))) s
  exec w (while l c body) s = tick (loop (tested w c) (exec w body) Next) s
  exec w (for l head c last body) s = tick (λ s. scoped 0 s (and_then (begun w head s) (loop (tested w c) (exec w body) (ended w last)))) s
  exec w (range_for l taken.Value x at name body) s = tick (λ s. scoped 0 s
      (over_range w at name (length s.iters) (length s.iters + 1) (takes_number at (length s.scalars) (exec w body))
      (new_scalar t.Int None (range_start (cont_of s x) s)))) s
  exec w (range_for l taken.Reference x at name body) s = tick (λ s. scoped 0 s
      (over_range w at name (length s.iters) (length s.iters + 1) (takes_element at (exec w body)) (range_start (cont_of s x) s))) s
  exec w break s = tick Broke s
  exec w continue s = tick Continued s
  exec w (gives_back None) s = tick (Returned nothing) s
  exec w (gives_back (Some a)) s = tick (λ s. flow_of (eval w a s) Returned) s
  exec w (does e) s = tick (affect w e) s

  -- statements in turn
  pub exec_all : World → Stmts → Meaning
  exec_all w no_more s = Next s
  exec_all w (followed a rest) s = and_then (exec w a s) (exec_all w rest)
