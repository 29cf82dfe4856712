-- A run that has more steps left does the same, but where it is out of steps. Here: statements.
use Rattle.std.proofs.Common.{◌≡◌, ◌+◌, sym, subst, ℕ, zero, suc, List, [], ◌∷◌, length, Bool, true, false, not, ℤ, pos, Option, Some, None}
use Rattle.std.proofs.Common.{unwrap_or, suc-add, arith, ◌≤◌, slice_get}
use Rattle.std.specs.Fmt.{signed_decimal}
use Rattle.sl_base.specs.declared.place.Place.{Place}
use Rattle.sl_base.specs.declared.scalar.Scalar.TheVariants as t
use Rattle.sl_syntax.specs.declared.operator.Comparison.TheVariants as c
use Rattle.sl_syntax.specs.declared.typed.element.Taken.TheVariants as taken
use Rattle.sl_syntax.specs.declared.typed.operator.Operator.TheVariants as operators
use Rattle.sl_syntax.specs.Typed.{Cond, read, not_read, test, always, Printed, text, endline, number as printed_number, Effect, reads, prints}
use Rattle.sl_syntax.specs.Typed.{evaluates, assigns, updates, moves_to, Declaration, unset_scalar, set_scalar, set_iterator, binds_reference, makes}
use Rattle.sl_syntax.specs.Typed.{First, no_first, declares_first, does_first, Stmt, block, declares, choice, choice_else, while, for, range_for}
use Rattle.sl_syntax.specs.Typed.{break, continue, gives_back, does, Stmts, no_more, followed}
use Rattle.sl_model.specs.Numbers.{is_zero, converted, operated}
use Rattle.sl_model.specs.LibraryCalls.Values.{Value, nothing, number, iterator, pair, two, scalar_at, container_at, element_at}
use Rattle.sl_model.specs.Memory.Containers.{Part, cont_at, refers}
use Rattle.sl_model.specs.Runs.Ends.{End, OutOfSteps}
use Rattle.sl_model.specs.Runs.State.{reference_to, State, scalar_of, cont_of, iter_of, set_scalar_at, set_iterator_at, new_scalar, new_pointer}
use Rattle.sl_model.specs.Runs.State.{new_iterator, new_container, leave}
use Rattle.sl_model.specs.Runs.Eval.{Out, World, use_library, write_at, name_place}
use Rattle.sl_model.specs.Runs.Exec.{Flow, Next, Broke, Continued, Returned, Over, Meaning, tick, and_then, flow_of, on_number, on_stamp, either_way}
use Rattle.sl_model.specs.Runs.Exec.{scoped, read_all, tested, wrote, printed, print_all, is_name, affect, bound_to, binds_to, declared, begun, ended}
use Rattle.sl_model.specs.Runs.Exec.{after_body, counted, turns, loop, asks, hidden_at, takes_number, takes_element, over_range, range_start, exec}
use Rattle.sl_model.specs.Runs.Exec.{exec_all}
use Rattle.sl_model.proofs.Longer.{more, LaterOut, gives, stops, out, SameWorld, set_scalar_at-more, write_at-more, answered-later, read_at-later}
use Rattle.sl_model.proofs.Longer.{use_library-later, then_number-later, then_call-later, eval-later, reach-later, eval_all-later}

-- where a statement goes, and where it goes with k steps more: to the same, or the run is out of steps
pub data LaterFlow (k : ℕ) : Flow → Flow → Type 0 where
  next : (s : State) → LaterFlow k (Next s) (Next (more k s))
  broke : (s : State) → LaterFlow k (Broke s) (Broke (more k s))
  continued : (s : State) → LaterFlow k (Continued s) (Continued (more k s))
  returned : (v : Value) (s : State) → LaterFlow k (Returned v s) (Returned v (more k s))
  over : (e : End) (s : State) → LaterFlow k (Over e s) (Over e (more k s))
  run_out : (s : State) (x : Flow) → LaterFlow k (Over OutOfSteps s) x

-- what a statement does, and what one does with k steps more: the same, or the run is out of steps
abbrev pub LaterMeaning : ℕ → Meaning → Meaning → Type 0
LaterMeaning k go other = (s : State) → LaterFlow k (go s) (other (more k s))

-- k steps more change nothing of what a statement does
abbrev pub SameFlow : ℕ → Meaning → Type 0
SameFlow k go = LaterMeaning k go go

-- on to a state that has k steps more
next_to : {k : ℕ} (s t : State) → t ≡ more k s → LaterFlow k (Next s) (Next t)
next_to {k} s t e = subst (λ t. LaterFlow k (Next s) (Next t)) (sym e) (next s)

-- a step is taken where n are left, and where k more are
ticked : (k n : ℕ) (go other : Meaning) (s : State) → LaterMeaning k go other →
    LaterFlow k (tick go (record s { steps = n })) (tick other (record s { steps = n + k }))
ticked k zero go other s same = run_out _ _
ticked k (suc n) go other s same = rw suc-add (same (record s { steps = n }))

tick-later : {k : ℕ} (go other : Meaning) → LaterMeaning k go other → LaterMeaning k (tick go) (tick other)
tick-later {k} go other same s = ticked k s.steps go other s same

and_then-later : {k : ℕ} (go other : Meaning) {a b : Flow} → LaterFlow k a b → LaterMeaning k go other
    → LaterFlow k (and_then a go) (and_then b other)
and_then-later go other (next s) same = same s
and_then-later go other (broke s) same = broke s
and_then-later go other (continued s) same = continued s
and_then-later go other (returned v s) same = returned v s
and_then-later go other (over e s) same = over e s
and_then-later go other (run_out s x) same = run_out s (and_then x other)

after_body-later : {k : ℕ} (go other : Meaning) {a b : Flow} → LaterFlow k a b → LaterMeaning k go other
    → LaterFlow k (after_body a go) (after_body b other)
after_body-later go other (next s) same = same s
after_body-later go other (broke s) same = next s
after_body-later go other (continued s) same = same s
after_body-later go other (returned v s) same = returned v s
after_body-later go other (over e s) same = over e s
after_body-later go other (run_out s x) same = run_out s (after_body x other)

flow_of-later : {k : ℕ} (go other : Value → Meaning) {a b : Out} → LaterOut k a b → ((v : Value) → LaterMeaning k (go v) (other v)) →
    LaterFlow k (flow_of a go) (flow_of b other)
flow_of-later go other (gives v s) same = same v s
flow_of-later go other (stops e s) same = over e s
flow_of-later go other (out s x) same = run_out s (flow_of x other)

on_number-later : {k : ℕ} (go other : ℤ → Meaning) → ((z : ℤ) → LaterMeaning k (go z) (other z)) → (v : Value)
    → LaterMeaning k (on_number go v) (on_number other v)
on_number-later go other same nothing s = same (pos 0) s
on_number-later go other same (number z) s = same z s
on_number-later go other same (iterator x) s = same (pos 0) s
on_number-later go other same (pair x b) s = same (pos 0) s
on_number-later go other same (two x b) s = same (pos 0) s
on_number-later go other same (scalar_at l) s = same (pos 0) s
on_number-later go other same (container_at l) s = same (pos 0) s
on_number-later go other same (element_at i j p) s = same (pos 0) s

on_stamp-later : {k : ℕ} (go : ℕ → Meaning) → ((x : ℕ) → SameFlow k (go x)) → (v : Value) → SameFlow k (on_stamp go v)
on_stamp-later go same nothing s = same 0 s
on_stamp-later go same (number z) s = same 0 s
on_stamp-later go same (iterator x) s = same x s
on_stamp-later go same (pair x b) s = same 0 s
on_stamp-later go same (two x b) s = same 0 s
on_stamp-later go same (scalar_at l) s = same 0 s
on_stamp-later go same (container_at l) s = same 0 s
on_stamp-later go same (element_at i j p) s = same 0 s

-- what follows a number, on both sides
number-later : {k : ℕ} (go other : ℤ → Meaning) {a b : Out} → LaterOut k a b → ((z : ℤ) → LaterMeaning k (go z) (other z)) →
    LaterFlow k (flow_of a (on_number go)) (flow_of b (on_number other))
number-later go other h same = flow_of-later (on_number go) (on_number other) h (on_number-later go other same)

number-same : {k : ℕ} (go : ℤ → Meaning) {a b : Out} → LaterOut k a b → ((z : ℤ) → SameFlow k (go z)) →
    LaterFlow k (flow_of a (on_number go)) (flow_of b (on_number go))
number-same go = number-later go go

flow_of-same : {k : ℕ} (go : Value → Meaning) {a b : Out} → LaterOut k a b → ((v : Value) → SameFlow k (go v))
    → LaterFlow k (flow_of a go) (flow_of b go)
flow_of-same go = flow_of-later go go

and_then-same : {k : ℕ} (go : Meaning) {a b : Flow} → LaterFlow k a b → SameFlow k go → LaterFlow k (and_then a go) (and_then b go)
and_then-same go = and_then-later go go

tick-same : {k : ℕ} (go : Meaning) → SameFlow k go → SameFlow k (tick go)
tick-same go = tick-later go go

-- what follows a stamp
stamp-later : {k : ℕ} (go : ℕ → Meaning) {a b : Out} → LaterOut k a b → ((x : ℕ) → SameFlow k (go x)) →
    LaterFlow k (flow_of a (on_stamp go)) (flow_of b (on_stamp go))
stamp-later go h same = flow_of-later (on_stamp go) (on_stamp go) h (on_stamp-later go same)

either_way-later : {k : ℕ} (b : Bool) (go other go' other' : Meaning) → LaterMeaning k go go' → LaterMeaning k other other' →
    LaterMeaning k (either_way b go other) (either_way b go' other')
either_way-later true go other go' other' same also s = same s
either_way-later false go other go' other' same also s = also s

either_way-same : {k : ℕ} (b : Bool) (go other : Meaning) → SameFlow k go → SameFlow k other → SameFlow k (either_way b go other)
either_way-same b go other = either_way-later b go other go other

scoped-later : {k : ℕ} (site : ℕ) (start : State) {a b : Flow} → LaterFlow k a b → LaterFlow k (scoped site start a) (scoped site (more k start) b)
scoped-later site start (next s) = next (leave site start s)
scoped-later site start (broke s) = broke (leave site start s)
scoped-later site start (continued s) = continued (leave site start s)
scoped-later site start (returned v s) = returned v (leave site start s)
scoped-later site start (over e s) = over e s
scoped-later {k} site start (run_out s x) = run_out s (scoped site (more k start) x)

-- A test is done before its answer is known: where what follows does the same, so does the whole.
abbrev pub SameCheck : ℕ → (State → (Bool → Meaning) → Flow) → Type 0
SameCheck k check =
    (go other : Bool → Meaning) → ((b : Bool) → LaterMeaning k (go b) (other b)) → (s : State) → LaterFlow k (check s go) (check (more k s) other)

-- one variable is read from an input
read_one : {k : ℕ} (x : ℕ) (xs : List ℕ) → SameCheck k (read_all xs) → (go other : Bool → Meaning) → ((b : Bool) → LaterMeaning k (go b) (other b))
    →
    (input : List ℤ) (s : State) → LaterFlow k (read_all (x ∷ xs) (record s { input = input }) go) (read_all (x ∷
    xs) (record s { input = input; steps = s.steps + k }) other)
read_one x xs rest go other same [] s = same false (record s { input = [] })
read_one {k} x xs rest go other same (z ∷ input) s =
    let t : State = set_scalar_at (scalar_of s x) z (record s { input = input }) in
    subst (λ u. LaterFlow k (read_all xs t go) (read_all xs u other)) (sym (set_scalar_at-more k (scalar_of s x) z (record s { input = input })))
    (rest go other same t)

read_all-later : {k : ℕ} (xs : List ℕ) → SameCheck k (read_all xs)
read_all-later [] go other same s = same true s
read_all-later (x ∷ xs) go other same s = read_one x xs (read_all-later xs) go other same s.input s

tested-later : {k : ℕ} (w : World) → SameWorld k w → (c : Cond) → SameCheck k (tested w c)
tested-later w own (read xs) go other same s = read_all-later xs go other same s
tested-later w own (not_read xs) go other same s = read_all-later xs (λ b. go (not b)) (λ b. other (not b)) (λ b. same (not b)) s
tested-later w own (test a) go other same s =
    number-later (λ z. go (not (is_zero z))) (λ z. other (not (is_zero z))) (eval-later w own a s) (λ z. same
    (not (is_zero z)))
tested-later w own always go other same s = same true s

tested-same : {k : ℕ} (w : World) → SameWorld k w → (c : Cond) (go : Bool → Meaning) → ((b : Bool) → SameFlow k (go b))
    → SameFlow k (λ s. tested w c s go)
tested-same w own c go = tested-later w own c go go

printed-later : {k : ℕ} (w : World) → SameWorld k w → (p : Printed) → SameFlow k (printed w p)
printed-later w own (text bytes) s = next (wrote bytes s)
printed-later w own endline s = next (wrote (10 ∷ []) s)
printed-later w own (printed_number a) s = number-same _ (eval-later w own a s) (λ z s. next (wrote (signed_decimal z) s))

print_all-later : {k : ℕ} (w : World) → SameWorld k w → (ps : List Printed) → SameFlow k (print_all w ps)
print_all-later w own [] s = next s
print_all-later w own (p ∷ ps) s = and_then-same _ (printed-later w own p s) (print_all-later w own ps)

-- a number is written
written-later : {k : ℕ} (v : Value) (z : ℤ) → SameFlow k (λ s. Next (write_at v z s))
written-later {k} v z s = next_to (write_at v z s) (write_at v z (more k s)) (write_at-more k v z s)

affect-later : {k : ℕ} (w : World) → SameWorld k w → (e : Effect) → SameFlow k (affect w e)
affect-later w own (reads xs) s = read_all-later xs (λ b. Next) (λ b. Next) (λ b s. next s) s
affect-later w own (prints ps) s = print_all-later w own ps s
affect-later w own (evaluates a) s = either_way-same (is_name a) Next _ (λ s. next s)
    (λ s. flow_of-later (λ v. Next) (λ v. Next) (eval-later w own a s) (λ v s. next s)) s
affect-later w own (assigns l a) s =
    number-same _ (eval-later w own a s) (λ z s. flow_of-same _ (reach-later w own l s) (λ at_l. written-later at_l z))
affect-later w own (updates op ty left_ty at l a) s = number-same _ (eval-later w own a s) (λ y s. flow_of-same _ (reach-later w own l s) (λ at_l s.
    number-same _ (then_number-later _ (read_at-later (name_place l) at_l s) (λ x. answered-later at (operated op ty (converted ty x) y)))
    (λ z. written-later at_l (converted left_ty z))))
affect-later w own (moves_to it a) s = stamp-later _ (eval-later w own a s) (λ stamp s. next (set_iterator_at (iter_of s it) stamp s))

-- a reference comes into scope
bound_to-later : {k : ℕ} (at : Place) (part : Part) (refer : Option ℕ) → SameFlow k (bound_to at part refer)
bound_to-later at part None s = over _ s
bound_to-later at part (Some refer) s = next (new_pointer (reference_to refer part) s)

-- a reference to what a call gave comes into scope
binds_to-later : {k : ℕ} (at : Place) (v : Value) → SameFlow k (binds_to at v)
binds_to-later at nothing s = over _ s
binds_to-later at (number z) s = over _ s
binds_to-later at (iterator x) s = over _ s
binds_to-later at (pair x b) s = over _ s
binds_to-later at (two x b) s = over _ s
binds_to-later at (scalar_at l) s = over _ s
binds_to-later at (container_at l) s = over _ s
binds_to-later at (element_at j i part) s = bound_to-later at part (slice_get (refers (cont_at s.memory j)) i) s

declared-later : {k : ℕ} (w : World) → SameWorld k w → (d : Declaration) → SameFlow k (declared w d)
declared-later w own (unset_scalar ty) s = next (new_scalar ty None s)
declared-later w own (set_scalar ty a) s = number-same _ (eval-later w own a s) (λ z s. next (new_scalar ty (Some z) s))
declared-later w own (set_iterator a) s = stamp-later _ (eval-later w own a s) (λ stamp s. next (new_iterator stamp s))
declared-later w own (binds_reference h ops) s =
    flow_of-same _ (then_call-later _ (eval_all-later w own ops s) (use_library-later w.lib h)) (binds_to-later h.place)
declared-later w own (makes form h ops) s = flow_of-same _ (then_call-later _ (eval_all-later w own ops s) (use_library-later w.lib h))
    (λ v t. next (new_container (length s.memory.conts) t))

begun-later : {k : ℕ} (w : World) → SameWorld k w → (head : First) → SameFlow k (begun w head)
begun-later w own no_first s = next s
begun-later w own (declares_first d) s = declared-later w own d s
begun-later w own (does_first e) s = affect-later w own e s

ended-later : {k : ℕ} (w : World) → SameWorld k w → (last : Option Effect) → SameFlow k (ended w last)
ended-later w own None s = next s
ended-later w own (Some e) s = affect-later w own e s

-- what follows the test of a loop that has n turns left
abbrev pub turn : (State → (Bool → Meaning) → Flow) → Meaning → Meaning → ℕ → Bool → Meaning
turn check body last n v = either_way v (λ s. after_body (body s) (λ s. and_then (last s) (turns n check body last))) Next

turns-later : {k : ℕ} (check : State → (Bool → Meaning) → Flow) (body last : Meaning) → SameCheck k check → SameFlow k body → SameFlow k last →
    (n m : ℕ) → n ≤ m → LaterMeaning k (turns n check body last) (turns m check body last)
turns-later check body last c b l zero m h s = run_out _ _
turns-later check body last c b l (suc n) zero h s = absurd (omega arith)
turns-later {k} check body last c b l (suc n) (suc m) h s =
    let rest : LaterMeaning k (turns n check body last) (turns m check body last) = turns-later check body last c b l n m (omega arith) in
    let again : LaterMeaning k (λ s. and_then (last s) (turns n check body last)) (λ s. and_then (last s) (turns m check body last)) =
    λ s. and_then-later (turns n check body last) (turns m check body last) (l s) rest in
    let step : (v : Bool) → LaterMeaning k (turn check body last n v) (turn check body last m v) =
    λ v. either_way-later v _ Next _ Next
    (λ s. after_body-later (λ s. and_then (last s) (turns n check body last)) (λ s. and_then (last s) (turns m check body last)) (b s) again)
    (λ s. next s) in
    tick-later (λ s. check (counted s) (turn check body last n)) (λ s. check (counted s) (turn check body last m))
    (λ s. c (turn check body last n) (turn check body last m) step (counted s)) s

loop-later : {k : ℕ} (check : State → (Bool → Meaning) → Flow) (body last : Meaning) → SameCheck k check → SameFlow k body → SameFlow k last →
    SameFlow k (loop check body last)
loop-later {k} check body last c b l s = turns-later check body last c b l (suc s.steps) (suc (s.steps + k)) (omega arith) s

-- a range-for's variable takes a number
takes_number-later : {k : ℕ} (at : Place) (x : ℕ) (body : Meaning) → SameFlow k body → (v : Value) → SameFlow k (takes_number at x body v)
takes_number-later {k} at x body same v s = number-same (λ z s. body (set_scalar_at x z s)) (read_at-later at v s)
    (λ z s. subst (λ t. LaterFlow k (body (set_scalar_at x z s)) (body t)) (sym (set_scalar_at-more k x z s)) (same (set_scalar_at x z s)))

-- or its reference is bound to the element
takes_element-later : {k : ℕ} (at : Place) (body : Meaning) → SameFlow k body → (v : Value) → SameFlow k (takes_element at body v)
takes_element-later at body same v s = scoped-later 0 s (and_then-same body (binds_to-later at v s) same)

over_range-later : {k : ℕ} (w : World) → SameWorld k w → (at : Place) (name b e : ℕ) (takes : Value → Meaning)
    → ((v : Value) → SameFlow k (takes v)) → SameFlow k (over_range w at name b e takes)
over_range-later {k} w own at name b e takes same = loop-later
    (λ s go. flow_of (use_library w.lib (asks (operators.Compare c.NotEqual) at name) (hidden_at s b ∷ hidden_at s e ∷ []) s)
    (on_number (λ z. go (not (is_zero z)))))
    _ _
    (λ go other also s. number-later (λ z. go (not (is_zero z))) (λ z. other (not (is_zero z)))
    (use_library-later w.lib (asks (operators.Compare c.NotEqual) at name) (hidden_at s b ∷ hidden_at s e ∷ []) s) (λ z. also (not (is_zero z))))
    (λ s. flow_of-same takes (use_library-later w.lib (asks operators.Dereference at name) (hidden_at s b ∷ []) s) same)
    (λ s. stamp-later _ (use_library-later w.lib (asks operators.Increment at name) (hidden_at s b ∷ []) s)
    (λ stamp s. next (set_iterator_at b stamp s)))

mutual
  pub exec-later : {k : ℕ} (w : World) → SameWorld k w → (a : Stmt) → SameFlow k (exec w a)
  exec-later w own (block site all) s = scoped-later (unwrap_or site 0) s (exec_all-later w own all s)
  exec-later w own (declares d) s = tick-same _ (declared-later w own d) s
  exec-later w own (choice c a) s = tick-same _ (tested-same w own c _ (λ v. either_way-same v _ _ (exec-later w own a) (λ s. next s))) s
  exec-later w own (choice_else c a b) s =
      tick-same _ (tested-same w own c _ (λ v. either_way-same v _ _ (exec-later w own a) (exec-later w own b))) s
  exec-later w own (while l c body) s = tick-same _ (loop-later _ _ _ (tested-later w own c) (exec-later w own body) (λ s. next s)) s
  exec-later w own (for l head c last body) s = tick-same _ (λ s. scoped-later 0 s (and_then-same _ (begun-later w own head s)
      (loop-later _ _ _ (tested-later w own c) (exec-later w own body) (ended-later w own last)))) s
  exec-later w own (range_for l taken.Value x at name body) s = tick-same _ (λ s. scoped-later 0 s
      (over_range-later w own at name (length s.iters) (length s.iters + 1) (takes_number at (length s.scalars) (exec w body))
      (takes_number-later at (length s.scalars) (exec w body) (exec-later w own body)) (new_scalar t.Int None (range_start (cont_of s x) s)))) s
  exec-later w own (range_for l taken.Reference x at name body) s = tick-same _ (λ s. scoped-later 0 s
      (over_range-later w own at name (length s.iters) (length s.iters + 1) (takes_element at (exec w body))
      (takes_element-later at (exec w body) (exec-later w own body)) (range_start (cont_of s x) s))) s
  exec-later w own break s = tick-same _ (λ s. broke s) s
  exec-later w own continue s = tick-same _ (λ s. continued s) s
  exec-later w own (gives_back None) s = tick-same _ (λ s. returned nothing s) s
  exec-later w own (gives_back (Some a)) s = tick-same _ (λ s. flow_of-later Returned Returned (eval-later w own a s) (λ v s. returned v s)) s
  exec-later w own (does e) s = tick-same _ (affect-later w own e) s

  pub exec_all-later : {k : ℕ} (w : World) → SameWorld k w → (all : Stmts) → SameFlow k (exec_all w all)
  exec_all-later w own no_more s = next s
  exec_all-later w own (followed a rest) s = and_then-same _ (exec-later w own a s) (exec_all-later w own rest)
