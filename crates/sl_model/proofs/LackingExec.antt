-- A run over a library that lacks calls which another one has is the same, but where it meets a call that is lacking. Here: statements.
use Rattle.std.proofs.Common.{◌+◌, ℕ, zero, suc, List, [], ◌∷◌, length, Bool, true, false, not, ℤ, pos, Option, Some, None, unwrap_or}
use Rattle.std.specs.Fmt.{signed_decimal}
use Rattle.sl_base.specs.declared.place.Place.{Place}
use Rattle.sl_base.specs.declared.scalar.Scalar.TheVariants as t
use Rattle.sl_syntax.specs.declared.operator.Comparison.TheVariants as c
use Rattle.sl_syntax.specs.declared.typed.element.Taken.TheVariants as taken
use Rattle.sl_syntax.specs.declared.typed.operator.Operator.TheVariants as operators
use Rattle.sl_syntax.specs.Typed.{Cond, read, not_read, test, always, Printed, text, endline, number as printed_number, Effect, reads, prints}
use Rattle.sl_syntax.specs.Typed.{evaluates, assigns, updates, moves_to, Declaration, unset_scalar, set_scalar, set_iterator, binds_reference, makes}
use Rattle.sl_syntax.specs.Typed.{First, no_first, declares_first, does_first, Stmt, block, declares, choice, choice_else, while, for, range_for}
use Rattle.sl_syntax.specs.Typed.{break, continue, gives_back, does, Stmts, no_more, followed}
use Rattle.sl_model.specs.Numbers.{is_zero, converted, operated}
use Rattle.sl_model.specs.LibraryCalls.Values.{Value, nothing, number, iterator, pair, two, scalar_at, container_at, element_at}
use Rattle.sl_model.specs.Runs.Ends.{NoMeaning, OutOfSteps}
use Rattle.sl_model.specs.Runs.State.{State, scalar_of, cont_of, iter_of, set_scalar_at, set_iterator_at, new_scalar, new_iterator, new_container}
use Rattle.sl_model.specs.Runs.Eval.{Out, Gives, Stops, World, use_library, write_at, read_at, answered, name_place, then_number}
use Rattle.sl_model.specs.Runs.Exec.{Flow, Next, Broke, Continued, Returned, Over, Meaning, tick, and_then, flow_of, on_number, on_stamp, either_way}
use Rattle.sl_model.specs.Runs.Exec.{scoped, read_all, tested, wrote, printed, print_all, is_name, affect, binds_to, declared, begun, ended}
use Rattle.sl_model.specs.Runs.Exec.{after_body, counted, turns, loop, asks, hidden_at, takes_number, takes_element, over_range, range_start, exec}
use Rattle.sl_model.specs.Runs.Exec.{exec_all}
use Rattle.sl_model.proofs.Lacking.{LackingOut, same, lacks, Lacks, then_call-lacking, use_library-lacking, eval-lacking, reach-lacking}
use Rattle.sl_model.proofs.Lacking.{eval_all-lacking}
use Rattle.sl_model.proofs.LongerExec.{turn}

-- where a statement goes, and where it goes over the other library: to the same, or the run ends at what has no meaning
pub data LackingFlow : Flow → Flow → Type 0 where
  same_flow : (x : Flow) → LackingFlow x x
  flow_lacks : (at : Place) (s : State) (x : Flow) → LackingFlow (Over (NoMeaning at) s) x

-- what two statements do from each state
abbrev pub LackingMeaning : Meaning → Meaning → Type 0
LackingMeaning go other = (s : State) → LackingFlow (go s) (other s)

-- a step is taken
tick-lacking : (go other : Meaning) → LackingMeaning go other → LackingMeaning (tick go) (tick other)
tick-lacking go other h s = elim s.steps as (λ n. LackingFlow
    (elim n as (λ _. Flow) [ zero ↦ Over OutOfSteps s | suc n ↦ go (record s { steps = n }) ])
    (elim n as (λ _. Flow) [ zero ↦ Over OutOfSteps s | suc n ↦ other (record s { steps = n }) ]))
    [ zero ↦ same_flow _ | suc n ↦ h (record s { steps = n }) ]

-- what comes after a statement
and_then-lacking : (go other : Meaning) {a b : Flow} → LackingFlow a b → LackingMeaning go other → LackingFlow (and_then a go) (and_then b other)
and_then-lacking go other (same_flow (Next s)) h = h s
and_then-lacking go other (same_flow (Broke s)) h = same_flow _
and_then-lacking go other (same_flow (Continued s)) h = same_flow _
and_then-lacking go other (same_flow (Returned v s)) h = same_flow _
and_then-lacking go other (same_flow (Over e s)) h = same_flow _
and_then-lacking go other (flow_lacks at s x) h = flow_lacks at s _

-- what comes after a loop's body
after_body-lacking : (go other : Meaning) {a b : Flow} → LackingFlow a b → LackingMeaning go other
    → LackingFlow (after_body a go) (after_body b other)
after_body-lacking go other (same_flow (Next s)) h = h s
after_body-lacking go other (same_flow (Broke s)) h = same_flow _
after_body-lacking go other (same_flow (Continued s)) h = h s
after_body-lacking go other (same_flow (Returned v s)) h = same_flow _
after_body-lacking go other (same_flow (Over e s)) h = same_flow _
after_body-lacking go other (flow_lacks at s x) h = flow_lacks at s _

-- what follows a value
flow_of-lacking : (go other : Value → Meaning) {a b : Out} → LackingOut a b → ((v : Value) → LackingMeaning (go v) (other v))
    → LackingFlow (flow_of a go) (flow_of b other)
flow_of-lacking go other (same (Gives v s)) h = h v s
flow_of-lacking go other (same (Stops e s)) h = same_flow _
flow_of-lacking go other (lacks at s x) h = flow_lacks at s _

-- the same, where it is the same in both
flow_of-same : (go : Value → Meaning) {a b : Out} → LackingOut a b → LackingFlow (flow_of a go) (flow_of b go)
flow_of-same go h = flow_of-lacking go go h (λ v s. same_flow (go v s))

-- what follows a number, where that comes from a value
on_number-lacking : (go other : ℤ → Meaning) → ((z : ℤ) → LackingMeaning (go z) (other z)) → (v : Value)
    → LackingMeaning (on_number go v) (on_number other v)
on_number-lacking go other h nothing s = h (pos 0) s
on_number-lacking go other h (number z) s = h z s
on_number-lacking go other h (iterator x) s = h (pos 0) s
on_number-lacking go other h (pair x b) s = h (pos 0) s
on_number-lacking go other h (two x b) s = h (pos 0) s
on_number-lacking go other h (scalar_at l) s = h (pos 0) s
on_number-lacking go other h (container_at l) s = h (pos 0) s
on_number-lacking go other h (element_at i j p) s = h (pos 0) s

-- what follows a number
number-lacking : (go other : ℤ → Meaning) {a b : Out} → LackingOut a b → ((z : ℤ) → LackingMeaning (go z) (other z))
    → LackingFlow (flow_of a (on_number go)) (flow_of b (on_number other))
number-lacking go other h also = flow_of-lacking (on_number go) (on_number other) h (on_number-lacking go other also)

-- one of two ways
either_way-lacking : (b : Bool) (f g f' g' : Meaning) → LackingMeaning f f' → LackingMeaning g g'
    → LackingMeaning (either_way b f g) (either_way b f' g')
either_way-lacking true f g f' g' h k s = h s
either_way-lacking false f g f' g' h k s = k s

-- a scope that ends
scoped-lacking : (site : ℕ) (start : State) {a b : Flow} → LackingFlow a b → LackingFlow (scoped site start a) (scoped site start b)
scoped-lacking site start (same_flow x) = same_flow _
scoped-lacking site start (flow_lacks at s x) = flow_lacks at s _

-- a test is done before its answer is known
abbrev LackingCheck : (State → (Bool → Meaning) → Flow) → (State → (Bool → Meaning) → Flow) → Type 0
LackingCheck check other_check =
    (go other : Bool → Meaning) → ((b : Bool) → LackingMeaning (go b) (other b)) → (s : State) → LackingFlow (check s go) (other_check s other)

-- reads
read_all-lacking : (xs : List ℕ) → LackingCheck (read_all xs) (read_all xs)
read_all-lacking [] go other h s = h true s
read_all-lacking (x ∷ xs) go other h s = elim s.input as (λ l. LackingFlow
    (elim l as (λ _. Flow) [ [] ↦ go false s | z ∷ rest ↦ read_all xs (set_scalar_at (scalar_of s x) z (record s { input = rest })) go ])
    (elim l as (λ _. Flow) [ [] ↦ other false s | z ∷ rest ↦ read_all xs (set_scalar_at (scalar_of s x) z (record s { input = rest })) other ]))
    [ [] ↦ h false s | z ∷ rest ↦ read_all-lacking xs go other h (set_scalar_at (scalar_of s x) z (record s { input = rest })) ]

-- conditions
tested-lacking : (few many : World) → Lacks few many → (k : Cond) → LackingCheck (tested few k) (tested many k)
tested-lacking few many l (read xs) go other h s = read_all-lacking xs go other h s
tested-lacking few many l (not_read xs) go other h s = read_all-lacking xs (λ b. go (not b)) (λ b. other (not b)) (λ b. h (not b)) s
tested-lacking few many l (test a) go other h s =
    number-lacking (λ z. go (not (is_zero z))) (λ z. other (not (is_zero z))) (eval-lacking few many l a s) (λ z. h (not (is_zero z)))
tested-lacking few many l always go other h s = h true s

-- an item of a print
printed-lacking : (few many : World) → Lacks few many → (p : Printed) → LackingMeaning (printed few p) (printed many p)
printed-lacking few many l (text bytes) s = same_flow _
printed-lacking few many l endline s = same_flow _
printed-lacking few many l (printed_number a) s = flow_of-same (on_number (λ z s. Next (wrote (signed_decimal z) s))) (eval-lacking few many l a s)

-- prints
print_all-lacking : (few many : World) → Lacks few many → (ps : List Printed) → LackingMeaning (print_all few ps) (print_all many ps)
print_all-lacking few many l [] s = same_flow _
print_all-lacking few many l (p ∷ ps) s = and_then-lacking _ _ (printed-lacking few many l p s) (print_all-lacking few many l ps)

-- effects
affect-lacking : (few many : World) → Lacks few many → (e : Effect) → LackingMeaning (affect few e) (affect many e)
affect-lacking few many l (reads xs) s = same_flow _
affect-lacking few many l (prints ps) s = print_all-lacking few many l ps s
affect-lacking few many l (evaluates a) s = either_way-lacking (is_name a) Next _ Next _ (λ s. same_flow _)
    (λ s. flow_of-same (λ v. Next) (eval-lacking few many l a s)) s
affect-lacking few many l (assigns x a) s = number-lacking _ _ (eval-lacking few many l a s)
    (λ z s. flow_of-same (λ at_l s. Next (write_at at_l z s)) (reach-lacking few many l x s))
affect-lacking few many l (updates op ty left_ty at x a) s = number-lacking _ _ (eval-lacking few many l a s)
    (λ y s. flow_of-same (λ at_l s.
    flow_of (then_number (read_at (name_place x) at_l s) (λ x s. answered at (operated op ty (converted ty x) y) s)) (on_number (λ z s.
    Next (write_at at_l (converted left_ty z) s)))) (reach-lacking few many l x s))
affect-lacking few many l (moves_to it a) s =
    flow_of-same (on_stamp (λ stamp s. Next (set_iterator_at (iter_of s it) stamp s))) (eval-lacking few many l a s)

-- declarations
declared-lacking : (few many : World) → Lacks few many → (d : Declaration) → LackingMeaning (declared few d) (declared many d)
declared-lacking few many l (unset_scalar ty) s = same_flow _
declared-lacking few many l (set_scalar ty a) s = flow_of-same (on_number (λ z s. Next (new_scalar ty (Some z) s))) (eval-lacking few many l a s)
declared-lacking few many l (set_iterator a) s = flow_of-same (on_stamp (λ stamp s. Next (new_iterator stamp s))) (eval-lacking few many l a s)
declared-lacking few many l (binds_reference h ops) s =
    flow_of-same (binds_to h.place) (then_call-lacking _ _ (eval_all-lacking few many l ops s) (use_library-lacking few many l h))
declared-lacking few many l (makes form h ops) s = flow_of-same (λ v t. Next (new_container (length s.memory.conts) t))
    (then_call-lacking _ _ (eval_all-lacking few many l ops s) (use_library-lacking few many l h))

-- the first part of a `for`
begun-lacking : (few many : World) → Lacks few many → (head : First) → LackingMeaning (begun few head) (begun many head)
begun-lacking few many l no_first s = same_flow _
begun-lacking few many l (declares_first d) s = declared-lacking few many l d s
begun-lacking few many l (does_first e) s = affect-lacking few many l e s

-- the last part of a `for`
ended-lacking : (few many : World) → Lacks few many → (last : Option Effect) → LackingMeaning (ended few last) (ended many last)
ended-lacking few many l None s = same_flow _
ended-lacking few many l (Some e) s = affect-lacking few many l e s

-- the turns of a loop
turns-lacking : (check check' : State → (Bool → Meaning) → Flow) (body body' last last' : Meaning) → LackingCheck check check'
    → LackingMeaning body body' → LackingMeaning last last' → (n : ℕ) → LackingMeaning (turns n check body last) (turns n check' body' last')
turns-lacking check check' body body' last last' c b e zero s = same_flow _
turns-lacking check check' body body' last last' c b e (suc n) s =
    let rest : LackingMeaning (turns n check body last) (turns n check' body' last') = turns-lacking check check' body body' last last' c b e n in
    let again : LackingMeaning (λ s. and_then (last s) (turns n check body last)) (λ s. and_then (last' s) (turns n check' body' last')) =
    λ s. and_then-lacking (turns n check body last) (turns n check' body' last') (e s) rest in
    let step : (v : Bool) → LackingMeaning (turn check body last n v) (turn check' body' last' n v) = λ v. either_way-lacking v _ Next _ Next
    (λ s. after_body-lacking (λ s. and_then (last s) (turns n check body last)) (λ s. and_then (last' s) (turns n check' body' last')) (b s) again)
    (λ s. same_flow _) in
    tick-lacking (λ s. check (counted s) (turn check body last n)) (λ s. check' (counted s) (turn check' body' last' n))
    (λ s. c (turn check body last n) (turn check' body' last' n) step (counted s)) s

-- a loop
loop-lacking : (check check' : State → (Bool → Meaning) → Flow) (body body' last last' : Meaning) → LackingCheck check check'
    → LackingMeaning body body' → LackingMeaning last last' → LackingMeaning (loop check body last) (loop check' body' last')
loop-lacking check check' body body' last last' c b e s = turns-lacking check check' body body' last last' c b e (suc s.steps) s

-- a range-for's variable takes a number
takes_number-lacking : (at : Place) (x : ℕ) (body other : Meaning) → LackingMeaning body other → (v : Value)
    → LackingMeaning (takes_number at x body v) (takes_number at x other v)
takes_number-lacking at x body other h v s = number-lacking (λ z s. body (set_scalar_at x z s)) (λ z s. other (set_scalar_at x z s))
    (same (read_at at v s)) (λ z s. h (set_scalar_at x z s))

-- or its reference is bound to the element
takes_element-lacking : (at : Place) (body other : Meaning) → LackingMeaning body other → (v : Value)
    → LackingMeaning (takes_element at body v) (takes_element at other v)
takes_element-lacking at body other h v s = scoped-lacking 0 s (and_then-lacking body other (same_flow (binds_to at v s)) h)

-- a range-for
over_range-lacking : (few many : World) → Lacks few many → (at : Place) (name b e : ℕ) (takes other : Value → Meaning)
    → ((v : Value) → LackingMeaning (takes v) (other v)) → LackingMeaning (over_range few at name b e takes) (over_range many at name b e other)
over_range-lacking few many l at name b e takes other h = loop-lacking
    (λ s go. flow_of (use_library few.lib (asks (operators.Compare c.NotEqual) at name) (hidden_at s b ∷ hidden_at s e ∷ []) s)
    (on_number (λ z. go (not (is_zero z)))))
    (λ s go. flow_of (use_library many.lib (asks (operators.Compare c.NotEqual) at name) (hidden_at s b ∷ hidden_at s e ∷ []) s)
    (on_number (λ z. go (not (is_zero z)))))
    _ _ _ _
    (λ go also k s. number-lacking (λ z. go (not (is_zero z))) (λ z. also (not (is_zero z)))
    (use_library-lacking few many l (asks (operators.Compare c.NotEqual) at name) (hidden_at s b ∷ hidden_at s e ∷ []) s) (λ z. k (not (is_zero z))))
    (λ s. flow_of-lacking takes other (use_library-lacking few many l (asks operators.Dereference at name) (hidden_at s b ∷ []) s) h)
    (λ s. flow_of-same (on_stamp (λ stamp s. Next (set_iterator_at b stamp s)))
    (use_library-lacking few many l (asks operators.Increment at name) (hidden_at s b ∷ []) s))

mutual
  -- each statement
  pub exec-lacking : (few many : World) → Lacks few many → (a : Stmt) → LackingMeaning (exec few a) (exec many a)
  exec-lacking few many l (block site all) s = scoped-lacking (unwrap_or site 0) s (exec_all-lacking few many l all s)
  exec-lacking few many l (declares d) s = tick-lacking _ _ (declared-lacking few many l d) s
  exec-lacking few many l (choice k a) s = tick-lacking _ _ (λ s. tested-lacking few many l k (λ v. either_way v (exec few a) Next)
      (λ v. either_way v (exec many a) Next) (λ v. either_way-lacking v _ _ _ _ (exec-lacking few many l a) (λ s. same_flow _)) s) s
  exec-lacking few many l (choice_else k a b) s = tick-lacking _ _ (λ s. tested-lacking few many l k (λ v. either_way v (exec few a) (exec few b))
      (λ v. either_way v (exec many a) (exec many b))
      (λ v. either_way-lacking v _ _ _ _ (exec-lacking few many l a) (exec-lacking few many l b)) s) s
  exec-lacking few many l (while n k body) s = tick-lacking _ _
      (loop-lacking _ _ _ _ Next Next (tested-lacking few many l k) (exec-lacking few many l body) (λ s. same_flow _)) s
  exec-lacking few many l (for n head k last body) s = tick-lacking _ _ (λ s. scoped-lacking 0 s
      (and_then-lacking _ _ (begun-lacking few many l head s)
      (loop-lacking _ _ _ _ _ _ (tested-lacking few many l k) (exec-lacking few many l body) (ended-lacking few many l last)))) s
  exec-lacking few many l (range_for n taken.Value x at name body) s = tick-lacking _ _ (λ s. scoped-lacking 0 s
      (over_range-lacking few many l at name (length s.iters) (length s.iters + 1) (takes_number at (length s.scalars) (exec few body))
      (takes_number at (length s.scalars) (exec many body))
      (takes_number-lacking at (length s.scalars) (exec few body) (exec many body) (exec-lacking few many l body))
      (new_scalar t.Int None (range_start (cont_of s x) s)))) s
  exec-lacking few many l (range_for n taken.Reference x at name body) s = tick-lacking _ _ (λ s. scoped-lacking 0 s
      (over_range-lacking few many l at name (length s.iters) (length s.iters + 1) (takes_element at (exec few body))
      (takes_element at (exec many body)) (takes_element-lacking at (exec few body) (exec many body) (exec-lacking few many l body))
      (range_start (cont_of s x) s))) s
  exec-lacking few many l break s = same_flow _
  exec-lacking few many l continue s = same_flow _
  exec-lacking few many l (gives_back None) s = same_flow _
  exec-lacking few many l (gives_back (Some a)) s = tick-lacking _ _ (λ s. flow_of-same Returned (eval-lacking few many l a s)) s
  exec-lacking few many l (does e) s = tick-lacking _ _ (affect-lacking few many l e) s

  -- statements in turn
  pub exec_all-lacking : (few many : World) → Lacks few many → (all : Stmts) → LackingMeaning (exec_all few all) (exec_all many all)
  exec_all-lacking few many l no_more s = same_flow _
  exec_all-lacking few many l (followed a rest) s = and_then-lacking _ _ (exec-lacking few many l a s) (exec_all-lacking few many l rest)
