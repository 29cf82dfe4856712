-- What a library keeps of the memory, statements, calls and runs keep.
use Rattle.std.proofs.Common.{ℕ, zero, suc, Bool, true, false, not, List, [], ◌∷◌, Option, Some, None}
use Rattle.std.specs.Prelude.{ℤ, pos, length, unwrap_or, ◌+◌, slice_get}
use Rattle.std.specs.Fmt.{signed_decimal}
use Rattle.sl_base.specs.declared.place.Place.{Place}
use Rattle.sl_base.specs.declared.scalar.Scalar.{Scalar}
use Rattle.sl_base.specs.declared.scalar.Scalar.TheVariants as t
use Rattle.sl_syntax.specs.declared.operator.Arithmetic.{Arithmetic}
use Rattle.sl_model.specs.Numbers.{is_zero, converted, operated}
use Rattle.sl_syntax.specs.declared.typed.callee.Callee.{Callee}
use Rattle.sl_syntax.specs.declared.typed.element.Taken.TheVariants as taken
use Rattle.sl_syntax.specs.declared.typed.head.Head.{Head}
use Rattle.sl_syntax.specs.declared.typed.operator.Operator.TheVariants as operators
use Rattle.sl_syntax.specs.Typed.{Expr, Left, Cond, read, not_read, test, always, Printed, text, endline, number as printed_number, Effect, reads}
use Rattle.sl_syntax.specs.Typed.{prints, evaluates, assigns, updates, moves_to, Declaration, unset_scalar, set_scalar, set_iterator, binds_reference}
use Rattle.sl_syntax.specs.Typed.{makes, First, no_first, declares_first, does_first, Stmt, block, declares, choice, choice_else, while, for}
use Rattle.sl_syntax.specs.Typed.{Operands, range_for, break, continue, gives_back, does, Stmts, no_more, followed}
use Rattle.sl_model.specs.Memory.Containers.{Memory, Part, cont_at, refers, write_element, end_from}
use Rattle.sl_model.specs.LibraryCalls.Values.{Value, nothing, number, iterator, pair, two, scalar_at, container_at, element_at, Args}
use Rattle.sl_model.specs.Runs.State.{State, scalar_of, iter_of, cont_of, set_scalar_at, set_iterator_at, new_scalar, new_iterator, new_container}
use Rattle.sl_model.specs.Runs.Ends.{OutOfSteps}
use Rattle.sl_model.specs.Runs.Eval.{Out, Gives, Stops, World, eval, reach, eval_all, then_number, then_call, read_at, write_at, use_library}
use Rattle.sl_model.specs.Runs.Eval.{answered, name_place, call_own}
use Rattle.sl_model.specs.Runs.Exec.{Flow, Next, Broke, Continued, Returned, Over, Meaning, tick, and_then, flow_of, on_number, on_stamp, either_way}
use Rattle.sl_model.specs.Runs.Exec.{scoped, read_all, tested, printed, print_all, is_name, affect, bound_to, binds_to, declared, begun, ended, after_body}
use Rattle.sl_model.specs.Runs.Exec.{counted, turns, loop, wrote, asks, hidden_at, takes_number, takes_element, over_range, range_start, exec, exec_all}
use Rattle.sl_model.proofs.Keeps.{InAnswer, InOut, keeps_eval, keeps_reach, keeps_all, keeps_call, keeps_then_number, keeps_answer}
use Rattle.sl_model.proofs.Keeps.{keeps_read, keeps_library, keeps_write, keeps_set}
use Rattle.sl_syntax.specs.declared.operator.Comparison.TheVariants as c

module _ (I : Memory → Type 0) where
  -- it holds of the state that a statement leaves
  abbrev pub InFlow : Flow → Type 0
  InFlow (Next s) = I s.memory
  InFlow (Broke s) = I s.memory
  InFlow (Continued s) = I s.memory
  InFlow (Returned v s) = I s.memory
  InFlow (Over e s) = I s.memory

  -- a meaning keeps it
  abbrev pub Keeps : Meaning → Type 0
  Keeps go = (s : State) → I s.memory → InFlow (go s)

  -- what follows a value keeps it
  in_flow_of : (o : Out) (go : Value → Meaning) → InOut I o → ((v : Value) → Keeps (go v)) → InFlow (flow_of o go)
  in_flow_of (Gives v s) go h k = k v s h
  in_flow_of (Stops e s) go h k = h

  -- what follows a number keeps it
  in_number : (go : ℤ → Meaning) → ((z : ℤ) → Keeps (go z)) → (v : Value) → Keeps (on_number go v)
  in_number go k nothing s h = k (pos 0) s h
  in_number go k (number z) s h = k z s h
  in_number go k (iterator x) s h = k (pos 0) s h
  in_number go k (pair x b) s h = k (pos 0) s h
  in_number go k (two x b) s h = k (pos 0) s h
  in_number go k (scalar_at l) s h = k (pos 0) s h
  in_number go k (container_at l) s h = k (pos 0) s h
  in_number go k (element_at i j p) s h = k (pos 0) s h

  -- what follows a stamp keeps it
  in_stamp : (go : ℕ → Meaning) → ((x : ℕ) → Keeps (go x)) → (v : Value) → Keeps (on_stamp go v)
  in_stamp go k nothing s h = k 0 s h
  in_stamp go k (number z) s h = k 0 s h
  in_stamp go k (iterator x) s h = k x s h
  in_stamp go k (pair x b) s h = k 0 s h
  in_stamp go k (two x b) s h = k 0 s h
  in_stamp go k (scalar_at l) s h = k 0 s h
  in_stamp go k (container_at l) s h = k 0 s h
  in_stamp go k (element_at i j p) s h = k 0 s h

  -- one of two ways keeps it where both do
  in_either : (b : Bool) (f g : Meaning) → Keeps f → Keeps g → Keeps (either_way b f g)
  in_either true f g h k = h
  in_either false f g h k = k

  -- a step keeps it
  in_tick : (go : Meaning) → Keeps go → Keeps (tick go)
  in_tick go k s h = elim s.steps as (λ n. InFlow (elim n as (λ _. Flow) [ zero ↦ Over OutOfSteps s | suc n ↦ go (record s { steps = n }) ]))
      [ zero ↦ h | suc n ↦ k (record s { steps = n }) h ]

  -- what comes after a statement keeps it
  in_then : (w : Flow) (go : Meaning) → InFlow w → Keeps go → InFlow (and_then w go)
  in_then (Next s) go h k = k s h
  in_then (Broke s) go h k = h
  in_then (Continued s) go h k = h
  in_then (Returned v s) go h k = h
  in_then (Over e s) go h k = h

  -- what comes after a loop's body keeps it
  in_body : (w : Flow) (go : Meaning) → InFlow w → Keeps go → InFlow (after_body w go)
  in_body (Next s) go h k = k s h
  in_body (Broke s) go h k = h
  in_body (Continued s) go h k = k s h
  in_body (Returned v s) go h k = h
  in_body (Over e s) go h k = h

  -- reading variables keeps it
  in_reads : (xs : List ℕ) (go : Bool → Meaning) → ((b : Bool) → Keeps (go b)) → Keeps (λ s. read_all xs s go)
  in_reads [] go k s h = k true s h
  in_reads (x ∷ xs) go k s h =
      elim s.input as (λ l. InFlow (elim l as (λ _. Flow) [
        | [] ↦ go false s
        | z ∷ rest ↦ read_all xs (set_scalar_at (scalar_of s x) z (record s { input = rest })) go
      ])) [
        | [] ↦ k false s h
        | z ∷ rest ↦ in_reads xs go k (set_scalar_at (scalar_of s x) z (record s { input = rest }))
            (keeps_set I (scalar_of s x) z (record s { input = rest }) h)
      ]

  -- a test that hands on a kept memory
  abbrev pub KeepsTest : (State → (Bool → Meaning) → Flow) → Type 0
  KeepsTest check = (go : Bool → Meaning) → ((b : Bool) → Keeps (go b)) → Keeps (λ s. check s go)

  -- the turns of a loop keep it where its test, its body and its last part do
  in_turns : (n : ℕ) (check : State → (Bool → Meaning) → Flow) (body last : Meaning) → KeepsTest check → Keeps body → Keeps last
      → Keeps (turns n check body last)
  in_turns zero check body last p q r s h = h
  in_turns (suc n) check body last p q r s h =
      in_tick (λ s. check (counted s) (λ b. either_way b (λ s. after_body (body s) (λ s. and_then (last s) (turns n check body last))) Next))
      (λ t j. p (λ b. either_way b (λ s. after_body (body s) (λ s. and_then (last s) (turns n check body last))) Next)
      (λ b. in_either b (λ s. after_body (body s) (λ s. and_then (last s) (turns n check body last))) Next
      (λ s i. in_body (body s) (λ s. and_then (last s) (turns n check body last)) (q s i)
      (λ s j. in_then (last s) (turns n check body last) (r s j) (in_turns n check body last p q r)))
      (λ s i. i))
      (counted t) j)
      s h

  module _ (w : World)
      (lib_keeps : (c : Callee) (a : Args) (m : Memory) (ps : List ℕ) → I m → InAnswer I (w.lib c a m ps))
      (own_keeps : (f : ℕ) (at : Place) (vs : List Value) (s : State) → I s.memory → InOut I (call_own w f at vs s))
      (write_keeps : (m : Memory) (i k : ℕ) (p : Part) (z : ℤ) → I m → I (write_element m i k p z))
      (end_keeps : (site n : ℕ) (m : Memory) → I m → I (end_from site n m)) where
    -- each expression keeps it
    value_of : (a : Expr) (s : State) → I s.memory → InOut I (eval w a s)
    value_of = keeps_eval I w lib_keeps own_keeps write_keeps

    -- what follows an expression keeps it
    in_value : (a : Expr) (go : Value → Meaning) → ((v : Value) → Keeps (go v)) → Keeps (λ s. flow_of (eval w a s) go)
    in_value a go k s h = in_flow_of (eval w a s) go (value_of a s h) k

    -- each condition keeps it
    in_tested : (c : Cond) → KeepsTest (tested w c)
    in_tested (read xs) go k s h = in_reads xs go k s h
    in_tested (not_read xs) go k s h = in_reads xs (λ b. go (not b)) (λ b. k (not b)) s h
    in_tested (test a) go k s h =
        in_value a (on_number (λ z. go (not (is_zero z)))) (in_number (λ z. go (not (is_zero z))) (λ z. k (not (is_zero z)))) s h
    in_tested always go k s h = k true s h

    -- an item of a print keeps it
    in_printed : (p : Printed) → Keeps (printed w p)
    in_printed (text bytes) s h = h
    in_printed endline s h = h
    in_printed (printed_number a) s h =
        in_value a (on_number (λ z s. Next (wrote (signed_decimal z) s))) (in_number (λ z s. Next (wrote (signed_decimal z) s)) (λ z s i. i)) s h

    -- a print keeps it
    in_print : (ps : List Printed) → Keeps (print_all w ps)
    in_print [] s h = h
    in_print (p ∷ ps) s h = in_then (printed w p s) (print_all w ps) (in_printed p s h) (in_print ps)

    -- writing a number at a place keeps it
    writes : (l : Value) (z : ℤ) (s : State) → I s.memory → I (write_at l z s).memory
    writes = keeps_write I w lib_keeps own_keeps write_keeps

    -- the place that a left side stands for keeps it
    reaches : (l : Left) (s : State) → I s.memory → InOut I (reach w l s)
    reaches = keeps_reach I w lib_keeps own_keeps write_keeps

    -- a number that is assigned keeps it
    in_assign : (l : Left) (z : ℤ) → Keeps (λ s. flow_of (reach w l s) (λ at_l s. Next (write_at at_l z s)))
    in_assign l z s h = in_flow_of (reach w l s) (λ at_l s. Next (write_at at_l z s)) (reaches l s h) (λ v s i. writes v z s i)

    -- the end of an assignment with an operator
    abbrev finish : Arithmetic → Scalar → Scalar → Place → Left → ℤ → Value → Meaning
    finish op ty left_ty at l y at_l s =
        flow_of (then_number (read_at (name_place l) at_l s) (λ x s. answered at (operated op ty (converted ty x) y) s))
        (on_number (λ z s. Next (write_at at_l (converted left_ty z) s)))

    -- each effect keeps it
    in_affect : (e : Effect) → Keeps (affect w e)
    in_affect (reads xs) s h = in_reads xs (λ b. Next) (λ b s i. i) s h
    in_affect (prints ps) s h = in_print ps s h
    in_affect (evaluates a) s h = in_either (is_name a) Next (λ s. flow_of (eval w a s) (λ v. Next))
        (λ s i. i) (λ s i. in_value a (λ v. Next) (λ v s i. i) s i) s h
    in_affect (assigns l a) s h = in_value a (on_number (λ z s. flow_of (reach w l s) (λ at_l s. Next (write_at at_l z s))))
        (in_number (λ z s. flow_of (reach w l s) (λ at_l s. Next (write_at at_l z s))) (in_assign l)) s h
    in_affect (updates op ty left_ty at l a) s h = in_value a (on_number (λ y s. flow_of (reach w l s) (finish op ty left_ty at l y)))
        (in_number (λ y s. flow_of (reach w l s) (finish op ty left_ty at l y))
        (λ y s i. in_flow_of (reach w l s) (finish op ty left_ty at l y) (reaches l s i) (λ v s j.
        in_flow_of (then_number (read_at (name_place l) v s) (λ x s. answered at (operated op ty (converted ty x) y) s))
        (on_number (λ z s. Next (write_at v (converted left_ty z) s)))
        (keeps_then_number I (read_at (name_place l) v s) (λ x s. answered at (operated op ty (converted ty x) y) s)
        (keeps_read I (name_place l) v s j) (λ x s k. keeps_answer I at (operated op ty (converted ty x) y) s k))
        (in_number (λ z s. Next (write_at v (converted left_ty z) s)) (λ z s k. writes v (converted left_ty z) s k))))) s h
    in_affect (moves_to it a) s h = in_value a (on_stamp (λ stamp s. Next (set_iterator_at (iter_of s it) stamp s)))
        (in_stamp (λ stamp s. Next (set_iterator_at (iter_of s it) stamp s)) (λ x s i. i)) s h

    -- a reference that comes into scope keeps it
    in_bound_to : (at : Place) (part : Part) (refer : Option ℕ) → Keeps (bound_to at part refer)
    in_bound_to at part None s h = h
    in_bound_to at part (Some refer) s h = h

    -- a reference to what a call gave keeps it
    in_binds : (at : Place) (v : Value) → Keeps (binds_to at v)
    in_binds at nothing s h = h
    in_binds at (number z) s h = h
    in_binds at (iterator x) s h = h
    in_binds at (pair x b) s h = h
    in_binds at (two x b) s h = h
    in_binds at (scalar_at l) s h = h
    in_binds at (container_at l) s h = h
    in_binds at (element_at j k part) s h = in_bound_to at part (slice_get (refers (cont_at s.memory j)) k) s h

    -- a call of the library with these operands keeps it
    in_called : (hd : Head) (ops : Operands) (s : State) → I s.memory → InOut I (then_call (eval_all w ops s) (use_library w.lib hd))
    in_called hd ops s h = keeps_call I (eval_all w ops s) (use_library w.lib hd) (keeps_all I w lib_keeps own_keeps write_keeps ops s h)
        (keeps_library I w lib_keeps own_keeps write_keeps hd)

    -- each declaration keeps it
    in_declared : (d : Declaration) → Keeps (declared w d)
    in_declared (unset_scalar ty) s h = h
    in_declared (set_scalar ty a) s h =
        in_value a (on_number (λ z s. Next (new_scalar ty (Some z) s))) (in_number (λ z s. Next (new_scalar ty (Some z) s)) (λ z s i. i)) s h
    in_declared (set_iterator a) s h =
        in_value a (on_stamp (λ stamp s. Next (new_iterator stamp s))) (in_stamp (λ stamp s. Next (new_iterator stamp s)) (λ x s i. i)) s h
    in_declared (binds_reference hd ops) s h =
        in_flow_of (then_call (eval_all w ops s) (use_library w.lib hd)) (binds_to hd.place) (in_called hd ops s h) (in_binds hd.place)
    in_declared (makes form hd ops) s h =
        in_flow_of (then_call (eval_all w ops s) (use_library w.lib hd)) (λ v t. Next (new_container (length s.memory.conts) t))
        (in_called hd ops s h) (λ v s i. i)

    -- the first part of a `for` keeps it
    in_begun : (f : First) → Keeps (begun w f)
    in_begun no_first s h = h
    in_begun (declares_first d) s h = in_declared d s h
    in_begun (does_first e) s h = in_affect e s h

    -- the last part of a `for` keeps it
    in_ended : (e : Option Effect) → Keeps (ended w e)
    in_ended None s h = h
    in_ended (Some e) s h = in_affect e s h

    -- the end of a scope keeps it
    in_scope : (site : ℕ) (start : State) (f : Flow) → InFlow f → InFlow (scoped site start f)
    in_scope site start (Next s) h = end_keeps site (length start.memory.conts) s.memory h
    in_scope site start (Broke s) h = end_keeps site (length start.memory.conts) s.memory h
    in_scope site start (Continued s) h = end_keeps site (length start.memory.conts) s.memory h
    in_scope site start (Returned v s) h = end_keeps site (length start.memory.conts) s.memory h
    in_scope site start (Over e s) h = h

    -- a call of the library keeps it
    asked : (hd : Head) (vs : List Value) (s : State) → I s.memory → InOut I (use_library w.lib hd vs s)
    asked = keeps_library I w lib_keeps own_keeps write_keeps

    -- a range-for's variable takes a number, which keeps it
    in_takes_number : (at : Place) (x : ℕ) (body : Meaning) → Keeps body → (v : Value) → Keeps (takes_number at x body v)
    in_takes_number at x body k v s h = in_flow_of (read_at at v s) (on_number (λ z s. body (set_scalar_at x z s))) (keeps_read I at v s h)
        (in_number (λ z s. body (set_scalar_at x z s)) (λ z s j. k (set_scalar_at x z s) (keeps_set I x z s j)))

    -- and so does its reference, which is bound to an element
    in_takes_element : (at : Place) (body : Meaning) → Keeps body → (v : Value) → Keeps (takes_element at body v)
    in_takes_element at body k v s h =
        in_scope 0 s (and_then (binds_to at v s) body) (in_then (binds_to at v s) body (in_binds at v s h) k)

    -- a range-for keeps it
    in_range : (at : Place) (name b e : ℕ) (takes : Value → Meaning) → ((v : Value) → Keeps (takes v)) → Keeps (over_range w at name b e takes)
    in_range at name b e takes k s h = in_turns (suc s.steps)
        (λ s go. flow_of (use_library w.lib (asks (operators.Compare c.NotEqual) at name) (hidden_at s b ∷ hidden_at s e ∷ []) s)
        (on_number (λ z. go (not (is_zero z)))))
        (λ s. flow_of (use_library w.lib (asks operators.Dereference at name) (hidden_at s b ∷ []) s) takes)
        (λ s. flow_of (use_library w.lib (asks operators.Increment at name) (hidden_at s b ∷ []) s)
        (on_stamp (λ stamp s. Next (set_iterator_at b stamp s))))
        (λ go p s i. in_flow_of (use_library w.lib (asks (operators.Compare c.NotEqual) at name) (hidden_at s b ∷ hidden_at s e ∷ []) s)
        (on_number (λ z. go (not (is_zero z)))) (asked (asks (operators.Compare c.NotEqual) at name) (hidden_at s b ∷ hidden_at s e ∷ []) s i)
        (in_number (λ z. go (not (is_zero z))) (λ z. p (not (is_zero z)))))
        (λ s i. in_flow_of (use_library w.lib (asks operators.Dereference at name) (hidden_at s b ∷ []) s) takes
        (asked (asks operators.Dereference at name) (hidden_at s b ∷ []) s i) k)
        (λ s i. in_flow_of (use_library w.lib (asks operators.Increment at name) (hidden_at s b ∷ []) s)
        (on_stamp (λ stamp s. Next (set_iterator_at b stamp s)))
        (asked (asks operators.Increment at name) (hidden_at s b ∷ []) s i) (in_stamp (λ stamp s. Next (set_iterator_at b stamp s)) (λ x s j. j)))
        s h

    mutual
      -- each statement keeps it
      pub in_exec : (a : Stmt) → Keeps (exec w a)
      in_exec (block site all) s h = in_scope (unwrap_or site 0) s (exec_all w all s) (in_all all s h)
      in_exec (declares d) s h = in_tick (declared w d) (in_declared d) s h
      in_exec (choice c a) s h = in_tick (λ s. tested w c s (λ v. either_way v (exec w a) Next))
          (in_tested c (λ v. either_way v (exec w a) Next) (λ v. in_either v (exec w a) Next (in_exec a) (λ s i. i))) s h
      in_exec (choice_else c a b) s h = in_tick (λ s. tested w c s (λ v. either_way v (exec w a) (exec w b)))
          (in_tested c (λ v. either_way v (exec w a) (exec w b)) (λ v. in_either v (exec w a) (exec w b) (in_exec a) (in_exec b))) s h
      in_exec (while l c a) s h =
          in_tick (loop (tested w c) (exec w a) Next)
          (λ s i. in_turns (suc s.steps) (tested w c) (exec w a) Next (in_tested c) (in_exec a) (λ s i. i) s i) s h
      in_exec (for l head c last a) s h = in_tick (λ s. scoped 0 s (and_then (begun w head s) (loop (tested w c) (exec w a) (ended w last))))
          (λ s i. in_scope 0 s (and_then (begun w head s) (loop (tested w c) (exec w a) (ended w last)))
          (in_then (begun w head s) (loop (tested w c) (exec w a) (ended w last)) (in_begun head s i)
          (λ s j. in_turns (suc s.steps) (tested w c) (exec w a) (ended w last) (in_tested c) (in_exec a) (in_ended last) s j))) s h
      in_exec (range_for l taken.Value x at name a) s h =
          in_tick (λ s. scoped 0 s (over_range w at name (length s.iters) (length s.iters + 1) (takes_number at (length s.scalars) (exec w a))
          (new_scalar t.Int None (range_start (cont_of s x) s))))
          (λ s i. in_scope 0 s (over_range w at name (length s.iters) (length s.iters + 1) (takes_number at (length s.scalars) (exec w a))
          (new_scalar t.Int None (range_start (cont_of s x) s)))
          (in_range at name (length s.iters) (length s.iters + 1) (takes_number at (length s.scalars) (exec w a))
          (in_takes_number at (length s.scalars) (exec w a) (in_exec a)) (new_scalar t.Int None (range_start (cont_of s x) s)) i)) s h
      in_exec (range_for l taken.Reference x at name a) s h =
          in_tick (λ s. scoped 0 s (over_range w at name (length s.iters) (length s.iters + 1) (takes_element at (exec w a))
          (range_start (cont_of s x) s)))
          (λ s i. in_scope 0 s (over_range w at name (length s.iters) (length s.iters + 1) (takes_element at (exec w a))
          (range_start (cont_of s x) s))
          (in_range at name (length s.iters) (length s.iters + 1) (takes_element at (exec w a)) (in_takes_element at (exec w a) (in_exec a))
          (range_start (cont_of s x) s) i)) s h
      in_exec break s h = in_tick Broke (λ s i. i) s h
      in_exec continue s h = in_tick Continued (λ s i. i) s h
      in_exec (gives_back None) s h = in_tick (Returned nothing) (λ s i. i) s h
      in_exec (gives_back (Some a)) s h = in_tick (λ s. flow_of (eval w a s) Returned) (in_value a Returned (λ v s i. i)) s h
      in_exec (does e) s h = in_tick (affect w e) (in_affect e) s h

      -- statements in turn keep it
      pub in_all : (all : Stmts) → Keeps (exec_all w all)
      in_all no_more s h = h
      in_all (followed a rest) s h = in_then (exec w a s) (exec_all w rest) (in_exec a s h) (in_all rest)
