-- Each statement that is typed keeps the stacks of their types, and no end is for want of a meaning.
use Rattle.std.proofs.Common.{◌≡◌, ℕ, suc, ◌+◌, ◌<◌, Bool, true, Option, Some, None, length, sym, ◌∙◌, subst}
use Rattle.std.specs.Prelude.{List, unwrap_or, slice_get, slice_index}
use Rattle.sl_base.specs.declared.form.Form.{Form}
use Rattle.sl_specs.specs.Forms.{same_form}
use Rattle.sl_base.specs.declared.scalar.Scalar.{Scalar}
use Rattle.sl_base.specs.declared.scalar.Scalar.TheVariants as t
use Rattle.sl_base.specs.declared.place.Place.{Place}
use Rattle.sl_syntax.specs.declared.typed.element.Taken.TheVariants as taken
use Rattle.sl_syntax.specs.declared.typed.parameter.ParameterKind.{ParameterKind}
use Rattle.sl_syntax.specs.declared.typed.parameter.ParameterKind.TheVariants as parameters
use Rattle.sl_syntax.specs.Typed.{Expr, Stmt, block, declares, choice, choice_else, while, for, range_for, break, continue, gives_back, does, Stmts}
use Rattle.sl_syntax.specs.Typed.{no_more, followed}
use Rattle.sl_typing.specs.declared.expr_type.ExprType.{ExprType}
use Rattle.sl_typing.specs.declared.expr_type.ExprType.TheVariants as types
use Rattle.sl_typing.specs.Types.{has_type, is_scalar, goes_into}
use Rattle.sl_model.specs.Memory.Containers.{Memory}
use Rattle.sl_model.specs.LibraryCalls.Values.{Value, nothing}
use Rattle.sl_model.specs.Runs.State.{Frame, State, cont_of, new_scalar}
use Rattle.sl_model.specs.Runs.Eval.{World, eval}
use Rattle.sl_model.specs.Runs.Exec.{Next, Broke, Continued, Returned, and_then, flow_of, either_way, scoped, tested, affect, declared}
use Rattle.sl_model.specs.Runs.Exec.{begun, ended, loop, takes_number, takes_element, over_range, range_start, exec, exec_all}
use Rattle.sl_model.specs.Typing.Shapes.{Shape, Signature}
use Rattle.sl_model.specs.Typing.Scoped.{Counts, InCond, InLast, IsPart, InStmt, InStmts, AsksWell}
use Rattle.sl_model.specs.Typing.WellTypedScopes.{Scope, is_within, variable_type}
use Rattle.sl_model.specs.Typing.WellTypedExpressions.{goes_to, type_given, type_of}
use Rattle.sl_model.specs.Typing.WellTypedStatements.{is_typed_cond, is_typed_last, is_typed_declaration, behind, is_typed_first, behind_first}
use Rattle.sl_model.specs.Typing.WellTypedStatements.{may_go_over, in_range, is_typed_return, is_typed_stmt, are_typed_stmts}
use Rattle.sl_model.proofs.Passing.{first_of_both, second_of_both, three_parts, five_parts}
use Rattle.sl_model.proofs.Called.{one_form}
use Rattle.sl_model.proofs.TypedOperands.{typed_by}
use Rattle.sl_model.proofs.TypedExpressions.{no_type_goes}
use Rattle.sl_model.proofs.TypedStatements.{functions_behind, functions_behind_first, functions_in_range}
use Rattle.sl_model.proofs.Fitting.{forms_of, IsNumber, IsIteratorOf, Fits, FitsTypes}
use Rattle.sl_model.proofs.Levels.{Level, counts_of, Now}
use Rattle.sl_model.proofs.Gifts.{KeepsGood, OwnKeepsGood}
use Rattle.sl_model.proofs.GoodFlow.{FlowIn}
use Rattle.sl_model.proofs.GoodEffects.{level_declared, level_begun, counts_declared, counts_begun, at_begun, at_ended}
use Rattle.sl_model.proofs.GoodRange.{level_hidden, level_range, counts_range, range-now, numbered-now, at_takes_number, at_takes_element}
use Rattle.sl_model.proofs.GoodExec.{part_stays, first_hidden, second_hidden, at_exec}
use Rattle.sl_model.proofs.StackTypes.{iters_here, conts_here, Stack, StacksFit, ContFits, ScopeFits}
use Rattle.sl_model.proofs.StackScopes.{conts_at}
use Rattle.sl_model.proofs.FitEval.{OwnFits, frame_here}
use Rattle.sl_model.proofs.FitFlow.{FlowFits, flow_as, fit_scope, fit_after, Fit, fit_either, fit_tick, fit_turns}
use Rattle.sl_model.proofs.FitDeclared.{stack_declared, stack_begun, before_declared, before_begun, scope_declared, scope_begun}
use Rattle.sl_model.proofs.FitEffects.{fit_of_value, fit_tested, fit_affect, fit_declared, fit_begun, fit_ended}
use Rattle.sl_model.proofs.FitRange.{form_in, stack_hidden, stack_range, before_hidden, range-fits, first_known, second_known, scope_range}
use Rattle.sl_model.proofs.FitRange.{fit_takes_number, fit_takes_element, fit_over}

-- a number that is given back is one
pub given_number : (s : Scalar) (u : ExprType) (m : Memory) (v : Value) → is_scalar s u ≡ true → Fits m u v → IsNumber v
given_number s (types.Scalar r) m v t h = h
given_number s (types.Element w) m v t h = h
given_number s u m v t h = absurd (cc)

-- an iterator that goes where one of a form is asked for is of the form
pub given_iterator : (b : Bool) (x : Form) (u : ExprType) (m : Memory) (v : Value) → goes_into b x u ≡ true → Fits m u v → IsIteratorOf m x v
given_iterator b x (types.Iterator c y) m v t h =
    subst (λ (z : Form). IsIteratorOf m z v) (sym (one_form x y (first_of_both (same_form x y) _ t))) h
given_iterator b x u m v t h = absurd (cc)

-- what goes to what is due is of the type that is given
goes_fits : (k : ParameterKind) (u : ExprType) (m : Memory) (v : Value) → has_type (type_given (Some k)) ≡ true → goes_to k u ≡ true → Fits m u v
    → Fits m (type_given (Some k)) v
goes_fits (parameters.Value s) u m v due t h = given_number s u m v t h
goes_fits (parameters.Reference s) u m v due t h = absurd (cc)
goes_fits (parameters.Container access x) u m v due t h = absurd (cc)
goes_fits (parameters.Iterator b x) u m v due t h = given_iterator b x u m v t h

-- nothing is of the type that is given where nothing is due
nothing_fits : (g : Scope) (due : Option ParameterKind) (m : Memory) → is_typed_return g due None ≡ true → Fits m (type_given due) nothing
nothing_fits g None m t = tt
nothing_fits g (Some k) m t = absurd (cc)

-- a value that is given back has a type
returned_typed : (g : Scope) (due : Option ParameterKind) (a : Expr) → is_typed_return g due (Some a) ≡ true → has_type (type_of g a) ≡ true
returned_typed g None a t = absurd (cc)
returned_typed g (Some k) a t = typed_by (goes_to k) (no_type_goes k) (type_of g a) t

-- and is of the one that is given
returned_fits : (g : Scope) (due : Option ParameterKind) (a : Expr) (m : Memory) (v : Value) → has_type (type_given due) ≡ true
    → is_typed_return g due (Some a) ≡ true → Fits m (type_of g a) v → Fits m (type_given due) v
returned_fits g None a m v given t h = tt
returned_fits g (Some k) a m v given t h = goes_fits k (type_of g a) m v given t h

-- the form of a container whose type says where it is
form_there : (fs : List Form) (m : Memory) (u : ExprType) (l : ℕ)
    → ((l : ℕ) (form : Form) → slice_get fs l ≡ Some form → slice_get (forms_of m) l ≡ Some form) → ContFits fs u l
    → slice_get (forms_of m) l ≡ Some (form_in u)
form_there fs m (types.Container access form) l keep h = keep l form h
form_there fs m u l keep h = absurd h

module _ (w : World) (sig : Signature) (lib_keeps : KeepsGood sig.shape sig.makes w.lib) (own_keeps : OwnKeepsGood sig w)
    (lib_fits : FitsTypes w.lib) (own_fits : OwnFits sig w) (due : Option ParameterKind) (shape : Shape)
    (given : has_type (type_given due) ≡ true) where
  -- a part of a statement stays at its level
  good_part : (a : Stmt) (L : Level) (n : ℕ) → IsPart a → InStmt sig shape (counts_of L.frame) a → (s : State) → Now L n s
      → FlowIn shape L n (Now L n) (Now L n) (exec w a s)
  good_part a L n part i s h = part_stays shape L n a (exec w a s) part (at_exec w sig lib_keeps own_keeps shape n a L s i h)

  -- the container of a range-for is of its type
  over_there : (L : Level) (g : Scope) (d : Stack) (x : ℕ) (s : State) → ScopeFits L g d.conts d.iters → x < length L.frame.conts → Now L d.used s
      → ContFits d.conts (variable_type g.containers x) (cont_of s x)
  over_there L g d x s q low h =
      subst (λ (k : Frame). ContFits d.conts (variable_type g.containers x) (slice_index k.conts x)) (sym (frame_here L d.used s h))
      (conts_at d.conts g.containers L.frame.conts x q.containers low)

  -- the state in which the hidden iterators of a range-for have come into scope
  hidden_there : (L : Level) (g : Scope) (d : Stack) (x : ℕ) (s : State) → ScopeFits L g d.conts d.iters → x < length L.frame.conts → Now L d.used s
      → StacksFit d s → StacksFit (stack_hidden (form_in (variable_type g.containers x)) d) (range_start (cont_of s x) s)
  hidden_there L g d x s q low h f = range-fits d (cont_of s x) (form_in (variable_type g.containers x)) s h.good.sound
      (iters_here L g d d.used s q h)
      (form_there d.conts s.memory (variable_type g.containers x) (cont_of s x) f.conts (over_there L g d x s q low h)) f

  -- a range-for by value, where its body keeps the stacks
  range_by_value : (L : Level) (g : Scope) (d : Stack) (x : ℕ) (at : Place) (name : ℕ) (a : Stmt) (s : State) → ScopeFits L g d.conts d.iters
      → x < length L.frame.conts → AsksWell sig → IsPart a → InStmt sig shape (counts_of (level_range taken.Value L).frame) a
      → Fit due (level_range taken.Value L) (stack_range taken.Value (form_in (variable_type g.containers x)) d)
      (stack_range taken.Value (form_in (variable_type g.containers x)) d) (exec w a) → Now L d.used s → StacksFit d s
      → FlowFits due d d (scoped 0 s (over_range w at name (length s.iters) (length s.iters + 1) (takes_number at (length s.scalars) (exec w a))
      (new_scalar t.Int None (range_start (cont_of s x) s))))
  range_by_value L g d x at name a s q low well part i k h f = let form = form_in (variable_type g.containers x) in
      let e = stack_range taken.Value form d in let M = level_range taken.Value L in
      fit_scope due d 0 s (over_range w at name (length s.iters) (length s.iters + 1) (takes_number at (length s.scalars) (exec w a))
      (new_scalar t.Int None (range_start (cont_of s x) s))) (conts_here L g d d.used s q h) (iters_here L g d d.used s q h)
      (flow_as due e e d d (over_range w at name (length s.iters) (length s.iters + 1) (takes_number at (length s.scalars) (exec w a))
      (new_scalar t.Int None (range_start (cont_of s x) s))) (before_hidden form d) (before_hidden form d)
      (fit_over w sig lib_keeps lib_fits due shape M e at name (length s.iters) (length s.iters + 1) form
      (takes_number at (length s.scalars) (exec w a))
      (first_hidden w sig lib_keeps own_keeps shape d.used L s h) (second_hidden w sig lib_keeps own_keeps shape d.used L s h) well
      (first_known d.iters form (length s.iters) (iters_here L g d d.used s q h)) (second_known d.iters form (length s.iters)
      (iters_here L g d d.used s q h))
      (at_takes_number shape M d.used at (length s.scalars) (exec w a) (good_part a M d.used part i))
      (fit_takes_number due shape M e at (length s.scalars) (exec w a) k)
      (new_scalar t.Int None (range_start (cont_of s x) s)) (numbered-now L d.used x s low h) (hidden_there L g d x s q low h f)))

  -- a range-for by reference
  range_by_reference : (L : Level) (g : Scope) (d : Stack) (x : ℕ) (at : Place) (name : ℕ) (a : Stmt) (s : State) → ScopeFits L g d.conts d.iters
      → x < length L.frame.conts → AsksWell sig → IsPart a → InStmt sig shape (counts_of (level_range taken.Reference L).frame) a
      → length (stack_hidden (form_in (variable_type g.containers x)) d).iters ≡ (level_hidden L).iters
      → Fit due (level_range taken.Reference L) (stack_range taken.Reference (form_in (variable_type g.containers x)) d)
      (stack_range taken.Reference (form_in (variable_type g.containers x)) d) (exec w a) → Now L d.used s → StacksFit d s
      → FlowFits due d d (scoped 0 s (over_range w at name (length s.iters) (length s.iters + 1) (takes_element at (exec w a))
      (range_start (cont_of s x) s)))
  range_by_reference L g d x at name a s q low well part i high k h f = let form = form_in (variable_type g.containers x) in
      let e = stack_hidden form d in let M = level_hidden L in
      fit_scope due d 0 s (over_range w at name (length s.iters) (length s.iters + 1) (takes_element at (exec w a))
      (range_start (cont_of s x) s)) (conts_here L g d d.used s q h) (iters_here L g d d.used s q h)
      (flow_as due e e d d (over_range w at name (length s.iters) (length s.iters + 1) (takes_element at (exec w a))
      (range_start (cont_of s x) s)) (before_hidden form d) (before_hidden form d)
      (fit_over w sig lib_keeps lib_fits due shape M e at name (length s.iters) (length s.iters + 1) form (takes_element at (exec w a))
      (first_hidden w sig lib_keeps own_keeps shape d.used L s h) (second_hidden w sig lib_keeps own_keeps shape d.used L s h) well
      (first_known d.iters form (length s.iters) (iters_here L g d d.used s q h)) (second_known d.iters form (length s.iters)
      (iters_here L g d d.used s q h))
      (at_takes_element shape M d.used at (exec w a) (good_part a (level_range taken.Reference L) d.used part i))
      (fit_takes_element due shape M e at (exec w a) q.conts_high high k)
      (range_start (cont_of s x) s) (range-now L d.used x s low h) (hidden_there L g d x s q low h f)))

  mutual
    unfolding is_typed_stmt are_typed_stmts

    -- each statement
    pub fit_exec : (a : Stmt) (inside : Bool) (L : Level) (g : Scope) (d : Stack) (s : State) → sig.functions ≡ g.functions
        → ScopeFits L g d.conts d.iters → InStmt sig shape (counts_of L.frame) a → is_typed_stmt g due inside a ≡ true → Now L d.used s
        → StacksFit d s → FlowFits due d d (exec w a s)
    fit_exec (block site all) inside L g d s known q i typed h f =
        fit_scope due d (unwrap_or site 0) s (exec_all w all s) (conts_here L g d d.used s q h) (iters_here L g d d.used s q h)
        (fit_exec_all all inside L g d s known q i typed h f)
    fit_exec (declares x) inside L g d s known q i typed h f = absurd (cc)
    fit_exec (choice k a) inside L g d s known q i typed h f =
        let condition = first_of_both (is_typed_cond g k) (is_typed_stmt g due inside a) typed in
        let body = second_of_both (is_typed_cond g k) (is_typed_stmt g due inside a) typed in
        fit_tick due L d d (λ s. tested w k s (λ v. either_way v (exec w a) Next))
        (fit_tested w sig lib_keeps own_keeps lib_fits own_fits due shape L g known d q k i.0 condition (λ v. either_way v (exec w a) Next)
        (λ v. fit_either due L d d v (exec w a) Next (λ s j f. fit_exec a inside L g d s known q i.1.1 body j f) (λ s j f. f))) s h f
    fit_exec (choice_else k a b) inside L g d s known q i typed h f =
        let parts = three_parts (is_typed_cond g k) (is_typed_stmt g due inside a) (is_typed_stmt g due inside b) typed in
        fit_tick due L d d (λ s. tested w k s (λ v. either_way v (exec w a) (exec w b)))
        (fit_tested w sig lib_keeps own_keeps lib_fits own_fits due shape L g known d q k i.0 parts.0 (λ v. either_way v (exec w a) (exec w b))
        (λ v. fit_either due L d d v (exec w a) (exec w b) (λ s j f. fit_exec a inside L g d s known q i.1.0.1 parts.1 j f)
        (λ s j f. fit_exec b inside L g d s known q i.1.1.1 parts.2 j f))) s h f
    fit_exec (while number k a) inside L g d s known q i typed h f =
        let condition = first_of_both (is_typed_cond g k) (is_typed_stmt g due true a) typed in
        let body = second_of_both (is_typed_cond g k) (is_typed_stmt g due true a) typed in
        fit_tick due L d d (loop (tested w k) (exec w a) Next)
        (λ s j f. fit_turns due L d shape (suc s.steps) (tested w k) (exec w a) Next (good_part a L d.used i.1.0 i.1.1) (λ s l. l)
        (fit_tested w sig lib_keeps own_keeps lib_fits own_fits due shape L g known d q k i.0 condition)
        (λ s l f. fit_exec a true L g d s known q i.1.1 body l f) (λ s l f. f) s j f) s h f
    fit_exec (for number head k last a) inside L g d s known q i typed h f =
        let r = behind_first head g in let M = level_begun head L in let e = stack_begun g head d in
        let parts = five_parts (is_typed_first g head) (is_within r) (is_typed_cond r k) (is_typed_last r last) (is_typed_stmt r due true a) typed in
        let there = scope_begun L g d.conts d.iters head parts.0 q in let functions = known ∙ sym (functions_behind_first head g) in
        let in_body = subst (λ (c : Counts). InStmt sig shape c a) (sym (counts_begun head L)) i.1.1.1.1 in
        let in_last = subst (λ (c : Counts). InLast sig c last) (sym (counts_begun head L)) i.1.1.0 in
        let in_cond = subst (λ (c : Counts). InCond sig c k) (sym (counts_begun head L)) i.1.0 in
        fit_tick due L d d (λ s. scoped 0 s (and_then (begun w head s) (loop (tested w k) (exec w a) (ended w last))))
        (λ s j f. fit_scope due d 0 s (and_then (begun w head s) (loop (tested w k) (exec w a) (ended w last))) (conts_here L g d d.used s q j)
        (iters_here L g d d.used s q j)
        (fit_after due L d e d shape L (Now M d.used) (Now L d.used) (begun w head s) (loop (tested w k) (exec w a) (ended w last))
        (at_begun w sig lib_keeps own_keeps shape L d.used head s i.0 j)
        (fit_begun w sig lib_keeps own_keeps lib_fits own_fits due shape L g known d q head s i.0 parts.0 j f)
        (λ s l f. flow_as due e e d d (loop (tested w k) (exec w a) (ended w last) s) (before_begun g head d) (before_begun g head d)
        (fit_turns due M e shape (suc s.steps) (tested w k) (exec w a) (ended w last) (good_part a M d.used i.1.1.1.0 in_body)
        (λ s l. at_ended w sig lib_keeps own_keeps shape M d.used last s in_last l)
        (fit_tested w sig lib_keeps own_keeps lib_fits own_fits due shape M r functions e there k in_cond parts.2)
        (λ s l f. fit_exec a true M r e s functions there in_body parts.4 l f)
        (λ s l f. fit_ended w sig lib_keeps own_keeps lib_fits own_fits due shape M r functions e there last s in_last parts.3 l f) s l f)))) s h f
    fit_exec (range_for number taken.Value x at name a) inside L g d s known q i typed h f =
        let u = variable_type g.containers x in let r = in_range taken.Value u g in let M = level_range taken.Value L in
        let parts = three_parts (may_go_over taken.Value u) (is_within r) (is_typed_stmt r due true a) typed in
        let there = scope_range L g d.conts d.iters taken.Value u (cont_of s x) (over_there L g d x s q i.0 h) q in
        let in_body = subst (λ (c : Counts). InStmt sig shape c a) (sym (counts_range taken.Value L)) i.1.1.1 in
        fit_tick due L d d (λ s. scoped 0 s (over_range w at name (length s.iters) (length s.iters + 1)
        (takes_number at (length s.scalars) (exec w a))
        (new_scalar t.Int None (range_start (cont_of s x) s))))
        (λ s j f. range_by_value L g d x at name a s q i.0 i.1.0 i.1.1.0 in_body
        (λ s l f. fit_exec a true M r (stack_range taken.Value (form_in u) d) s (known ∙ sym (functions_in_range taken.Value u g)) there in_body
        parts.2 l f) j f) s h f
    fit_exec (range_for number taken.Reference x at name a) inside L g d s known q i typed h f =
        let u = variable_type g.containers x in let r = in_range taken.Reference u g in let M = level_range taken.Reference L in
        let parts = three_parts (may_go_over taken.Reference u) (is_within r) (is_typed_stmt r due true a) typed in
        let there = scope_range L g d.conts d.iters taken.Reference u (cont_of s x) (over_there L g d x s q i.0 h) q in
        let hidden = scope_range L g d.conts d.iters taken.Value u (cont_of s x) (over_there L g d x s q i.0 h) q in
        let in_body = subst (λ (c : Counts). InStmt sig shape c a) (sym (counts_range taken.Reference L)) i.1.1.1 in
        fit_tick due L d d (λ s. scoped 0 s (over_range w at name (length s.iters) (length s.iters + 1) (takes_element at (exec w a))
        (range_start (cont_of s x) s)))
        (λ s j f. range_by_reference L g d x at name a s q i.0 i.1.0 i.1.1.0 in_body hidden.iters_high
        (λ s l f. fit_exec a true M r (stack_range taken.Reference (form_in u) d) s (known ∙ sym (functions_in_range taken.Reference u g)) there
        in_body parts.2 l f) j f) s h f
    fit_exec break inside L g d s known q i typed h f = fit_tick due L d d Broke (λ s j f. f) s h f
    fit_exec continue inside L g d s known q i typed h f = fit_tick due L d d Continued (λ s j f. f) s h f
    fit_exec (gives_back None) inside L g d s known q i typed h f =
        fit_tick due L d d (Returned nothing) (λ s j f. (nothing_fits g due s.memory typed, f)) s h f
    fit_exec (gives_back (Some a)) inside L g d s known q i typed h f = fit_tick due L d d (λ s. flow_of (eval w a s) Returned)
        (λ s j f. fit_of_value w sig lib_keeps own_keeps lib_fits own_fits due shape L g known d q d a Returned s i.1 (returned_typed g due a typed)
        (λ v s l fits f. (returned_fits g due a s.memory v given typed fits, f)) j f) s h f
    fit_exec (does e) inside L g d s known q i typed h f = fit_tick due L d d (affect w e)
        (λ s j f. fit_affect w sig lib_keeps own_keeps lib_fits own_fits due shape L g known d q e s i typed j f) s h f

    -- statements and declarations in turn
    pub fit_exec_all : (all : Stmts) (inside : Bool) (L : Level) (g : Scope) (d : Stack) (s : State) → sig.functions ≡ g.functions
        → ScopeFits L g d.conts d.iters → InStmts sig shape (counts_of L.frame) all → are_typed_stmts g due inside all ≡ true → Now L d.used s
        → StacksFit d s → FlowFits due d d (exec_all w all s)
    fit_exec_all no_more inside L g d s known q i typed h f = f
    fit_exec_all (followed (declares x) rest) inside L g d s known q i typed h f =
        let r = behind x g in let M = level_declared x L in let e = stack_declared g x d in
        let parts = three_parts (is_typed_declaration g x) (is_within r) (are_typed_stmts r due inside rest) typed in
        fit_after due L d e d shape L (Now M d.used) (Now L d.used) (exec w (declares x) s) (exec_all w rest)
        (at_exec w sig lib_keeps own_keeps shape d.used (declares x) L s i.0 h)
        (fit_tick due L d e (declared w x)
        (λ s j f. fit_declared w sig lib_keeps own_keeps lib_fits own_fits due shape L g known d q x s i.0 parts.0 j f) s h f)
        (λ s j f. flow_as due e e d d (exec_all w rest s) (before_declared g x d) (before_declared g x d)
        (fit_exec_all rest inside M r e s (known ∙ sym (functions_behind x g)) (scope_declared L g d.conts d.iters x parts.0 q)
        (subst (λ (c : Counts). InStmts sig shape c rest) (sym (counts_declared x L)) i.1) parts.2 j f))
    fit_exec_all (followed b rest) inside L g d s known q i typed h f =
        fit_after due L d d d shape L (Now L d.used) (Now L d.used) (exec w b s) (exec_all w rest)
        (at_exec w sig lib_keeps own_keeps shape d.used b L s i.0 h)
        (fit_exec b inside L g d s known q i.0 (first_of_both (is_typed_stmt g due inside b) (are_typed_stmts g due inside rest) typed) h f)
        (λ s j f. fit_exec_all rest inside L g d s known q i.1
        (second_of_both (is_typed_stmt g due inside b) (are_typed_stmts g due inside rest) typed) j f)
