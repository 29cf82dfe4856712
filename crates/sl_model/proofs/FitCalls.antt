-- Each call of a well typed text's own functions gives what is of the type of the function: its parameters take what is of their types, and what lies
-- on the caller's stacks stays of its types.
use Rattle.std.proofs.Common.{◌≡◌, ℕ, zero, suc, ◌≤◌, ◌==◌, Bool, true, false, ◌&&◌, List, [], ◌∷◌, ◌++◌, Option, Some, None, length, refl, ap}
use Rattle.std.proofs.Common.{sym, ◌∙◌}
use Rattle.std.proofs.Common.{subst}
use Rattle.std.specs.Prelude.{pos, slice_get}
use Rattle.std.proofs.lemmas.Bool.{eqb-true}
use Rattle.sl_base.specs.declared.form.Form.{Form}
use Rattle.sl_base.specs.declared.place.Place.{Place}
use Rattle.sl_base.specs.declared.scalar.Scalar.{Scalar}
use Rattle.sl_base.specs.declared.scalar.Scalar.TheVariants as t
use Rattle.sl_specs.specs.Forms.{same_form}
use Rattle.sl_syntax.specs.declared.operator.Access.{Access}
use Rattle.sl_syntax.specs.declared.operator.Access.TheVariants as a
use Rattle.sl_syntax.specs.declared.typed.callee.Callee.{Callee}
use Rattle.sl_syntax.specs.declared.typed.parameter.ParameterKind.{ParameterKind}
use Rattle.sl_syntax.specs.declared.typed.parameter.ParameterKind.TheVariants as parameters
use Rattle.sl_syntax.specs.Typed.{Function, Typed}
use Rattle.sl_typing.specs.declared.expr_type.ExprType.{ExprType}
use Rattle.sl_typing.specs.declared.expr_type.ExprType.TheVariants as types
use Rattle.sl_typing.specs.Types.{has_type, is_scalar}
use Rattle.sl_model.specs.Memory.Containers.{Memory}
use Rattle.sl_model.specs.LibraryCalls.Values.{Value, nothing, number, iterator, scalar_at, container_at, Lib}
use Rattle.sl_model.specs.Runs.Ends.{Language}
use Rattle.sl_model.specs.Runs.State.{State, iterator_at}
use Rattle.sl_model.specs.Runs.Binding.{no_frame, bind_one, bind_all, bound}
use Rattle.sl_model.specs.Runs.Eval.{Out, Gives, Stops, World, Oracle, come_back}
use Rattle.sl_model.specs.Runs.Exec.{Flow, Next, Broke, Continued, Returned, Over, exec}
use Rattle.sl_model.specs.Runs.Calls.{fell, body_gives, of_function, parameters_in, world_of, call_of}
use Rattle.sl_model.specs.Typing.Shapes.{Shape, Signature, signature_of, shape_of_result}
use Rattle.sl_model.specs.Typing.Scoped.{Counts, no_counts, with_parameters as counts_with, InStmt, IsScoped}
use Rattle.sl_model.specs.Typing.WellTypedScopes.{Scope, is_within}
use Rattle.sl_model.specs.Typing.WellTypedExpressions.{goes_to, go_to, type_given}
use Rattle.sl_model.specs.Typing.WellTypedStatements.{is_typed_stmt, with_parameter, with_parameters, no_variables, is_block, is_typed_function}
use Rattle.sl_model.specs.Typing.WellTyped.{WellTyped}
use Rattle.sl_model.proofs.Passing.{first_of_both, second_of_both}
use Rattle.sl_model.proofs.Called.{one_form}
use Rattle.sl_model.proofs.TypedStatements.{functions_with_parameters, function_is_typed, main_is_there}
use Rattle.sl_model.proofs.Fitting.{IsNumber, IsIteratorOf, IsContainerOf, IsScalarAt, Fits, AllFit, FitsTypes}
use Rattle.sl_model.proofs.Levels.{Level, level_of, counts_of, Now}
use Rattle.sl_model.proofs.Gifts.{KeepsGood, now_again}
use Rattle.sl_model.proofs.GoodBinding.{at_bound}
use Rattle.sl_model.proofs.GoodCalls.{TakesParameters, at_call_of}
use Rattle.sl_model.proofs.StackTypes.{Kind, iterator_of, Stack, StacksFit, ScopeFits, new_pointer-fits}
use Rattle.sl_model.proofs.StackTypes.{form_known, end-fits, from_now, now-fits, then-fits}
use Rattle.sl_model.proofs.StackScopes.{conts_with, iters_new, numbers_with, last_there}
use Rattle.sl_model.proofs.FitOuts.{OutFits}
use Rattle.sl_model.proofs.FitEval.{OwnFits}
use Rattle.sl_model.proofs.FitFlow.{FlowFits, given_ended}
use Rattle.sl_model.proofs.FitDeclared.{fewer_iters, one_higher}
use Rattle.sl_model.proofs.FitExec.{given_number, given_iterator, fit_exec}

-- the kinds with a parameter
abbrev iters_with : ParameterKind → List Kind → List Kind
iters_with (parameters.Iterator b x) ks = ks ++ iterator_of x ∷ []
iters_with k ks = ks

-- the kinds with parameters
abbrev iters_bound : List ParameterKind → List Kind → List Kind
iters_bound [] ks = ks
iters_bound (p ∷ ps) ks = iters_bound ps (iters_with p ks)

-- what is known of the stacks with other kinds
abbrev with_iters : List Kind → Stack → Stack
with_iters ks d = record d { iters = ks }

-- a parameter has got its operand: what is in scope is where its type says, the stacks fit, and memory is the same
record IsBound (g : Scope) (ks : List Kind) (d : Stack) (m : Memory) (s : State) : Type 0 where
  pub scope : ScopeFits (level_of s) g d.conts ks
  pub stacks : StacksFit (with_iters ks d) s
  pub memory : s.memory ≡ m

-- a scalar goes to a parameter by reference
scalar_goes : (s : Scalar) (u : ExprType) (m : Memory) (v : Value) → goes_to (parameters.Reference s) u ≡ true → Fits m u v → IsScalarAt v
scalar_goes s (types.Handed r) m v t h = h
scalar_goes s u m v t h = absurd (cc)

-- a container of one form is of the other
form_goes : (x y : Form) (m : Memory) (v : Value) → same_form x y ≡ true → IsContainerOf m y v → IsContainerOf m x v
form_goes x y m v t h = subst (λ (z : Form). IsContainerOf m z v) (sym (one_form x y t)) h

-- a container goes to a parameter of its form
container_goes : (access : Access) (x : Form) (u : ExprType) (m : Memory) (v : Value) → goes_to (parameters.Container access x) u ≡ true → Fits m u v
    → IsContainerOf m x v
container_goes a.Const x (types.Container a.Whole y) m v t h = form_goes x y m v t h
container_goes a.Const x (types.Container a.Const y) m v t h = form_goes x y m v t h
container_goes a.Whole x (types.Container a.Whole y) m v t h = form_goes x y m v t h
container_goes a.Elements x (types.Container access y) m v t h = form_goes x y m v t h
container_goes access x u m v t h = absurd (cc)

module _ (d : Stack) (g : Scope) (ks : List Kind) (s : State) where
  -- a number is copied
  bind_number : (ty : Scalar) (v : Value) → IsNumber v → IsBound g ks d s.memory s
      → IsBound (with_parameter (parameters.Value ty) g) ks d s.memory (bind_one (parameters.Value ty) v s)
  bind_number ty (number z) n h = record {
    scope = record {
      scalars = numbers_with g.scalars ty h.scope.scalars;
      conts_high = h.scope.conts_high;
      iters_high = h.scope.iters_high;
      containers = h.scope.containers;
      iterators = h.scope.iterators;
    };
    stacks = h.stacks;
    memory = refl;
  }
  bind_number ty v n h = absurd n

  -- a reference has the location of a scalar
  bind_scalar : (ty : Scalar) (v : Value) → IsScalarAt v → IsBound g ks d s.memory s
      → IsBound (with_parameter (parameters.Reference ty) g) ks d s.memory (bind_one (parameters.Reference ty) v s)
  bind_scalar ty (scalar_at l) n h = record {
    scope = record {
      scalars = numbers_with g.scalars ty h.scope.scalars;
      conts_high = h.scope.conts_high;
      iters_high = h.scope.iters_high;
      containers = h.scope.containers;
      iterators = h.scope.iterators;
    };
    stacks = h.stacks;
    memory = refl;
  }
  bind_scalar ty v n h = absurd n

  -- a reference has the location of a container
  bind_container : (access : Access) (x : Form) (v : Value) → IsContainerOf s.memory x v → IsBound g ks d s.memory s
      → IsBound (with_parameter (parameters.Container access x) g) ks d s.memory (bind_one (parameters.Container access x) v s)
  bind_container access x (container_at l) n h = record {
    scope = record {
      scalars = h.scope.scalars;
      conts_high = h.scope.conts_high;
      iters_high = h.scope.iters_high;
      containers = conts_with d.conts g.containers s.frame.conts (types.Container access x) l
          (form_known (with_iters ks d) s l x h.scope.conts_high h.stacks n) h.scope.containers;
      iterators = h.scope.iterators;
    };
    stacks = h.stacks;
    memory = refl;
  }
  bind_container access x v n h = absurd n

  -- an iterator is copied
  bind_iterator : (b : Bool) (x : Form) (v : Value) → IsIteratorOf s.memory x v → IsBound g ks d s.memory s
      → IsBound (with_parameter (parameters.Iterator b x) g) (ks ++ iterator_of x ∷ []) d s.memory (bind_one (parameters.Iterator b x) v s)
  bind_iterator b x (iterator stamp) n h = record {
    scope = record {
      scalars = h.scope.scalars;
      conts_high = h.scope.conts_high;
      iters_high = one_higher ks (iterator_of x) (length s.iters) h.scope.iters_high
          ∙ sym (one_higher s.iters (iterator_at stamp) (length s.iters) refl);
      containers = h.scope.containers;
      iterators = iters_new ks g.iterators s.frame.iters (iterator_of x) (types.Iterator b x) (length s.iters)
          (last_there ks (iterator_of x) (length s.iters) h.scope.iters_high) h.scope.iterators;
    };
    stacks = new_pointer-fits (with_iters ks d) s.memory s.iters (iterator_of x) (iterator_at stamp) h.scope.iters_high n h.stacks;
    memory = refl;
  }
  bind_iterator b x v n h = absurd n

  -- a parameter gets what goes to it
  bind_kind : (p : ParameterKind) (u : ExprType) (v : Value) → goes_to p u ≡ true → Fits s.memory u v → IsBound g ks d s.memory s
      → IsBound (with_parameter p g) (iters_with p ks) d s.memory (bind_one p v s)
  bind_kind (parameters.Value ty) u v t n h = bind_number ty v (given_number ty u s.memory v t n) h
  bind_kind (parameters.Reference ty) u v t n h = bind_scalar ty v (scalar_goes ty u s.memory v t n) h
  bind_kind (parameters.Container access x) u v t n h = bind_container access x v (container_goes access x u s.memory v t n) h
  bind_kind (parameters.Iterator b x) u v t n h = bind_iterator b x v (given_iterator b x u s.memory v t n) h

-- the parameters get what goes to them
bind_kinds : (d : Stack) (g : Scope) (ks : List Kind) (s : State) (ps : List ParameterKind) (us : List ExprType) (vs : List Value)
    → go_to ps us ≡ true → AllFit s.memory us vs → IsBound g ks d s.memory s
    → IsBound (with_parameters ps g) (iters_bound ps ks) d s.memory (bind_all ps vs s)
bind_kinds d g ks s [] us vs t n h = h
bind_kinds d g ks s (p ∷ ps) [] vs t n h = absurd (cc)
bind_kinds d g ks s (p ∷ ps) (u ∷ us) [] t n h = absurd n
bind_kinds d g ks s (p ∷ ps) (u ∷ us) (v ∷ vs) t n h =
    let i = bind_kind d g ks s p u v (first_of_both (goes_to p u) (go_to ps us) t) n.0 h in
    subst (λ (m : Memory). IsBound (with_parameters ps (with_parameter p g)) (iters_bound ps (iters_with p ks)) d m
    (bind_all ps vs (bind_one p v s))) i.memory
    (bind_kinds d (with_parameter p g) (iters_with p ks) (bind_one p v s) ps us vs (second_of_both (goes_to p u) (go_to ps us) t)
    (subst (λ (m : Memory). AllFit m us vs) (sym i.memory) n.1) (record { scope = i.scope; stacks = i.stacks; memory = refl }))

-- what was known before the parameters is known with them
before_bound : (ps : List ParameterKind) (ks : List Kind) (d : Stack) (s : State) → StacksFit (with_iters (iters_bound ps ks) d) s
    → StacksFit (with_iters ks d) s
before_bound [] ks d s h = h
before_bound (parameters.Value ty ∷ ps) ks d s h = before_bound ps ks d s h
before_bound (parameters.Reference ty ∷ ps) ks d s h = before_bound ps ks d s h
before_bound (parameters.Container access x ∷ ps) ks d s h = before_bound ps ks d s h
before_bound (parameters.Iterator b x ∷ ps) ks d s h =
    fewer_iters (with_iters ks d) (iterator_of x ∷ []) s.memory s.iters (before_bound ps (ks ++ iterator_of x ∷ []) d s h)

-- the bodies of a text's functions give what is of the type of the function, where they start with their parameters alone in scope
abbrev BodiesFit : Typed → Oracle → Type 0
BodiesFit p own = (f : ℕ) (h : Function) (at : Place) (d : Stack) (s : State) → slice_get p.functions f ≡ Some h
    → ScopeFits (level_of s) (with_parameters h.parameters (no_variables p)) d.conts d.iters → Now (level_of s) d.used s
    → counts_of s.frame ≡ counts_with h.parameters no_counts → StacksFit d s → OutFits d (type_given h.result) (own f at s)

-- coming back from a body: what lies on the caller's stacks is of its types
fit_back : (due : Option ParameterKind) (ps : List ParameterKind) (d : Stack) (before : State) (o : Out)
    → length d.conts ≡ length before.memory.conts → length d.iters ≡ length before.iters
    → OutFits (with_iters (iters_bound ps d.iters) d) (type_given due) o → OutFits d (type_given due) (come_back before o)
fit_back due ps d before (Gives v s) conts iters h = (
  given_ended due 0 (length before.memory.conts) s.memory v h.0,
  end-fits d 0 (length before.memory.conts) (length before.iters) s.memory s.iters conts iters (before_bound ps d.iters d s h.1),
)
fit_back due ps d before (Stops e s) conts iters h = h

-- what fits from a state on fits from before
fit_from : (d : Stack) (s : State) (u : ExprType) (o : Out) → d.used ≤ s.memory.fresh → StacksFit d s → OutFits (from_now d s) u o → OutFits d u o
fit_from d s u (Gives v t) less h i = (i.0, then-fits d s t less h i.1)
fit_from d s u (Stops e t) less h i = i

-- so each call gives what is of the type of its function
own-fits : (p : Typed) (w : World) (sig : Signature) → sig.functions ≡ p.functions → TakesParameters sig w → BodiesFit p w.own
    → OwnFits sig w
own-fits p w sig same takes bodies f h at L d gifts us vs s there suit apart given goes typed fits conts iters stacks =
    subst (λ (ks : List ParameterKind). OutFits d (type_given h.result) (come_back s (w.own f at (bound ks vs s)))) (sym (takes f h there))
    (fit_from d s (type_given h.result) (come_back s (w.own f at (bound h.parameters vs s))) given.now.later stacks
    (fit_back h.result h.parameters (from_now d s) s (w.own f at (bound h.parameters vs s)) conts_here iters_here
    (let start = at_bound L s.memory.fresh h.parameters gifts vs s suit given.given given.used apart (now_again L d.used s given.now) in
    bodies f h at (with_iters (iters_bound h.parameters d.iters) (from_now d s)) (bound h.parameters vs s)
    (subst (λ (fs : List Function). slice_get fs f ≡ Some h) same there) in_body.scope
    (record { good = start.0.good; level = refl; later = start.0.later }) start.1 in_body.stacks)))
  where
    conts_here : length d.conts ≡ length s.memory.conts
    conts_here = conts ∙ sym (ap (λ (l : Level). l.conts) given.now.level)

    iters_here : length d.iters ≡ length s.iters
    iters_here = iters ∙ sym (ap (λ (l : Level). l.iters) given.now.level)

    in_body : IsBound (with_parameters h.parameters (no_variables p)) (iters_bound h.parameters d.iters) (from_now d s) s.memory
        (bound h.parameters vs s)
    in_body = bind_kinds (from_now d s) (no_variables p) d.iters (record s { frame = no_frame }) h.parameters us vs goes fits (record {
      scope = record { scalars = tt; conts_high = conts_here; iters_high = iters_here; containers = tt; iterators = tt };
      stacks = now-fits d s stacks;
      memory = refl;
    })

-- a body that reached its closing brace
fit_fell : (d : Stack) (m : Bool) (f : Function) (s : State) → (m ≡ true → is_scalar t.Int (type_given f.result) ≡ true) → StacksFit d s
    → OutFits d (type_given f.result) (fell m f s)
fit_fell d true f s main h = (number_given (type_given f.result) (main refl), h)
  where
    number_given : (u : ExprType) → is_scalar t.Int u ≡ true → Fits s.memory u (number (pos 0))
    number_given (types.Scalar r) e = tt
    number_given (types.Element w) e = tt
    number_given u e = absurd (cc)
fit_fell d false f s main h = by_result f.result
  where
    by_result : (r : Option ParameterKind) → OutFits d (type_given r)
        (elim r as (λ _. Out) [ None ↦ Gives nothing s | Some k ↦ Stops (Language f.close 4) s ])
    by_result None = (tt, h)
    by_result (Some k) = tt

-- what a body gives
fit_given : (d : Stack) (m : Bool) (f : Function) (w : Flow) → (m ≡ true → is_scalar t.Int (type_given f.result) ≡ true)
    → FlowFits f.result d d w → OutFits d (type_given f.result) (body_gives m f w)
fit_given d m f (Returned v s) main h = h
fit_given d m f (Next s) main h = fit_fell d m f s main h
fit_given d m f (Broke s) main h = fit_fell d m f s main h
fit_given d m f (Continued s) main h = fit_fell d m f s main h
fit_given d m f (Over e s) main h = h

-- a typed function gives what is of its type and has a typed body
function_parts : (p : Typed) (h : Function) → is_typed_function p h ≡ true
    → (has_type (type_given h.result) ≡ true) × (is_typed_stmt (with_parameters h.parameters (no_variables p)) h.result false h.body ≡ true)
function_parts p h e = let g = with_parameters h.parameters (no_variables p) in
    let most = first_of_both (is_block h.body && has_type (type_given h.result) && is_within g) (is_typed_stmt g h.result false h.body) e in
    let two = first_of_both (is_block h.body && has_type (type_given h.result)) (is_within g) most in (
      second_of_both (is_block h.body) (has_type (type_given h.result)) two,
      second_of_both (is_block h.body && has_type (type_given h.result) && is_within g) (is_typed_stmt g h.result false h.body) e,
    )

module _ (l : Lib) (lib_fits : FitsTypes l) (shape : Callee → Shape) (makes_one : Callee → Bool)
    (lib_keeps : KeepsGood shape makes_one l) (p : Typed) (typed : WellTyped p) (scoped : IsScoped shape makes_one p) where
  -- the result of `main` is an int
  main_int : (f : ℕ) (h : Function) → slice_get p.functions f ≡ Some h → (f == p.main) ≡ true → is_scalar t.Int (type_given h.result) ≡ true
  main_int f h there e = let main = main_is_there p typed in
      let r : Some h ≡ Some main.function = sym there ∙ (ap (slice_get p.functions) (eqb-true f p.main e) ∙ main.there) in
      let same : h ≡ main.function = cc in subst (λ (x : Function). is_scalar t.Int (type_given x.result) ≡ true) (sym same) main.result

  -- over a library that fits types, each body of a well typed text's functions does
  fit_bodies : (k : ℕ) → BodiesFit p (call_of l k p)
  fit_bodies zero f h at d s there scope now counts stacks = tt
  fit_bodies (suc k) f h at d s there scope now counts stacks =
      subst (λ (o : Option Function). OutFits d (type_given h.result) (of_function (f == p.main) o (world_of l p (call_of l k p)) s)) (sym there)
      (let parts = function_parts p h (function_is_typed p typed f h there) in
      fit_given d (f == p.main) h (exec (world_of l p (call_of l k p)) h.body s) (main_int f h there)
      (fit_exec (world_of l p (call_of l k p)) (signature_of shape makes_one p) lib_keeps (at_call_of shape makes_one l lib_keeps p scoped k) lib_fits
      (own-fits p (world_of l p (call_of l k p)) (signature_of shape makes_one p) refl (λ n x e. ap parameters_in e) (fit_bodies k))
      h.result (shape_of_result h.result) parts.0 h.body false (level_of s) (with_parameters h.parameters (no_variables p)) d s
      (sym (functions_with_parameters h.parameters (no_variables p))) scope
      (subst (λ (c : Counts). InStmt (signature_of shape makes_one p) (shape_of_result h.result) c h.body) (sym counts) (scoped.bodies f h there))
      parts.1 now stacks))

  -- and so does each call
  pub fit_call_of : (k : ℕ) → OwnFits (signature_of shape makes_one p) (world_of l p (call_of l k p))
  fit_call_of k = own-fits p (world_of l p (call_of l k p)) (signature_of shape makes_one p) refl (λ n x e. ap parameters_in e) (fit_bodies k)
