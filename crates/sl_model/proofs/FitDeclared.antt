-- What is known of the stacks behind a declaration: a scalar leaves it as it was, an iterator, a reference and a container add one.
use Rattle.std.proofs.Common.{◌≡◌, ℕ, ◌+◌, Bool, true, false, not, ◌||◌, List, [], ◌∷◌, ◌++◌, length, length-append, ◌∙◌, ap}
use Rattle.sl_base.specs.declared.form.Form.{Form}
use Rattle.sl_syntax.specs.declared.operator.Access.TheVariants as a
use Rattle.sl_syntax.specs.declared.typed.head.Head.{Head}
use Rattle.sl_syntax.specs.Typed.{Operands, element, Declaration, unset_scalar, set_scalar, set_iterator, binds_reference, makes, First, no_first}
use Rattle.sl_syntax.specs.Typed.{declares_first, does_first}
use Rattle.sl_typing.specs.declared.expr_type.ExprType.{ExprType}
use Rattle.sl_typing.specs.declared.expr_type.ExprType.TheVariants as types
use Rattle.sl_typing.specs.Types.{has_type, only, is_iterator}
use Rattle.sl_model.specs.Memory.Containers.{Memory}
use Rattle.sl_model.specs.Runs.State.{State, Pointer}
use Rattle.sl_model.specs.Typing.WellTypedScopes.{Scope}
use Rattle.sl_model.specs.Typing.WellTypedCalls.{call_type}
use Rattle.sl_model.specs.Typing.WellTypedExpressions.{only_element, is_arrow, is_variable, type_of, type_of_left, types_of}
use Rattle.sl_model.specs.Typing.WellTypedStatements.{is_typed_declaration, reference_to, behind, is_typed_first, behind_first}
use Rattle.sl_model.proofs.Getting.{get_left, get_within}
use Rattle.sl_model.proofs.Levels.{Level}
use Rattle.sl_model.proofs.GoodEffects.{level_declared, level_begun}
use Rattle.sl_model.proofs.StackTypes.{Kind, iterator_of, a_reference, Stack, Lies, StacksFit, IterFits, ScopeFits}
use Rattle.sl_model.proofs.StackScopes.{conts_new, iters_new, numbers_with, last_there}

-- the kind of an iterator of a type, and that of a reference for what is none
abbrev pub kind_in : ExprType → Kind
kind_in (types.Iterator b form) = iterator_of form
kind_in u = a_reference

-- the forms behind a declaration
abbrev pub conts_declared : Declaration → List Form → List Form
conts_declared (makes form h ops) fs = fs ++ form ∷ []
conts_declared d fs = fs

-- the kinds behind it
abbrev pub iters_declared : Scope → Declaration → List Kind → List Kind
iters_declared g (set_iterator e) ks = ks ++ kind_in (type_of g e) ∷ []
iters_declared g (binds_reference h ops) ks = ks ++ a_reference ∷ []
iters_declared g d ks = ks

-- what is known behind it
abbrev pub stack_declared : Scope → Declaration → Stack → Stack
stack_declared g x d = record d { conts = conts_declared x d.conts; iters = iters_declared g x d.iters }

-- the forms behind the first part of a `for`
abbrev pub conts_begun : First → List Form → List Form
conts_begun (declares_first x) fs = conts_declared x fs
conts_begun head fs = fs

-- the kinds behind it
abbrev pub iters_begun : Scope → First → List Kind → List Kind
iters_begun g (declares_first x) ks = iters_declared g x ks
iters_begun g head ks = ks

-- what is known behind it
abbrev pub stack_begun : Scope → First → Stack → Stack
stack_begun g head d = record d { conts = conts_begun head d.conts; iters = iters_begun g head d.iters }

-- what is known beside more iterators is known
pub fewer_iters : (d : Stack) (more : List Kind) (m : Memory) (held : List Pointer) → Lies (record d { iters = d.iters ++ more }) m held
    → Lies d m held
fewer_iters d more m held h = record {
  conts = h.conts;
  iters = λ l k e. h.iters l k (get_left d.iters more l (get_within d.iters l k e) ∙ e);
  fit = h.fit;
}

-- and so is what is known beside more containers
pub fewer_conts : (d : Stack) (more : List Form) (m : Memory) (held : List Pointer) → Lies (record d { conts = d.conts ++ more }) m held
    → Lies d m held
fewer_conts d more m held h = record {
  conts = λ l form e. h.conts l form (get_left d.conts more l (get_within d.conts l form e) ∙ e);
  iters = h.iters;
  fit = h.fit;
}

-- what was known before a declaration is known behind it
pub before_declared : (g : Scope) (x : Declaration) (d : Stack) (s : State) → StacksFit (stack_declared g x d) s → StacksFit d s
before_declared g (unset_scalar ty) d s h = h
before_declared g (set_scalar ty e) d s h = h
before_declared g (set_iterator e) d s h = fewer_iters d (kind_in (type_of g e) ∷ []) s.memory s.iters h
before_declared g (binds_reference hd ops) d s h = fewer_iters d (a_reference ∷ []) s.memory s.iters h
before_declared g (makes form hd ops) d s h = fewer_conts d (form ∷ []) s.memory s.iters h

-- and behind the first part of a `for`
pub before_begun : (g : Scope) (head : First) (d : Stack) (s : State) → StacksFit (stack_begun g head d) s → StacksFit d s
before_begun g no_first d s h = h
before_begun g (declares_first x) d s h = before_declared g x d s h
before_begun g (does_first e) d s h = h

-- an iterator that comes into scope is of its kind
new_kind : (ks : List Kind) (u : ExprType) (n : ℕ) → is_iterator u ≡ true → length ks ≡ n → IterFits (ks ++ kind_in u ∷ []) u n
new_kind ks (types.Iterator b form) n t e = last_there ks (iterator_of form) n e
new_kind ks u n t e = absurd (cc)

-- a reference is
new_reference : (ks : List Kind) (b : Bool) (u : ExprType) (n : ℕ) → has_type (only b (only_element u)) ≡ true → length ks ≡ n
    → IterFits (ks ++ a_reference ∷ []) (reference_to (only b (only_element u))) n
new_reference ks true (types.Element w) n t e = last_there ks a_reference n e
new_reference ks false u n t e = absurd (cc)
new_reference ks true u n t e = absurd (cc)

-- so is one to what a left side stands for
new_bound : (g : Scope) (ks : List Kind) (hd : Head) (ops : Operands) (n : ℕ) → has_type (type_of_left g (element hd ops)) ≡ true → length ks ≡ n
    → IterFits (ks ++ a_reference ∷ []) (reference_to (type_of_left g (element hd ops))) n
unfolding type_of_left
new_bound g ks hd ops n t e =
    new_reference ks (not (is_arrow hd.callee) || is_variable ops) (call_type g hd.callee hd.object (types_of g ops)) n t e

-- as many as a height, with one more
pub one_higher : {A : Type 0} (xs : List A) (x : A) (n : ℕ) → length xs ≡ n → length (xs ++ x ∷ []) ≡ n + 1
one_higher xs x n e = length-append xs (x ∷ []) ∙ ap (λ (k : ℕ). k + 1) e

-- what is in scope behind a declaration is where its type says
pub scope_declared : (L : Level) (g : Scope) (fs : List Form) (ks : List Kind) (x : Declaration) → is_typed_declaration g x ≡ true
    → ScopeFits L g fs ks → ScopeFits (level_declared x L) (behind x g) (conts_declared x fs) (iters_declared g x ks)
scope_declared L g fs ks (unset_scalar ty) t q = record {
  scalars = numbers_with g.scalars ty q.scalars;
  conts_high = q.conts_high;
  iters_high = q.iters_high;
  containers = q.containers;
  iterators = q.iterators;
}
scope_declared L g fs ks (set_scalar ty e) t q = record {
  scalars = numbers_with g.scalars ty q.scalars;
  conts_high = q.conts_high;
  iters_high = q.iters_high;
  containers = q.containers;
  iterators = q.iterators;
}
scope_declared L g fs ks (set_iterator e) t q = record {
  scalars = q.scalars;
  conts_high = q.conts_high;
  iters_high = one_higher ks (kind_in (type_of g e)) L.iters q.iters_high;
  containers = q.containers;
  iterators = iters_new ks g.iterators L.frame.iters (kind_in (type_of g e)) (type_of g e) L.iters
      (new_kind ks (type_of g e) L.iters t q.iters_high) q.iterators;
}
scope_declared L g fs ks (binds_reference hd ops) t q = record {
  scalars = q.scalars;
  conts_high = q.conts_high;
  iters_high = one_higher ks a_reference L.iters q.iters_high;
  containers = q.containers;
  iterators = iters_new ks g.iterators L.frame.iters a_reference (reference_to (type_of_left g (element hd ops))) L.iters
      (new_bound g ks hd ops L.iters t q.iters_high) q.iterators;
}
scope_declared L g fs ks (makes form hd ops) t q = record {
  scalars = q.scalars;
  conts_high = one_higher fs form L.conts q.conts_high;
  iters_high = q.iters_high;
  containers = conts_new fs g.containers L.frame.conts form (types.Container a.Whole form) L.conts (last_there fs form L.conts q.conts_high)
      q.containers;
  iterators = q.iterators;
}

-- what the first part of a `for` declares is typed
pub first_declared : (g : Scope) (x : Declaration) → is_typed_first g (declares_first x) ≡ true → is_typed_declaration g x ≡ true
first_declared g (set_scalar s e) h = h
first_declared g (set_iterator e) h = h
first_declared g x h = absurd (cc)

-- what is in scope behind the first part of a `for` is where its type says
pub scope_begun : (L : Level) (g : Scope) (fs : List Form) (ks : List Kind) (head : First) → is_typed_first g head ≡ true → ScopeFits L g fs ks
    → ScopeFits (level_begun head L) (behind_first head g) (conts_begun head fs) (iters_begun g head ks)
scope_begun L g fs ks no_first t q = q
scope_begun L g fs ks (declares_first x) t q = scope_declared L g fs ks x (first_declared g x t) q
scope_begun L g fs ks (does_first e) t q = q
