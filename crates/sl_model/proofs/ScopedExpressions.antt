-- An expression that has a type uses what is in scope, and its calls of the text's own get what suits them.
use Rattle.std.proofs.Common.{◌≡◌, ℕ, zero, suc, ◌==◌, Bool, true, false, not, ◌&&◌, ◌||◌, List, [], ◌∷◌, ◌++◌, Option, Some, None}
use Rattle.std.proofs.Common.{refl, subst, sym}
use Rattle.std.proofs.lemmas.Bool.{eq-eqb, or_left, or_right}
use Rattle.std.specs.Prelude.{slice_get, flat_map}
use Rattle.std.specs.List.{list_all}
use Rattle.sl_base.specs.declared.place.Place.{Place}
use Rattle.sl_syntax.specs.declared.operator.Access.TheVariants as a
use Rattle.sl_syntax.specs.declared.typed.callee.Callee.{Callee}
use Rattle.sl_syntax.specs.declared.typed.head.Head.{Head}
use Rattle.sl_syntax.specs.declared.typed.parameter.ParameterKind.{ParameterKind}
use Rattle.sl_syntax.specs.declared.typed.parameter.ParameterKind.TheVariants as parameters
use Rattle.sl_syntax.specs.Typed.{Expr, literal, held, iterator, convert, negate, logical_not, logical_and, logical_or, arithmetic, comparison}
use Rattle.sl_syntax.specs.Typed.{increment, move, call, own_call, first, second, container, handed_scalar, Left, scalar, reference, element}
use Rattle.sl_syntax.specs.Typed.{Operands, none, with, Function, Typed}
use Rattle.sl_typing.specs.declared.expr_type.ExprType.{ExprType}
use Rattle.sl_typing.specs.declared.expr_type.ExprType.TheVariants as types
use Rattle.sl_typing.specs.Types.{has_type, is_scalar, is_number}
use Rattle.sl_model.specs.LibraryCalls.Values.{Shape, an_element}
use Rattle.sl_model.specs.Runs.Good.{AreApart}
use Rattle.sl_model.specs.Typing.Shapes.{Gift, HasParts, gift_of, gifts_of, Suits, AllSuit, container_in, containers_in}
use Rattle.sl_model.specs.Typing.Shapes.{lib_shape}
use Rattle.sl_model.specs.Typing.Scoped.{HasObject, IsCall, InExpr, InLeft, InOperands}
use Rattle.sl_model.specs.Typing.WellTypedScopes.{Scope, variable_type}
use Rattle.sl_model.specs.Typing.WellTypedCalls.{call_type}
use Rattle.sl_model.specs.Typing.WellTypedExpressions.{only_element, type_of_first, type_of_second, goes_to, go_to, type_given, function_type, is_arrow}
use Rattle.sl_model.specs.Typing.WellTypedExpressions.{is_variable, type_of, type_of_left, types_of}
use Rattle.sl_model.specs.Typing.WellTypedNodes.{Node, nodes_in, nodes_in_left, nodes_in_operands}
use Rattle.sl_model.specs.Typing.WellTypedOrder.{Variable, the_scalar as scalar_bound, the_container as container_bound, the_iterator as iterator_bound}
use Rattle.sl_model.specs.Typing.WellTypedOrder.{is_among, are_apart, bound_in, listed, binds_apart}
use Rattle.sl_model.proofs.Passing.{first_of_both, second_of_both, both_lists}
use Rattle.sl_model.proofs.TypedNumbers.{variable_is_there}
use Rattle.sl_model.proofs.TypedOperands.{typed_by, only_holds, only_rest, all_typed}
use Rattle.sl_model.proofs.TypedCalls.{call_known}
use Rattle.sl_model.proofs.TypedParts.{held_typed, converted_number, negated_number, inverted_number, numbers_of_and, numbers_of_or}
use Rattle.sl_model.proofs.TypedParts.{calculated_numbers, compared_numbers, stepped_number, moving_call, value_call, element_call, function_call}
use Rattle.sl_model.proofs.TypedParts.{first_stands, second_stands, iterator_there, container_there, handed_there, scalar_there, reference_there}
use Rattle.sl_model.proofs.TypedExpressions.{comparable_first, comparable_second, function_known}
use Rattle.sl_model.proofs.TypedVariables.{object_typed}
use Rattle.sl_model.proofs.ScopedRows.{IsShaped}
use Rattle.sl_model.proofs.ScopedCalls.{call_shaped, moving_shape, call_makes_none}
use Rattle.sl_model.proofs.ScopedGifts.{lib_signature, scope_counts, KnowsText, HasGift, expression_gift}

-- no call of the text's own among these nodes binds a variable twice
abbrev pub AreFree : List Node → Type 0
AreFree nodes = list_all binds_apart nodes ≡ true

-- so it is in the first of two parts
pub free_before : (xs ys : List Node) → AreFree (xs ++ ys) → AreFree xs
free_before xs ys h = first_of_both (list_all binds_apart xs) (list_all binds_apart ys) (both_lists binds_apart xs ys h)

-- and in the second
pub free_behind : (xs ys : List Node) → AreFree (xs ++ ys) → AreFree ys
free_behind xs ys h = second_of_both (list_all binds_apart xs) (list_all binds_apart ys) (both_lists binds_apart xs ys h)

-- the numbers of the containers among variables
abbrev containers_at : List Variable → List ℕ
containers_at [] = []
containers_at (container_bound x ∷ vs) = x ∷ containers_at vs
containers_at (v ∷ vs) = containers_at vs

-- a container whose number is among these is among the variables
among_these : (vs : List Variable) (i x : ℕ) → slice_get (containers_at vs) i ≡ Some x → is_among (container_bound x) vs ≡ true
among_these [] i x e = absurd cc
among_these (scalar_bound y ∷ vs) i x e = among_these vs i x e
among_these (iterator_bound y ∷ vs) i x e = among_these vs i x e
among_these (container_bound y ∷ vs) zero x e =
    let same : x ≡ y = cc in or_left (x == y) (is_among (container_bound x) vs) (eq-eqb x y same)
among_these (container_bound y ∷ vs) (suc i) x e = or_right (x == y) (is_among (container_bound x) vs) (among_these vs i x e)

-- a number is none of these
abbrev IsNone : ℕ → List ℕ → Type 0
IsNone z xs = (i : ℕ) → slice_get xs i ≡ Some z → ⊥

-- a container that isn't among variables is none of theirs
none_among : (vs : List Variable) (z : ℕ) → not (is_among (container_bound z) vs) ≡ true → IsNone z (containers_at vs)
none_among vs z h i e = at (is_among (container_bound z) vs) (among_these vs i z e) h
  where
    at : (b : Bool) → b ≡ true → not b ≡ true → ⊥
    at true k n = absurd cc
    at false k n = absurd cc

-- numbers that are apart stay so with one that is none of them
one_more_apart : (z : ℕ) (xs : List ℕ) → IsNone z xs → AreApart xs → AreApart (z ∷ xs)
one_more_apart z xs other apart zero zero at e k = refl
one_more_apart z xs other apart zero (suc y) at e k =
    let same : at ≡ z = cc in absurd (other y (subst (λ (w : ℕ). slice_get xs y ≡ Some w) same k))
one_more_apart z xs other apart (suc x) zero at e k =
    let same : at ≡ z = cc in absurd (other x (subst (λ (w : ℕ). slice_get xs x ≡ Some w) same e))
one_more_apart z xs other apart (suc x) (suc y) at e k = let same = apart x y at e k in cc

-- the containers among variables of which none is twice are apart
containers_apart : (vs : List Variable) → are_apart vs ≡ true → AreApart (containers_at vs)
containers_apart [] h = λ x y at e k. absurd cc
containers_apart (scalar_bound z ∷ vs) h = containers_apart vs (second_of_both (not (is_among (scalar_bound z) vs)) (are_apart vs) h)
containers_apart (iterator_bound z ∷ vs) h = containers_apart vs (second_of_both (not (is_among (iterator_bound z) vs)) (are_apart vs) h)
containers_apart (container_bound z ∷ vs) h =
    one_more_apart z (containers_at vs) (none_among vs z (first_of_both (not (is_among (container_bound z) vs)) (are_apart vs) h))
    (containers_apart vs (second_of_both (not (is_among (container_bound z) vs)) (are_apart vs) h))

-- the container that an operand gives is the one that it binds
container_same : (p : Typed) (e : Expr) (xs : List ℕ) (vs : List Variable) → xs ≡ containers_at vs
    → (container_in (gift_of (lib_signature p) e) ++ xs) ≡ containers_at (bound_in e ++ vs)
container_same p (container x) xs vs h = cc
container_same p (handed_scalar x) xs vs h = h
container_same p e xs vs h = h

-- the containers that operands give are those that they bind
containers_same : (p : Typed) (ops : Operands)
    → containers_in (gifts_of (lib_signature p) ops) ≡ containers_at (flat_map bound_in (listed ops))
containers_same p none = refl
containers_same p (with e rest) = container_same p e (containers_in (gifts_of (lib_signature p) rest)) (flat_map bound_in (listed rest))
    (containers_same p rest)

-- operands of which none binds what another does give containers that are apart
gifts_apart : (p : Typed) (ops : Operands) → are_apart (flat_map bound_in (listed ops)) ≡ true
    → AreApart (containers_in (gifts_of (lib_signature p) ops))
gifts_apart p ops h = subst AreApart (sym (containers_same p ops)) (containers_apart (flat_map bound_in (listed ops)) h)

-- what goes to a parameter suits it
type_suits : (k : ParameterKind) (u : ExprType) (gift : Gift) → HasGift u gift → goes_to k u ≡ true → Suits k gift
type_suits (parameters.Value s) (types.Scalar r) gift e h = subst (Suits (parameters.Value s)) (sym e) tt
type_suits (parameters.Value s) (types.Element w) gift e h = subst (Suits (parameters.Value s)) (sym e) tt
type_suits (parameters.Value s) u gift e h = absurd cc
type_suits (parameters.Reference s) (types.Handed r) gift e h = subst (Suits (parameters.Reference s)) (sym e.1) tt
type_suits (parameters.Reference s) u gift e h = absurd cc
type_suits (parameters.Container a.Const x) (types.Container access y) gift e h = subst (Suits (parameters.Container a.Const x)) (sym e.1) tt
type_suits (parameters.Container a.Const x) u gift e h = absurd cc
type_suits (parameters.Container a.Whole x) (types.Container access y) gift e h = subst (Suits (parameters.Container a.Whole x)) (sym e.1) tt
type_suits (parameters.Container a.Whole x) u gift e h = absurd cc
type_suits (parameters.Container a.Elements x) (types.Container access y) gift e h = subst (Suits (parameters.Container a.Elements x)) (sym e.1) tt
type_suits (parameters.Container a.Elements x) u gift e h = absurd cc
type_suits (parameters.Iterator b x) (types.Iterator d y) gift e h = subst (Suits (parameters.Iterator b x)) (sym e) tt
type_suits (parameters.Iterator b x) u gift e h = absurd cc

-- operands of these types give these
abbrev HaveGifts : List ExprType → List Gift → Type 0
HaveGifts [] [] = Unit {0}
HaveGifts (u ∷ us) (gift ∷ gifts) = HasGift u gift × HaveGifts us gifts
HaveGifts us gifts = ⊥

-- operands that have types give what these say
operands_gifts : (p : Typed) (g : Scope) (ops : Operands) → KnowsText p g → all_typed (types_of g ops) ≡ true
    → HaveGifts (types_of g ops) (gifts_of (lib_signature p) ops)
unfolding types_of
operands_gifts p g none k h = tt
operands_gifts p g (with e rest) k h = (
  expression_gift p g e k (first_of_both (has_type (type_of g e)) (all_typed (types_of g rest)) h),
  operands_gifts p g rest k (second_of_both (has_type (type_of g e)) (all_typed (types_of g rest)) h),
)

-- what goes to parameters suits them
all_suit : (ks : List ParameterKind) (us : List ExprType) (gifts : List Gift) → HaveGifts us gifts → go_to ks us ≡ true → AllSuit ks gifts
all_suit [] [] [] e h = tt
all_suit [] [] (gift ∷ gifts) e h = absurd e
all_suit [] (u ∷ us) gifts e h = absurd cc
all_suit (k ∷ ks) [] gifts e h = absurd cc
all_suit (k ∷ ks) (u ∷ us) [] e h = absurd e
all_suit (k ∷ ks) (u ∷ us) (gift ∷ gifts) e h = (
  type_suits k u gift e.0 (first_of_both (goes_to k u) (go_to ks us) h),
  all_suit ks us gifts e.1 (second_of_both (goes_to k u) (go_to ks us) h),
)

-- the operands suit the function that is found
abbrev FoundSuits : Option Function → List Gift → Type 0
FoundSuits found gifts = elim found as (λ _. Type 0) [ None ↦ ⊥ | Some h ↦ AllSuit h.parameters gifts ]

-- they do where its call has a type
found_suits : (b : Bool) (found : Option Function) (us : List ExprType) (gifts : List Gift) → HaveGifts us gifts
    → has_type (function_type b found us) ≡ true → FoundSuits found gifts
found_suits b None us gifts e h = absurd cc
found_suits b (Some f) us gifts e h = all_suit f.parameters us gifts e
    (second_of_both b (go_to f.parameters us) (only_holds (b && go_to f.parameters us) (type_given f.result) h))

-- the object of a call that has a type is in scope
object_scoped : (g : Scope) (callee : Callee) (object : Option ℕ) (us : List ExprType) → has_type (call_type g callee object us) ≡ true
    → HasObject (scope_counts g) object
object_scoped g callee None us h = tt
object_scoped g callee (Some x) us h = variable_is_there g.containers x (object_typed g callee x us h)

-- such a call makes no container and has its object in scope
call_scoped : (p : Typed) (g : Scope) (c : Head) (us : List ExprType) → has_type (call_type g c.callee c.object us) ≡ true
    → IsCall (lib_signature p) (scope_counts g) false c
call_scoped p g c us h = (call_makes_none g c.callee c.object us h, object_scoped g c.callee c.object us h)

-- what is an element has its shape
element_shape : (u : ExprType) (shape : Shape) → IsShaped u shape → has_type (only_element u) ≡ true → shape ≡ an_element
element_shape (types.Element w) shape e h = e
element_shape u shape e h = absurd cc

-- a call that gives an element gives the place of one
place_shape : (g : Scope) (c : Head) (ops : Operands) → has_type (type_of_left g (element c ops)) ≡ true → lib_shape c.callee ≡ an_element
unfolding type_of_left
place_shape g c ops h =
    let u = call_type g c.callee c.object (types_of g ops) in
    element_shape u (lib_shape c.callee) (call_shaped g c.callee c.object (types_of g ops) (element_call g c ops h))
    (only_rest (not (is_arrow c.callee) || is_variable ops) (only_element u) h)

-- that of which `.first` is taken has two parts
first_parts : (u : ExprType) (gift : Gift) → HasGift u gift → has_type (type_of_first u) ≡ true → HasParts gift
first_parts (types.IteratorAndBool x) gift e h = subst HasParts (sym e) tt
first_parts (types.IteratorPair b x) gift e h = subst HasParts (sym e) tt
first_parts u gift e h = absurd cc

-- so has that of which `.second` is
second_parts : (u : ExprType) (gift : Gift) → HasGift u gift → has_type (type_of_second u) ≡ true → HasParts gift
second_parts (types.IteratorAndBool x) gift e h = subst HasParts (sym e) tt
second_parts (types.IteratorPair b x) gift e h = subst HasParts (sym e) tt
second_parts u gift e h = absurd cc

-- a pair has parts where one is taken
first_has : (g : Scope) (at : Place) (e : Expr) → has_type (type_of g (first at e)) ≡ true → has_type (type_of_first (type_of g e)) ≡ true
unfolding type_of
first_has g at e h = h

-- the same of the second
second_has : (g : Scope) (at : Place) (e : Expr) → has_type (type_of g (second at e)) ≡ true → has_type (type_of_second (type_of g e)) ≡ true
unfolding type_of
second_has g at e h = h

mutual
  unfolding nodes_in nodes_in_left nodes_in_operands types_of

  -- an expression that has a type uses what is in scope
  pub expression-scoped : (p : Typed) (g : Scope) (e : Expr) → KnowsText p g → AreFree (nodes_in e) → has_type (type_of g e) ≡ true
      → InExpr (lib_signature p) (scope_counts g) e
  expression-scoped p g (literal s z) k n h = tt
  expression-scoped p g (held l) k n h = left-scoped p g l k n (held_typed g l h)
  expression-scoped p g (iterator x) k n h = variable_is_there g.iterators x (iterator_there g x h)
  expression-scoped p g (convert s e) k n h = expression-scoped p g e k n (typed_by is_number refl (type_of g e) (converted_number g s e h))
  expression-scoped p g (negate s at e) k n h =
      let parts = negated_number g s at e h in expression-scoped p g e k n (typed_by (is_scalar s) refl (type_of g e) parts.1)
  expression-scoped p g (logical_not at e) k n h =
      expression-scoped p g e k n (typed_by is_number refl (type_of g e) (inverted_number g at e h))
  expression-scoped p g (logical_and at d e) k n h = let parts = numbers_of_and g at d e h in (
    expression-scoped p g d k (free_before (nodes_in d) (nodes_in e) n) (typed_by is_number refl (type_of g d) parts.0),
    expression-scoped p g e k (free_behind (nodes_in d) (nodes_in e) n) (typed_by is_number refl (type_of g e) parts.1),
  )
  expression-scoped p g (logical_or at d e) k n h = let parts = numbers_of_or g at d e h in (
    expression-scoped p g d k (free_before (nodes_in d) (nodes_in e) n) (typed_by is_number refl (type_of g d) parts.0),
    expression-scoped p g e k (free_behind (nodes_in d) (nodes_in e) n) (typed_by is_number refl (type_of g e) parts.1),
  )
  expression-scoped p g (arithmetic op s at d e) k n h = let parts = calculated_numbers g op s at d e h in (
    expression-scoped p g d k (free_before (nodes_in d) (nodes_in e) n) (typed_by (is_scalar s) refl (type_of g d) parts.1),
    expression-scoped p g e k (free_behind (nodes_in d) (nodes_in e) n) (typed_by (is_scalar s) refl (type_of g e) parts.2),
  )
  expression-scoped p g (comparison op at d e) k n h = let alike = compared_numbers g op at d e h in (
    expression-scoped p g d k (free_before (nodes_in d) (nodes_in e) n) (comparable_first (type_of g d) (type_of g e) alike),
    expression-scoped p g e k (free_behind (nodes_in d) (nodes_in e) n) (comparable_second (type_of g d) (type_of g e) alike),
  )
  expression-scoped p g (increment step fix s at l) k n h =
      let parts = stepped_number g step fix s at l h in left-scoped p g l k n (typed_by (is_scalar s) refl (type_of_left g l) parts.1)
  expression-scoped p g (move fix x c ops) k n h =
      let u = variable_type g.iterators x in let parts = moving_call g fix x c ops h in
      let known = call_known g c.callee c.object (u ∷ types_of g ops) parts.1 in (
        variable_is_there g.iterators x (first_of_both (has_type u) (all_typed (types_of g ops)) known.0),
        (
          moving_shape c.callee parts.0,
          (
            call_scoped p g c (u ∷ types_of g ops) parts.1,
            operands-scoped p g ops k n (second_of_both (has_type u) (all_typed (types_of g ops)) known.0),
          ),
        ),
      )
  expression-scoped p g (call c ops) k n h =
      let parts = value_call g c ops h in let known = call_known g c.callee c.object (types_of g ops) parts.1 in
      (call_scoped p g c (types_of g ops) parts.1, operands-scoped p g ops k n known.0)
  expression-scoped p g (own_call f at ops) k n h =
      let typed = function_call g f at ops h in
      let known = function_known g.functions f (not (f == g.main)) (slice_get g.functions f) (types_of g ops) refl typed in
      let gifts = operands_gifts p g ops k known.0 in
      let apart = first_of_both (are_apart (flat_map bound_in (listed ops))) (list_all binds_apart (nodes_in_operands ops)) n in
      let others = second_of_both (are_apart (flat_map bound_in (listed ops))) (list_all binds_apart (nodes_in_operands ops)) n in (
        (
          subst (λ (fs : List Function). FoundSuits (slice_get fs f) (gifts_of (lib_signature p) ops)) k.functions
              (found_suits (not (f == g.main)) (slice_get g.functions f) (types_of g ops) (gifts_of (lib_signature p) ops) gifts typed),
          gifts_apart p ops apart,
        ),
        operands-scoped p g ops k others known.0,
      )
  expression-scoped p g (first at e) k n h = let typed = first_stands g at e h in (
    first_parts (type_of g e) (gift_of (lib_signature p) e) (expression_gift p g e k typed) (first_has g at e h),
    expression-scoped p g e k n typed,
  )
  expression-scoped p g (second at e) k n h = let typed = second_stands g at e h in (
    second_parts (type_of g e) (gift_of (lib_signature p) e) (expression_gift p g e k typed) (second_has g at e h),
    expression-scoped p g e k n typed,
  )
  expression-scoped p g (container x) k n h = variable_is_there g.containers x (container_there g x h)
  expression-scoped p g (handed_scalar x) k n h = variable_is_there g.scalars x (handed_there g x h)

  -- so does a left side
  pub left-scoped : (p : Typed) (g : Scope) (l : Left) → KnowsText p g → AreFree (nodes_in_left l) → has_type (type_of_left g l) ≡ true
      → InLeft (lib_signature p) (scope_counts g) l
  left-scoped p g (scalar x at) k n h = variable_is_there g.scalars x (scalar_there g x at h)
  left-scoped p g (reference x at name part) k n h = variable_is_there g.iterators x (reference_there g x at name part h)
  left-scoped p g (element c ops) k n h =
      let typed = element_call g c ops h in let known = call_known g c.callee c.object (types_of g ops) typed in
      (place_shape g c ops h, (call_scoped p g c (types_of g ops) typed, operands-scoped p g ops k n known.0))

  -- so do operands
  pub operands-scoped : (p : Typed) (g : Scope) (ops : Operands) → KnowsText p g → AreFree (nodes_in_operands ops)
      → all_typed (types_of g ops) ≡ true → InOperands (lib_signature p) (scope_counts g) ops
  operands-scoped p g none k n h = tt
  operands-scoped p g (with e rest) k n h = (
    expression-scoped p g e k (free_before (nodes_in e) (nodes_in_operands rest) n)
        (first_of_both (has_type (type_of g e)) (all_typed (types_of g rest)) h),
    operands-scoped p g rest k (free_behind (nodes_in e) (nodes_in_operands rest) n)
        (second_of_both (has_type (type_of g e)) (all_typed (types_of g rest)) h),
  )
