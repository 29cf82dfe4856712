-- Where an iterator may come from: the containers of a function from which what is assigned to it was taken. A function is walked in
-- source order; each variable that it declares has its place in that order, parameters first, whatever is in scope.
--
-- Restates no section of ISO/IEC 14882:2017.
-- Chosen here: a call on a container gives what comes from it; an algorithm or an operator gives what comes from where its iterator
-- operands do; a call of a function of the text what comes from where its iterators do, and from its containers of the result's form.
use Rattle.std.specs.Prelude.{ℕ, ◌+◌, Bool, true, false, List, [], ◌∷◌, ◌++◌, slice_get, Option, Some, None, if◌then◌else◌}
use Rattle.sl_base.specs.declared.form.Form.{Form}
use Rattle.sl_specs.specs.declared.return_type.ReturnType.{ReturnType}
use Rattle.sl_specs.specs.declared.return_type.ReturnType.TheVariants as g
use Rattle.sl_specs.specs.Forms.{same_form}
use Rattle.sl_syntax.specs.declared.typed.callee.Callee.{Callee}
use Rattle.sl_syntax.specs.declared.typed.callee.Callee.TheVariants as callees
use Rattle.sl_syntax.specs.declared.typed.operator.Operator.TheVariants as operators
use Rattle.sl_syntax.specs.declared.typed.parameter.ParameterKind.{ParameterKind}
use Rattle.sl_syntax.specs.declared.typed.parameter.ParameterKind.TheVariants as parameter
use Rattle.sl_syntax.specs.Typed.{Expr, literal, held, iterator, convert, negate, logical_not, logical_and, logical_or, arithmetic, comparison}
use Rattle.sl_syntax.specs.Typed.{increment, move, call, own_call, first, second, container, handed_scalar, Left, scalar, reference, element}
use Rattle.sl_syntax.specs.Typed.{Operands, none, with, Printed, text, endline, number as printed_number}
use Rattle.sl_syntax.specs.Typed.{Typed}
use Rattle.sl_model.specs.Outlines.FactOperands.{table_row}
use Rattle.sl_model.specs.Outlines.FactsOfExpressions.{parameters_of}

-- what is declared at a place: for each number in scope the container's place in the order of declarations, and likewise the iterator's;
-- and how many were declared before, also those that have ended
pub record Declared : Type 0 where
  pub containers : List ℕ
  pub iterators : List ℕ
  pub containers_before : ℕ
  pub iterators_before : ℕ

-- nothing is declared
abbrev pub none_declared : Declared
none_declared = record { containers = []; iterators = []; containers_before = 0; iterators_before = 0 }

-- one container more
abbrev pub with_container : Declared → Declared
with_container d = record d { containers = d.containers ++ (d.containers_before ∷ []); containers_before = d.containers_before + 1 }

-- one iterator more, or one reference
abbrev pub with_iterator : Declared → Declared
with_iterator d = record d { iterators = d.iterators ++ (d.iterators_before ∷ []); iterators_before = d.iterators_before + 1 }

-- what is in scope again behind a scope
abbrev pub behind_scope : Declared → Declared → Declared
behind_scope before inner = record inner { containers = before.containers; iterators = before.iterators }

-- what an iterator is taken from: a container, or another iterator, by their places in the order of declarations
pub data Origin : Type 0 where
  from_container : ℕ → Origin
  from_iterator : ℕ → Origin

-- an iterator takes what comes from these
pub record Flow : Type 0 where
  pub to : ℕ
  pub from : List Origin

-- a call of a function of the text, and what is declared where it stands
pub record CallSite : Type 0 where
  pub callee : ℕ
  pub declared : Declared
  pub operands : Operands

-- what a number in scope is, as an origin
abbrev pub origin : (ℕ → Origin) → Option ℕ → List Origin
origin as_origin None = []
origin as_origin (Some n) = as_origin n ∷ []

-- the container with a number in scope
abbrev pub of_container : Declared → ℕ → List Origin
of_container d x = origin from_container (slice_get d.containers x)

-- the iterator with a number in scope
abbrev pub of_iterator : Declared → ℕ → List Origin
of_iterator d x = origin from_iterator (slice_get d.iterators x)

-- a call gives an iterator, or a pair with one
abbrev pub gives_iterator : ReturnType → Bool
gives_iterator g.Iterator = true
gives_iterator g.IteratorAndBool = true
gives_iterator g.IteratorPair = true
gives_iterator g.FirstArgument = true
gives_iterator g.Output = true
gives_iterator t = false

-- what is called gives an iterator
abbrev pub is_iterator_call : Callee → Bool
is_iterator_call (callees.Row n) = elim (table_row (callees.Row n)) [ None ↦ false | Some r ↦ gives_iterator r.gives ]
is_iterator_call (callees.Operator operators.Add) = true
is_iterator_call (callees.Operator operators.Subtract) = true
is_iterator_call callee = false

-- the form of the iterator that a function gives back
abbrev pub result_form : Typed → ℕ → Option Form
result_form p f = elim (slice_get p.functions f) [
  | None ↦ None
  | Some h ↦ elim h.result [
    | None ↦ None
    | Some k ↦ elim k [
      | parameter.Value ty ↦ None
      | parameter.Reference ty ↦ None
      | parameter.Container a form ↦ None
      | parameter.Iterator is_const form ↦ Some form
    ]
  ]
]

-- a container of the form that a function gives back an iterator of
abbrev pub container_of_form : Declared → Option Form → ParameterKind → Expr → List Origin
container_of_form d (Some form) (parameter.Container a f) (container x) = if same_form f form then of_container d x else []
container_of_form d form k e = []

-- the containers of that form among arguments
abbrev pub containers_of_form : Declared → Option Form → List ParameterKind → Operands → List Origin
containers_of_form d form (k ∷ ks) (with a rest) = container_of_form d form k a ++ containers_of_form d form ks rest
containers_of_form d form ks ops = []

-- where there is a result of iterator type
abbrev pub if_iterator : Option Form → List Origin → List Origin
if_iterator None from = []
if_iterator (Some form) from = from

unfoldable mutual
  -- what an expression's iterator comes from; one of another type comes from nothing
  pub origins : Typed → Declared → Expr → List Origin
  origins p d (iterator x) = of_iterator d x
  origins p d (move fix x h ops) = of_iterator d x
  origins p d (call h ops) =
      if is_iterator_call h.callee then elim h.object [ Some x ↦ of_container d x | None ↦ origins_of_all p d ops ] else []
  origins p d (own_call f at ops) =
      if_iterator (result_form p f) (origins_of_all p d ops ++ containers_of_form d (result_form p f) (parameters_of p f) ops)
  origins p d (first at a) = origins p d a
  origins p d (second at a) = origins p d a
  origins p d e = []

  -- what the iterators among operands come from
  pub origins_of_all : Typed → Declared → Operands → List Origin
  origins_of_all p d none = []
  origins_of_all p d (with a rest) = origins p d a ++ origins_of_all p d rest

unfoldable mutual
  -- the calls of functions of the text in an expression
  pub calls_in : Declared → Expr → List CallSite
  calls_in d (literal ty z) = []
  calls_in d (held l) = calls_in_left d l
  calls_in d (iterator x) = []
  calls_in d (convert ty a) = calls_in d a
  calls_in d (negate ty at a) = calls_in d a
  calls_in d (logical_not at a) = calls_in d a
  calls_in d (logical_and at a b) = calls_in d a ++ calls_in d b
  calls_in d (logical_or at a b) = calls_in d a ++ calls_in d b
  calls_in d (arithmetic op ty at a b) = calls_in d a ++ calls_in d b
  calls_in d (comparison op at a b) = calls_in d a ++ calls_in d b
  calls_in d (increment step fix ty at l) = calls_in_left d l
  calls_in d (move fix x h ops) = calls_in_all d ops
  calls_in d (call h ops) = calls_in_all d ops
  calls_in d (own_call f at ops) = calls_in_all d ops ++ (record { callee = f; declared = d; operands = ops } ∷ [])
  calls_in d (first at a) = calls_in d a
  calls_in d (second at a) = calls_in d a
  calls_in d (container x) = []
  calls_in d (handed_scalar x) = []

  -- those in a left side
  pub calls_in_left : Declared → Left → List CallSite
  calls_in_left d (scalar x at) = []
  calls_in_left d (reference r at name part) = []
  calls_in_left d (element h ops) = calls_in_all d ops

  -- those in operands
  pub calls_in_all : Declared → Operands → List CallSite
  calls_in_all d none = []
  calls_in_all d (with a rest) = calls_in d a ++ calls_in_all d rest

-- what a part of a function assigns and calls, and what is declared behind it
pub record Walked : Type 0 where
  pub flows : List Flow
  pub calls : List CallSite
  pub behind : Declared

-- nothing but these calls
abbrev pub walked_calls : Declared → List CallSite → Walked
walked_calls d calls = record { flows = []; calls = calls; behind = d }

-- one part, and another from what is declared behind it
abbrev pub then_walked : Walked → (Declared → Walked) → Walked
then_walked a next =
    let b = next a.behind in record { flows = a.flows ++ b.flows; calls = a.calls ++ b.calls; behind = b.behind }

-- a part that is a scope
abbrev pub scoped : Declared → Walked → Walked
scoped d a = record a { behind = behind_scope d a.behind }

-- the item of a print
abbrev pub calls_in_item : Declared → Printed → List CallSite
calls_in_item d (text bytes) = []
calls_in_item d endline = []
calls_in_item d (printed_number e) = calls_in d e

-- an iterator of the order of declarations takes what an expression gives
abbrev pub flow_to : Typed → Declared → Option ℕ → Expr → List Flow
flow_to p d None e = []
flow_to p d (Some n) e = record { to = n; from = origins p d e } ∷ []
