-- An expression that breaks no rule with its names, rows and sites as numbers.
--
-- Restates ISO/IEC 14882:2017, [conv.integral] and [conv.bool] where numbers meet, are handed over or stored: each conversion is a node.
-- Chosen here: parentheses are no node. A call tells the names of its object and of each argument, where they are plain names, as far as the last one.
use Rattle.std.specs.Prelude.{ℕ, ◌+◌, Bool, true, false, List, [], ◌∷◌, flat_map, map, ℤ, pos, Option, Some, None, codes, if◌then◌else◌}
use Rattle.std.specs.Str.{bytes_eq}
use Rattle.sl_base.specs.declared.place.Place.{Place}
use Rattle.sl_base.specs.declared.scalar.Scalar.{Scalar}
use Rattle.sl_base.specs.declared.scalar.Scalar.TheVariants as c
use Rattle.sl_specs.specs.declared.letter.Letter.{Letter}
use Rattle.sl_specs.specs.declared.letter.Letter.TheVariants as l
use Rattle.sl_specs.specs.declared.return_type.ReturnType.{ReturnType}
use Rattle.sl_specs.specs.declared.return_type.ReturnType.TheVariants as r
use Rattle.sl_syntax.specs.declared.operator.Arithmetic.{Arithmetic}
use Rattle.sl_syntax.specs.declared.operator.Arithmetic.TheVariants as o
use Rattle.sl_syntax.specs.declared.operator.BinaryOperator.{BinaryOperator}
use Rattle.sl_syntax.specs.declared.operator.BinaryOperator.TheVariants as b
use Rattle.sl_syntax.specs.declared.operator.PostfixOperator.{PostfixOperator}
use Rattle.sl_syntax.specs.declared.operator.PostfixOperator.TheVariants as q
use Rattle.sl_syntax.specs.declared.operator.PrefixOperator.{PrefixOperator}
use Rattle.sl_syntax.specs.declared.operator.PrefixOperator.TheVariants as p
use Rattle.sl_syntax.specs.declared.operator.Selector.{Selector}
use Rattle.sl_syntax.specs.declared.operator.Selector.TheVariants as selector
use Rattle.sl_syntax.specs.declared.typed.callee.Callee.{Callee}
use Rattle.sl_syntax.specs.declared.typed.callee.Callee.TheVariants as callees
use Rattle.sl_syntax.specs.declared.typed.element.ElementPart.{ElementPart}
use Rattle.sl_syntax.specs.declared.typed.element.ElementPart.TheVariants as parts
use Rattle.sl_syntax.specs.declared.typed.head.Head.{Head}
use Rattle.sl_syntax.specs.declared.typed.operator.Operator.{Operator}
use Rattle.sl_syntax.specs.declared.typed.operator.Operator.TheVariants as operators
use Rattle.sl_syntax.specs.declared.typed.parameter.ParameterKind.{ParameterKind}
use Rattle.sl_syntax.specs.declared.typed.parameter.ParameterKind.TheVariants as parameters
use Rattle.sl_syntax.specs.declared.typed.step.Fix.{Fix}
use Rattle.sl_syntax.specs.declared.typed.step.Fix.TheVariants as fixes
use Rattle.sl_syntax.specs.declared.typed.step.Step.{Step}
use Rattle.sl_syntax.specs.declared.typed.step.Step.TheVariants as steps
use Rattle.sl_syntax.specs.Tree as s
use Rattle.sl_syntax.specs.Tree.{Expr, Exprs}
use Rattle.sl_syntax.specs.Typed as t
use Rattle.sl_syntax.specs.Typed.{Operands, Left}
use Rattle.sl_typing.specs.declared.expr_type.ExprType.{ExprType}
use Rattle.sl_typing.specs.declared.expr_type.ExprType.TheVariants as types
use Rattle.sl_typing.specs.declared.scope.FunctionHead.{FunctionHead}
use Rattle.sl_typing.specs.declared.scope.Scope.{Scope}
use Rattle.sl_typing.specs.Types.{same_scalar, scalar_of, common, is_iterator}
use Rattle.sl_typing.specs.Arguments.{is_range}
use Rattle.sl_typing.specs.Candidates.{Found, member_row, algorithm_row, subscript_row}
use Rattle.sl_typing.specs.Scopes.{type_of_name, number_of_name, label_of_name, function_named}
use Rattle.sl_typing.specs.TypeOf.{appends, is_first, type_of, types_of}
use Rattle.sl_typing.specs.Sites.{site_count, site_number, inside}
use Rattle.sl_typing.specs.Order.{parameters_of}

-- a place of which nothing is said
abbrev pub nowhere : Place
nowhere = record { line = 0; col = 0 }

-- what stands for what breaks a rule
abbrev pub no_left : Left
no_left = t.scalar 0 nowhere

-- a value of which nothing is said
abbrev pub no_expr : t.Expr
no_expr = t.held no_left

-- the left side that a value is read from, and the number of a variable
abbrev pub left_of : t.Expr → Left
left_of (t.held x) = x
left_of e = no_left

-- the number of a variable
abbrev pub number_in : t.Expr → ℕ
number_in (t.held (t.scalar n at)) = n
number_in (t.iterator n) = n
number_in (t.container n) = n
number_in e = 0

-- a value of a type as one of this scalar type
abbrev pub converted : Scalar → ExprType → t.Expr → t.Expr
converted c u e = if same_scalar c (scalar_of u) then e else t.convert c e

-- how an operand is handed over: as it is, as a number of a type, or as the variable itself
pub data Way : Type 0 where
  as_it_is : Way
  as_number : Scalar → Way
  as_variable : Way

-- a value of a type that is handed over in a way
abbrev pub handed : Way → ExprType → t.Expr → t.Expr
handed as_it_is u e = e
handed (as_number c) u e = converted c u e
handed as_variable u e = t.handed_scalar (number_in e)

-- the ways of a letter's arguments, of a row's, and of a function's
abbrev pub letter_ways : Letter → List Way
letter_ways l.Count = as_number c.Size ∷ []
letter_ways l.Element = as_number c.Int ∷ []
letter_ways l.Key = as_number c.Int ∷ []
letter_ways l.Distance = as_number c.Diff ∷ []
letter_ways l.OptionalDistance = as_number c.Diff ∷ []
letter_ways letter = if is_range letter then as_it_is ∷ as_it_is ∷ [] else as_it_is ∷ []

-- those of a row
abbrev pub ways : List Letter → List Way
ways letters = flat_map letter_ways letters

-- that of a parameter
abbrev pub parameter_way : ParameterKind → Way
parameter_way (parameters.Value s) = as_number s
parameter_way (parameters.Reference s) = as_variable
parameter_way k = as_it_is

-- the number of an expression's name, where it is a plain name
abbrev pub told : Scope → Expr → Option ℕ
told g (s.name x) = label_of_name g x.name
told g e = None

-- those of arguments
abbrev pub told_all : Scope → Exprs → List (Option ℕ)
told_all g s.none = []
told_all g (s.with x xs) = told g x ∷ told_all g xs

-- None before these, where there are some
abbrev pub none_before : List (Option ℕ) → List (Option ℕ)
none_before [] = []
none_before (x ∷ xs) = None ∷ x ∷ xs

-- names up to the last that is told
abbrev pub trimmed : List (Option ℕ) → List (Option ℕ)
trimmed [] = []
trimmed (Some n ∷ xs) = Some n ∷ trimmed xs
trimmed (None ∷ xs) = none_before (trimmed xs)

-- the head of a call, with its names up to the last that is told
abbrev pub head : Callee → Place → Option ℕ → Option ℕ → List (Option ℕ) → Head
head callee at site object names = record { callee = callee; place = at; site = site; object = object; names = trimmed names }

-- an operator on iterators
abbrev pub operator_head : Operator → Place → List (Option ℕ) → Head
operator_head op at names = head (callees.Operator op) at None None names

-- one operand
abbrev pub one : t.Expr → Operands
one e = t.with e t.none

-- two operands
abbrev pub two : t.Expr → t.Expr → Operands
two d e = t.with d (one e)

-- the first operand
abbrev pub first_operand : Operands → t.Expr
first_operand t.none = no_expr
first_operand (t.with e es) = e

-- all operands but the first
abbrev pub other_operands : Operands → Operands
other_operands t.none = t.none
other_operands (t.with e es) = es

-- `++` and `--` of an iterator
abbrev pub step_operator : Step → Operator
step_operator steps.Up = operators.Increment
step_operator steps.Down = operators.Decrement

-- `++` or `--`, before or behind its operand
abbrev pub stepped : Step → Fix → Place → ExprType → List (Option ℕ) → t.Expr → t.Expr
stepped step fix at (types.Iterator b form) names e = t.move fix (number_in e) (operator_head (step_operator step) at names) t.none
stepped step fix at u names e = t.increment step fix (scalar_of u) at (left_of e)

-- a number as one of the type that `-` calculates in
abbrev pub negated : Place → Scalar → ExprType → t.Expr → t.Expr
negated at type u e = t.negate type at (converted type u e)

-- an operator before its operand
abbrev pub prefixed : PrefixOperator → Place → ExprType → List (Option ℕ) → t.Expr → t.Expr
prefixed p.Not at u names e = t.logical_not at e
prefixed p.Negate at u names e = negated at (common (scalar_of u) c.Int) u e
prefixed p.Dereference at u names e = t.held (t.element (operator_head operators.Dereference at names) (one e))
prefixed p.Increment at u names e = stepped steps.Up fixes.Prefix at u names e
prefixed p.Decrement at u names e = stepped steps.Down fixes.Prefix at u names e

-- an operator behind its operand
abbrev pub postfixed : PostfixOperator → Place → ExprType → List (Option ℕ) → t.Expr → t.Expr
postfixed q.Increment at u names e = stepped steps.Up fixes.Postfix at u names e
postfixed q.Decrement at u names e = stepped steps.Down fixes.Postfix at u names e

-- `+` and `-` of an iterator and a number
abbrev pub sum_operator : Arithmetic → Operator
sum_operator o.Subtract = operators.Subtract
sum_operator op = operators.Add

-- an operator that calculates
abbrev pub calculated : Arithmetic → Place → ExprType → ExprType → List (Option ℕ) → t.Expr → t.Expr → t.Expr
calculated op at (types.Iterator b x) (types.Iterator k y) names d e = t.call (operator_head operators.Difference at names) (two d e)
calculated op at (types.Iterator b x) v names d e = t.call (operator_head (sum_operator op) at names) (two d (converted c.Diff v e))
calculated op at u v names d e = let type = common (scalar_of u) (scalar_of v) in
    t.arithmetic op type at (converted type u d) (converted type v e)

-- an operator between two operands
abbrev pub joined : BinaryOperator → Place → ExprType → ExprType → List (Option ℕ) → t.Expr → t.Expr → t.Expr
joined b.Or at u v names d e = t.logical_or at d e
joined b.And at u v names d e = t.logical_and at d e
joined (b.Comparison op) at u v names d e = let type = common (scalar_of u) (scalar_of v) in
    if is_iterator u then t.call (operator_head (operators.Compare op) at names) (two d e)
    else t.comparison op at (converted type u d) (converted type v e)
joined (b.Arithmetic op) at u v names d e = calculated op at u v names d e

-- `first` or `second`, of a reference and of an iterator
abbrev pub part : Bool → ElementPart
part first = if first then parts.First else parts.Second

abbrev pub arrow_operator : Bool → Operator
arrow_operator first = if first then operators.ArrowFirst else operators.ArrowSecond

-- that part of what an expression is: of the element of a range-for, or of a pair
abbrev pub part_of : Place → Bool → t.Expr → t.Expr
part_of at first (t.held (t.reference x named name _)) = t.held (t.reference x named name (part first))
part_of at first e = if first then t.first at e else t.second at e

-- a piece `.first` or `->first`, and `second`
abbrev pub selected : Selector → Place → Bool → List (Option ℕ) → t.Expr → t.Expr
selected selector.Dot at first names e = part_of at first e
selected selector.Arrow at first names e = t.held (t.element (operator_head (arrow_operator first) at names) (one e))

-- a call of a row: an element of its object, or a value
abbrev pub row_call : ReturnType → Head → Operands → t.Expr
row_call r.Element h es = t.held (t.element h es)
row_call gives h es = t.call h es

-- a call on an object, with the rest of its head
abbrev pub called_row : Option Found → Place → Option ℕ → ℕ → List (Option ℕ) → Operands → t.Expr
called_row None at site object names es = no_expr
called_row (Some x) at site object names es = row_call x.row.gives (head (callees.Row x.number) at site (Some object) names) es

-- a call of an algorithm, which appends or doesn't: `advance` moves its variable, and `back_inserter` is its container
abbrev pub called_algorithm : Option Found → Bool → List ℕ → Place → Option ℕ → List (Option ℕ) → Operands → t.Expr
called_algorithm None appends name at site names es = no_expr
called_algorithm (Some x) appends name at site names es =
    if bytes_eq name (codes "back_inserter") then first_operand es
    else if bytes_eq name (codes "advance")
    then t.move fixes.Prefix (number_in (first_operand es)) (head (callees.Row x.number) at site None names) (other_operands es)
    else if appends then t.call (head (callees.Appends x.number) at site None names) es
    else t.call (head (callees.Row x.number) at site None names) es

-- the letters of a row
abbrev pub letters_of : Option Found → List Letter
letters_of None = []
letters_of (Some x) = x.row.letters

-- the row of `[ ]` on an object of this type, and that of a member call
abbrev pub row_of_subscript : ExprType → Option Found
row_of_subscript (types.Container access form) = subscript_row form
row_of_subscript u = None

abbrev pub row_of_member : ExprType → List ℕ → List ExprType → Option Found
row_of_member (types.Container access form) name us = member_row form name us
row_of_member u name us = None

-- the number of a function
abbrev pub number_of_function : Option FunctionHead → ℕ
number_of_function None = 0
number_of_function (Some h) = h.number

-- `true` is 1 and `false` is 0
abbrev pub truth_number : Bool → ℤ
truth_number true = pos 1
truth_number false = pos 0

-- a number that is told
abbrev pub label_in : Option ℕ → ℕ
label_in None = 0
label_in (Some n) = n

-- a variable of a type, by its number, at its name, with the name's number
abbrev pub variable : ExprType → ℕ → Place → ℕ → t.Expr
variable (types.Iterator b form) n at label = t.iterator n
variable (types.Container access form) n at label = t.container n
variable (types.IntReference w) n at label = t.held (t.reference n at label parts.Whole)
variable (types.EntryReference w) n at label = t.held (t.reference n at label parts.Whole)
variable u n at label = t.held (t.scalar n at)

-- the first of these ways, and the others
abbrev pub first_way : List Way → Way
first_way [] = as_it_is
first_way (w ∷ ws) = w

-- all ways but the first
abbrev pub other_ways : List Way → List Way
other_ways [] = []
other_ways (w ∷ ws) = ws

unfoldable mutual
  -- an expression before which n sites stand
  pub typed : Scope → ℕ → Expr → t.Expr
  typed g n (s.number at m) = t.literal c.Int (pos m)
  typed g n (s.truth at x) = t.literal c.Bool (truth_number x)
  typed g n (s.name x) = variable (type_of_name g x.name) (number_of_name g x.name) x.place (label_in (label_of_name g x.name))
  typed g n (s.call f xs) = let h = function_named g f.name in
      t.own_call (number_of_function h) f.place (operands g n (map parameter_way (parameters_of h)) xs)
  typed g n (s.library_call f xs) = let e = s.library_call f xs in let row = algorithm_row (appends f.name xs) f.name (types_of g xs) in
      called_algorithm row (appends f.name xs) f.name f.place (site_number g n e) (None ∷ told_all g xs)
      (operands g (inside g n e) (ways (letters_of row)) xs)
  typed g n (s.parentheses at x) = typed g n x
  typed g n (s.prefix op at x) = prefixed op at (type_of g x) (None ∷ told g x ∷ []) (typed g n x)
  typed g n (s.binary x op at y) =
      joined op at (type_of g x) (type_of g y) (None ∷ told g x ∷ told g y ∷ []) (typed g n x) (typed g (n + site_count g x) y)
  typed g n (s.postfix x op at) = postfixed op at (type_of g x) (None ∷ told g x ∷ []) (typed g n x)
  typed g n (s.index x at y) = let e = s.index x at y in let row = row_of_subscript (type_of g x) in
      called_row row at (site_number g n e) (number_in (typed g n x)) (told g x ∷ told g y ∷ [])
      (one (handed (first_way (ways (letters_of row))) (type_of g y) (typed g (inside g n e) y)))
  typed g n (s.member_call x f xs) = let e = s.member_call x f xs in let row = row_of_member (type_of g x) f.name (types_of g xs) in
      called_row row f.place (site_number g n e) (number_in (typed g n x)) (told g x ∷ told_all g xs)
      (operands g (inside g n e) (ways (letters_of row)) xs)
  typed g n (s.member x selector at f) = selected selector at (is_first f.name) (None ∷ told g x ∷ []) (typed g n x)

  -- arguments that are handed over in these ways
  pub operands : Scope → ℕ → List Way → Exprs → Operands
  operands g n ws s.none = t.none
  operands g n ws (s.with x xs) = t.with (handed (first_way ws) (type_of g x) (typed g n x)) (operands g (n + site_count g x) (other_ways ws) xs)
