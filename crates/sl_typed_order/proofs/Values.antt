-- What is no name is typed as no variable.
use Rattle.std.proofs.Common.{◌≡◌, ℕ, ◌+◌, Bool, true, false, ◌&&◌, List, [], Option, Some, None, refl}
use Rattle.std.specs.Prelude.{if◌then◌else◌, codes}
use Rattle.std.specs.Str.{bytes_eq}
use Rattle.sl_base.specs.declared.place.Place.{Place}
use Rattle.sl_specs.specs.declared.return_type.ReturnType.{ReturnType}
use Rattle.sl_specs.specs.declared.return_type.ReturnType.TheVariants as r
use Rattle.sl_syntax.specs.declared.operator.Arithmetic.{Arithmetic}
use Rattle.sl_syntax.specs.declared.operator.BinaryOperator.{BinaryOperator}
use Rattle.sl_syntax.specs.declared.operator.BinaryOperator.TheVariants as b
use Rattle.sl_syntax.specs.declared.operator.PostfixOperator.{PostfixOperator}
use Rattle.sl_syntax.specs.declared.operator.PostfixOperator.TheVariants as q
use Rattle.sl_syntax.specs.declared.operator.PrefixOperator.{PrefixOperator}
use Rattle.sl_syntax.specs.declared.operator.PrefixOperator.TheVariants as p
use Rattle.sl_syntax.specs.declared.operator.Selector.{Selector}
use Rattle.sl_syntax.specs.declared.operator.Selector.TheVariants as l
use Rattle.sl_syntax.specs.declared.typed.head.Head.{Head}
use Rattle.sl_syntax.specs.declared.typed.step.Fix.{Fix}
use Rattle.sl_syntax.specs.declared.typed.step.Step.{Step}
use Rattle.sl_syntax.specs.Tree as s
use Rattle.sl_syntax.specs.Tree.{Expr, Exprs}
use Rattle.sl_syntax.specs.Typed as t
use Rattle.sl_syntax.specs.Typed.{Operands}
use Rattle.sl_typing.specs.declared.expr_type.ExprType.{ExprType}
use Rattle.sl_typing.specs.declared.expr_type.ExprType.TheVariants as types
use Rattle.sl_typing.specs.declared.scope.Scope.{Scope}
use Rattle.sl_typing.specs.declared.standing.Standing.TheVariants as standing
use Rattle.sl_typing.specs.Types.{is_iterator}
use Rattle.sl_typing.specs.Candidates.{Found, algorithm_row}
use Rattle.sl_typing.specs.TypeOf.{appends, is_first, is_back_inserter, type_of, types_of}
use Rattle.sl_typing.specs.Looks.{bare_name}
use Rattle.sl_typing.specs.Sites.{site_count}
use Rattle.sl_typing.specs.Rules.{is_lone_appender}
use Rattle.sl_typing.specs.Faults.{faults}
use Rattle.sl_typing.specs.Numbering.{stepped, prefixed}
use Rattle.sl_typing.specs.Numbering.{postfixed, calculated, joined, part_of, selected, row_call, called_row, called_algorithm, row_of_subscript}
use Rattle.sl_typing.specs.Numbering.{row_of_member, typed, operands}
use Rattle.sl_well_typed.proofs.Parts.{library_call_kept, parentheses_kept}

-- a variable by itself
abbrev pub is_variable : t.Expr → Bool
is_variable (t.container x) = true
is_variable (t.iterator x) = true
is_variable (t.handed_scalar x) = true
is_variable e = false

-- one of two that are no variables
either_is_calculated : (test : Bool) (d e : t.Expr) → is_variable d ≡ false → is_variable e ≡ false → is_variable (if test then d else e) ≡ false
either_is_calculated true d e h k = h
either_is_calculated false d e h k = k

-- `++` and `--`
stepped_is_calculated : (step : Step) (fix : Fix) (at : Place) (u : ExprType) (names : List (Option ℕ)) (d : t.Expr)
    → is_variable (stepped step fix at u names d) ≡ false
stepped_is_calculated step fix at (types.Iterator c form) names d = refl
stepped_is_calculated step fix at u names d = refl

prefixed_is_calculated : (op : PrefixOperator) (at : Place) (u : ExprType) (names : List (Option ℕ)) (d : t.Expr)
    → is_variable (prefixed op at u names d) ≡ false
prefixed_is_calculated p.Not at u names d = refl
prefixed_is_calculated p.Negate at u names d = refl
prefixed_is_calculated p.Dereference at u names d = refl
prefixed_is_calculated p.Increment at u names d = stepped_is_calculated _ _ at u names d
prefixed_is_calculated p.Decrement at u names d = stepped_is_calculated _ _ at u names d

postfixed_is_calculated : (op : PostfixOperator) (at : Place) (u : ExprType) (names : List (Option ℕ)) (d : t.Expr)
    → is_variable (postfixed op at u names d) ≡ false
postfixed_is_calculated q.Increment at u names d = stepped_is_calculated _ _ at u names d
postfixed_is_calculated q.Decrement at u names d = stepped_is_calculated _ _ at u names d

-- an operator between two operands
calculated_is_calculated : (op : Arithmetic) (at : Place) (u v : ExprType) (names : List (Option ℕ)) (d e : t.Expr)
    → is_variable (calculated op at u v names d e) ≡ false
calculated_is_calculated op at (types.Iterator c x) (types.Iterator k y) names d e = refl
calculated_is_calculated op at (types.Iterator c x) v names d e = refl
calculated_is_calculated op at u v names d e = refl

joined_is_calculated : (op : BinaryOperator) (at : Place) (u v : ExprType) (names : List (Option ℕ)) (d e : t.Expr)
    → is_variable (joined op at u v names d e) ≡ false
joined_is_calculated b.Or at u v names d e = refl
joined_is_calculated b.And at u v names d e = refl
joined_is_calculated (b.Comparison op) at u v names d e = either_is_calculated (is_iterator u) _ _ refl refl
joined_is_calculated (b.Arithmetic op) at u v names d e = calculated_is_calculated op at u v names d e

-- a piece
part_is_calculated : (at : Place) (first : Bool) (d : t.Expr) → is_variable (part_of at first d) ≡ false
part_is_calculated at first (t.held (t.reference x named name old)) = refl
part_is_calculated at true d = refl
part_is_calculated at false d = refl

selected_is_calculated : (selector : Selector) (at : Place) (first : Bool) (names : List (Option ℕ)) (d : t.Expr)
    → is_variable (selected selector at first names d) ≡ false
selected_is_calculated l.Dot at first names d = part_is_calculated at first d
selected_is_calculated l.Arrow at first names d = refl

-- calls of the library
row_is_calculated : (gives : ReturnType) (h : Head) (es : Operands) → is_variable (row_call gives h es) ≡ false
row_is_calculated r.Element h es = refl
row_is_calculated gives h es = refl

called_is_calculated : (o : Option Found) (at : Place) (site : Option ℕ) (object : ℕ) (names : List (Option ℕ)) (es : Operands)
    → is_variable (called_row o at site object names es) ≡ false
called_is_calculated None at site object names es = refl
called_is_calculated (Some x) at site object names es = row_is_calculated x.row.gives _ es

algorithm_is_calculated : (o : Option Found) (append : Bool) (name : List ℕ) (at : Place) (site : Option ℕ) (names : List (Option ℕ)) (es : Operands)
    → bytes_eq name (codes "back_inserter") ≡ false → is_variable (called_algorithm o append name at site names es) ≡ false
algorithm_is_calculated None append name at site names es h = refl
algorithm_is_calculated (Some x) append name at site names es h =
    rw h (either_is_calculated (bytes_eq name (codes "advance")) _ _ refl (either_is_calculated append _ _ refl refl))

-- what stands beside what isn't so
not_output : (test : Bool) → (test && true) ≡ false → test ≡ false
not_output true h = h
not_output false h = h

-- what stands plainly isn't a call of `back_inserter`
pub no_appender : (e : Expr) → is_lone_appender standing.Plain e ≡ false → is_back_inserter e ≡ false
unfolding is_lone_appender
no_appender e h = not_output (is_back_inserter e) h

-- what is no name
pub value_is_calculated : (g : Scope) (n : ℕ) (e : Expr) → faults g n standing.Plain e ≡ [] → bare_name e ≡ [] → is_variable (typed g n e) ≡ false
unfolding typed operands type_of types_of
value_is_calculated g n (s.number at m) none h = refl
value_is_calculated g n (s.truth at x) none h = refl
value_is_calculated g n (s.name x) none h = absurd cc
value_is_calculated g n (s.call f xs) none h = refl
value_is_calculated g n (s.library_call f xs) none h =
    algorithm_is_calculated (algorithm_row (appends f.name xs) f.name (types_of g xs)) (appends f.name xs) f.name _ _ _ _
    (no_appender (s.library_call f xs) (library_call_kept g n standing.Plain f xs none).1.appenders)
value_is_calculated g n (s.parentheses at x) none h = value_is_calculated g n x (parentheses_kept g n standing.Plain at x none) h
value_is_calculated g n (s.prefix op at x) none h = prefixed_is_calculated op at (type_of g x) _ (typed g n x)
value_is_calculated g n (s.binary x op at y) none h =
    joined_is_calculated op at (type_of g x) (type_of g y) _ (typed g n x) (typed g (n + site_count g x) y)
value_is_calculated g n (s.postfix x op at) none h = postfixed_is_calculated op at (type_of g x) _ (typed g n x)
value_is_calculated g n (s.index x at y) none h = called_is_calculated (row_of_subscript (type_of g x)) _ _ _ _ _
value_is_calculated g n (s.member_call x f xs) none h = called_is_calculated (row_of_member (type_of g x) f.name (types_of g xs)) _ _ _ _ _
value_is_calculated g n (s.member x selector at f) none h = selected_is_calculated selector at (is_first f.name) _ (typed g n x)
