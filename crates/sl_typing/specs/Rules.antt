-- What breaks the other rules at a node of an expression.
--
-- Restates ISO/IEC 14882:2017, [basic.lookup.unqual] (names), [over.match.viable] (calls), [dcl.type.cv] and [associative.reqmts] (what is const, and
-- keys, aren't written), [basic.start.main] (`main` isn't called) and [iterator.requirements] (what iterators can do).
-- Chosen here: no variable is bound to two references of a call; `std::back_inserter` stands as an output alone; what each rule leaves to which.
use Rattle.std.specs.Prelude.{ℕ, ◌==◌, Bool, true, false, not, ◌&&◌, ◌||◌, List, [], ◌∷◌, ◌++◌, length, Option, Some, None, is_none, is_some, codes}
use Rattle.std.specs.Prelude.{if◌then◌else◌}
use Rattle.std.specs.Str.{bytes_eq}
use Rattle.sl_base.specs.declared.limits.TheConstants.{SITES}
use Rattle.sl_syntax.specs.declared.operator.Access.TheVariants as a
use Rattle.sl_syntax.specs.declared.operator.Assignment.{Assignment}
use Rattle.sl_syntax.specs.declared.operator.Assignment.TheVariants as assignments
use Rattle.sl_syntax.specs.declared.operator.BinaryOperator.{BinaryOperator}
use Rattle.sl_syntax.specs.declared.operator.BinaryOperator.TheVariants as b
use Rattle.sl_syntax.specs.declared.operator.PostfixOperator.TheVariants as o
use Rattle.sl_syntax.specs.declared.operator.PrefixOperator.{PrefixOperator}
use Rattle.sl_syntax.specs.declared.operator.PrefixOperator.TheVariants as p
use Rattle.sl_syntax.specs.declared.typed.parameter.ParameterKind.{ParameterKind}
use Rattle.sl_syntax.specs.declared.typed.parameter.ParameterKind.TheVariants as parameters
use Rattle.sl_syntax.specs.Tree as s
use Rattle.sl_syntax.specs.Tree.{Expr, Exprs}
use Rattle.sl_typing.specs.declared.expr_type.ExprType.{ExprType}
use Rattle.sl_typing.specs.declared.expr_type.ExprType.TheVariants as types
use Rattle.sl_typing.specs.declared.scope.FunctionHead.{FunctionHead}
use Rattle.sl_typing.specs.declared.scope.Scope.{Scope}
use Rattle.sl_typing.specs.declared.standing.Standing.{Standing}
use Rattle.sl_typing.specs.declared.standing.Standing.TheVariants as standing
use Rattle.sl_typing.specs.Types.{is_const, is_iterator, is_bidirectional, is_random, is_const_container}
use Rattle.sl_typing.specs.Signatures.{is_equality}
use Rattle.sl_typing.specs.Arguments.{letters_seen, letters_write_const, letters_are_weak}
use Rattle.sl_typing.specs.Candidates.{has_member, has_algorithm, member_row, algorithm_row, subscript_row}
use Rattle.sl_typing.specs.Scopes.{variable_named, function_named, is_among}
use Rattle.sl_typing.specs.TypeOf.{size, is_back_inserter, appends, type_of, types_of}
use Rattle.sl_typing.specs.Looks.{is_plain, plain_name}
use Rattle.sl_typing.specs.Sites.{is_site, at_word}
use Rattle.sl_typing.specs.Order.{subscript_changes}

-- no variable of this name is declared
abbrev pub is_unknown_variable : Scope → List ℕ → Bool
is_unknown_variable g name = is_none (variable_named g name)

-- and no function either, where one is called
abbrev pub is_unknown_function : Scope → List ℕ → Bool
is_unknown_function g name = is_none (variable_named g name) && is_none (function_named g name)

-- a function, if it is known, has another number of parameters
abbrev pub takes_others : Option FunctionHead → ℕ → Bool
takes_others None n = false
takes_others (Some h) n = not (length h.parameters == n)

-- the form has no such member
abbrev pub has_no_member : ExprType → List ℕ → ℕ → Bool
has_no_member (types.Container access form) name n = not (has_member form name n)
has_no_member u name n = false

-- the form has no `[ ]`
abbrev pub has_no_subscript : ExprType → Bool
has_no_subscript (types.Container access form) = is_none (subscript_row form)
has_no_subscript u = false

-- no such call: what is called isn't there, or not with so many arguments; a variable hides a function
unfoldable pub no_such_call : Scope → Expr → Bool
no_such_call g (s.call f xs) = is_some (variable_named g f.name) || takes_others (function_named g f.name) (size xs)
no_such_call g (s.library_call f xs) = not (has_algorithm f.name (size xs))
no_such_call g (s.index x at y) = has_no_subscript (type_of g x)
no_such_call g (s.member_call x f xs) = is_plain x && has_no_member (type_of g x) f.name (size xs)
no_such_call g e = false

-- an element that may not be written
abbrev pub is_const_element : ExprType → Bool
is_const_element (types.Element w) = not w
is_const_element u = false

-- what is given to a reference is a const container, and the reference isn't const
abbrev pub hands_const : Scope → List ParameterKind → Exprs → Bool
hands_const g (parameters.Container a.Whole form ∷ ks) (s.with e es) = is_const_container (type_of g e) || hands_const g ks es
hands_const g (k ∷ ks) (s.with e es) = hands_const g ks es
hands_const g ks es = false

-- the same of a call, if its function is known
abbrev pub call_hands_const : Scope → Option FunctionHead → Exprs → Bool
call_hands_const g None xs = false
call_hands_const g (Some h) xs = hands_const g h.parameters xs

-- the row that a member call means, if there is one, changes a const object, or writes something else that is const
abbrev pub member_writes_const : ExprType → List ℕ → List ExprType → Bool
member_writes_const (types.Container access form) name us = elim (member_row form name us) as (λ _. Bool) [
  | None ↦ false
  | Some x ↦ (is_const access && x.row.changes) || letters_write_const x.row.letters us
]
member_writes_const u name us = false

-- the algorithm that is meant, if there is one, writes what is const
abbrev pub algorithm_writes_const : Bool → List ℕ → List ExprType → Bool
algorithm_writes_const appends name us = elim (algorithm_row appends name us) as (λ _. Bool) [
  | None ↦ false
  | Some x ↦ letters_write_const (letters_seen appends x.row.letters) us
]

-- an operator before its operand that writes it
abbrev pub is_step : PrefixOperator → Bool
is_step p.Increment = true
is_step p.Decrement = true
is_step op = false

-- write to const
unfoldable pub writes_to_const : Scope → Expr → Bool
writes_to_const g (s.call f xs) = call_hands_const g (function_named g f.name) xs
writes_to_const g (s.library_call f xs) = algorithm_writes_const (appends f.name xs) f.name (types_of g xs)
writes_to_const g (s.prefix op at x) = is_step op && is_const_element (type_of g x)
writes_to_const g (s.postfix x op at) = is_const_element (type_of g x)
writes_to_const g (s.index x at y) = is_const_container (type_of g x) && subscript_changes (type_of g x)
writes_to_const g (s.member_call x f xs) = member_writes_const (type_of g x) f.name (types_of g xs)
writes_to_const g e = false

-- the same at an assignment: a const element, or a const container
unfoldable pub assigns_const : Scope → Expr → Bool
assigns_const g x = is_const_element (type_of g x) || is_const_container (type_of g x)

-- a parameter of this kind is a reference, const or not
abbrev pub is_reference : ParameterKind → Bool
is_reference (parameters.Value s) = false
is_reference (parameters.Iterator b form) = false
is_reference k = true

-- the names that are bound to references
abbrev pub bound_names : List ParameterKind → Exprs → List (List ℕ)
bound_names (k ∷ ks) (s.with e es) = (if is_reference k then plain_name e else []) ++ bound_names ks es
bound_names ks es = []

-- a name stands twice among these
abbrev pub some_twice : List (List ℕ) → Bool
some_twice [] = false
some_twice (n ∷ ns) = is_among n ns || some_twice ns

-- the same variable is bound twice in a call, if its function is known
abbrev pub call_aliases : Option FunctionHead → Exprs → Bool
call_aliases None xs = false
call_aliases (Some h) xs = some_twice (bound_names h.parameters xs)

-- alias: one variable is bound to two references of a call
unfoldable pub is_alias : Scope → Expr → Bool
is_alias g (s.call f xs) = call_aliases (function_named g f.name) xs
is_alias g e = false

-- a function of this name is `main`
abbrev pub is_main_name : List ℕ → Bool
is_main_name name = bytes_eq name (codes "main")

-- `main` is called
unfoldable pub calls_main : Expr → Bool
calls_main (s.call f xs) = is_main_name f.name
calls_main e = false

-- an iterator that is no random access iterator
abbrev pub is_not_random : ExprType → Bool
is_not_random u = is_iterator u && not (is_random u)

-- an iterator that doesn't go back
abbrev pub is_forward : ExprType → Bool
is_forward u = is_iterator u && not (is_bidirectional u)

-- an operator between two operands needs a random access iterator
abbrev pub is_weak_binary : BinaryOperator → ExprType → Bool
is_weak_binary (b.Comparison op) u = not (is_equality op) && is_not_random u
is_weak_binary (b.Arithmetic op) u = is_not_random u
is_weak_binary op u = false

-- the algorithm that is meant, if there is one, needs a stronger iterator
abbrev pub algorithm_is_weak : Bool → List ℕ → List ExprType → Bool
algorithm_is_weak appends name us = elim (algorithm_row appends name us) as (λ _. Bool) [
  | None ↦ false
  | Some x ↦ letters_are_weak (letters_seen appends x.row.letters) us
]

-- weaker iterator: `--` of an iterator of a hash form, and what random access iterators alone have
unfoldable pub is_weaker : Scope → Expr → Bool
is_weaker g (s.prefix p.Decrement at x) = is_forward (type_of g x)
is_weaker g (s.postfix x o.Decrement at) = is_forward (type_of g x)
is_weaker g (s.binary x op at y) = is_weak_binary op (type_of g x)
is_weaker g (s.library_call f xs) = algorithm_is_weak (appends f.name xs) f.name (types_of g xs)
is_weaker g e = false

-- the same at an assignment: `+=` and `-=`
unfoldable pub assigns_weaker : Scope → Expr → Assignment → Bool
assigns_weaker g x assignments.Set = false
assigns_weaker g x (assignments.Update op) = is_not_random (type_of g x)

-- it stands directly as an output
abbrev pub is_as_output : Standing → Bool
is_as_output standing.Output = true
is_as_output how = false

-- appender: `std::back_inserter` stands elsewhere
unfoldable pub is_lone_appender : Standing → Expr → Bool
is_lone_appender how e = is_back_inserter e && not (is_as_output how)

-- the node is the first site past the limit, where n sites stand before it
unfoldable pub is_site_too_many : Scope → ℕ → Expr → Bool
is_site_too_many g n e = is_site g e && (at_word g n e == SITES)
