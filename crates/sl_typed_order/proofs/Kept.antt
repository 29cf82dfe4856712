-- A test that each node passes of what breaks no rule, as far as nodes of each kind have their own reasons.
use Rattle.std.proofs.Common.{◌≡◌, ℕ, ◌+◌, Bool, true, false, List, [], ◌∷◌, map, Option, Some, None}
use Rattle.std.specs.Prelude.{ℤ, if◌then◌else◌, codes}
use Rattle.std.specs.List.{list_all}
use Rattle.std.specs.Str.{bytes_eq}
use Rattle.sl_base.specs.declared.place.Place.{Place}
use Rattle.sl_syntax.specs.declared.operator.Arithmetic.{Arithmetic}
use Rattle.sl_syntax.specs.declared.operator.BinaryOperator.{BinaryOperator}
use Rattle.sl_syntax.specs.declared.tree.declaration.ContainerType.{ContainerType}
use Rattle.sl_syntax.specs.declared.tree.identifier.Identifier.{Identifier}
use Rattle.sl_syntax.specs.declared.typed.callee.Callee.TheVariants as callees
use Rattle.sl_syntax.specs.declared.typed.operator.Operator.{Operator}
use Rattle.sl_syntax.specs.declared.typed.variable.VariableKind.{VariableKind}
use Rattle.sl_base.specs.declared.scalar.Scalar.{Scalar}
use Rattle.sl_syntax.specs.Tree as s
use Rattle.sl_syntax.specs.Tree.{Expr, Exprs, Initializer}
use Rattle.sl_syntax.specs.Typed as t
use Rattle.sl_syntax.specs.Typed.{Function, Left, Operands}
use Rattle.sl_typing.specs.declared.scope.Scope.{Scope}
use Rattle.sl_typing.specs.declared.standing.Standing.{Standing}
use Rattle.sl_typing.specs.Candidates.{Found, algorithm_row}
use Rattle.sl_typing.specs.Contexts.{Context}
use Rattle.sl_typing.specs.Faults.{faults}
use Rattle.sl_typing.specs.Numbering.{Way, as_number, as_variable, number_in, handed, ways, parameter_way, told, told_all, head, operator_head, one, two, first_operand}
use Rattle.sl_typing.specs.Numbering.{other_operands, row_of_member, number_of_function, typed, operands}
use Rattle.sl_typing.specs.Order.{parameters_of, is_ordered}
use Rattle.sl_typing.specs.Scopes.{function_named}
use Rattle.sl_typing.specs.Sites.{site_count, site_number, inside}
use Rattle.sl_typing.specs.StatementFaults.{declaration_faults}
use Rattle.sl_typing.specs.StatementNumbering.{move_operator, making_row, told_in, operands_in, number_of_row}
use Rattle.sl_typing.specs.TypeOf.{appends, type_of, types_of}
use Rattle.sl_model.specs.Typing.WellTypedNodes.{Node, a_literal, a_call, an_own_call, an_operator, a_step, a_use, a_loop, a_range, a_variable, a_brace}
use Rattle.sl_typed_order.proofs.Sound.{Sound}

-- the node that a call of an algorithm is; a call of `back_inserter` is none
abbrev pub algorithm_node : Found → Bool → List ℕ → Place → Option ℕ → List (Option ℕ) → Operands → List Node
algorithm_node x append name at site names es =
    if bytes_eq name (codes "back_inserter") then []
    else if bytes_eq name (codes "advance")
    then a_call (head (callees.Row x.number) at site None names) (t.with (t.iterator (number_in (first_operand es))) (other_operands es)) ∷ []
    else if append then a_call (head (callees.Appends x.number) at site None names) es ∷ []
    else a_call (head (callees.Row x.number) at site None names) es ∷ []

-- a way that hands a value over, and no variable
abbrev pub is_plain_way : Way → Bool
is_plain_way as_variable = false
is_plain_way w = true

-- a test that each node of what breaks no rule passes
pub record IsKept (fs : List Function) (P : Node → Bool) : Type 0 where
  pub literals : (z : ℤ) → P (a_literal z) ≡ true
  pub steps : (l : Left) → P (a_step l) ≡ true
  pub uses : (at : Place) (n : ℕ) → P (a_use at n) ≡ true
  pub loops : (n : ℕ) → P (a_loop n) ≡ true
  pub ranges : (at : Place) (n : ℕ) → P (a_range at n) ≡ true
  pub variables : (k : VariableKind) → P (a_variable k) ≡ true
  pub braces : (site : Option ℕ) (b : Bool) → P (a_brace site b) ≡ true
  pub lone_rows : (n : ℕ) (at : Place) (site object : Option ℕ) (names : List (Option ℕ)) (e : t.Expr)
      → P (a_call (head (callees.Row n) at site object names) (one e)) ≡ true
  pub lone_operators : (o : Operator) (at : Place) (names : List (Option ℕ)) (e : t.Expr) → P (a_call (operator_head o at names) (one e)) ≡ true
  pub moves : (op : Arithmetic) (at : Place) (names : List (Option ℕ)) (n : ℕ) (e : t.Expr)
      → P (a_call (operator_head (move_operator op) at names) (t.with (t.iterator n) (one e))) ≡ true
  pub operators : (g : Scope) (n : ℕ) (how : Standing) (x : Expr) (op : BinaryOperator) (at : Place) (y : Expr) → Sound fs g
      → faults g n how (s.binary x op at y) ≡ [] → is_ordered op ≡ false → (c : Scalar)
      → P (an_operator (handed (as_number c) (type_of g x) (typed g n x)) (handed (as_number c) (type_of g y) (typed g (n + site_count g x) y))) ≡ true
  pub pairs : (g : Scope) (n : ℕ) (how : Standing) (x : Expr) (op : BinaryOperator) (at : Place) (y : Expr) → Sound fs g
      → faults g n how (s.binary x op at y) ≡ [] → is_ordered op ≡ false → (o : Operator) (names : List (Option ℕ)) (w : Way) → is_plain_way w ≡ true
      → P (a_call (operator_head o at names) (two (typed g n x) (handed w (type_of g y) (typed g (n + site_count g x) y)))) ≡ true
  pub own_calls : (g : Scope) (n : ℕ) (how : Standing) (f : Identifier) (xs : Exprs) → Sound fs g → faults g n how (s.call f xs) ≡ []
      → let o = function_named g f.name in P (an_own_call (number_of_function o) (operands g n (map parameter_way (parameters_of o)) xs)) ≡ true
  pub algorithms : (g : Scope) (n : ℕ) (how : Standing) (f : Identifier) (xs : Exprs) → Sound fs g → faults g n how (s.library_call f xs) ≡ []
      → (x : Found) → algorithm_row (appends f.name xs) f.name (types_of g xs) ≡ Some x
      → let e = s.library_call f xs in
      list_all P (algorithm_node x (appends f.name xs) f.name f.place (site_number g n e) (None ∷ told_all g xs)
      (operands g (inside g n e) (ways x.row.letters) xs)) ≡ true
  pub members : (g : Scope) (n : ℕ) (how : Standing) (x : Expr) (f : Identifier) (xs : Exprs) → Sound fs g
      → faults g n how (s.member_call x f xs) ≡ []
      → (r : Found) → row_of_member (type_of g x) f.name (types_of g xs) ≡ Some r
      → let e = s.member_call x f xs in
      P (a_call (head (callees.Row r.number) f.place (site_number g n e) (Some (number_in (typed g n x))) (told g x ∷ told_all g xs))
      (operands g (inside g n e) (ways r.row.letters) xs)) ≡ true
  pub makers : (g : Context) (ct : ContainerType) (x : Identifier) (value : Initializer) → Sound fs g.scope
      → declaration_faults g (s.declares_container ct x value) ≡ []
      → let row = making_row g ct.form value in
      P (a_call (head (callees.Row (number_of_row row)) ct.place None None (None ∷ told_in g value)) (operands_in g row value)) ≡ true
