-- Nodes whose sites have the numbers from one on: of operators, calls and conversions, where those of their operands have.
use Rattle.std.proofs.Common.{◌≡◌, ℕ, suc, ◌+◌, Bool, true, false, List, [], ◌∷◌, ◌++◌, length, append_assoc, Option, Some, None}
use Rattle.std.proofs.Common.{refl, sym, subst, ◌∙◌, ap, arith}
use Rattle.std.specs.Prelude.{is_none, if◌then◌else◌}
use Rattle.std.specs.List.{filter_map}
use Rattle.std.proofs.lemmas.Bool.{cond_both}
use Rattle.sl_base.specs.declared.place.Place.{Place}
use Rattle.sl_base.specs.declared.scalar.Scalar.{Scalar}
use Rattle.sl_base.specs.declared.scalar.Scalar.TheVariants as c
use Rattle.sl_specs.specs.declared.return_type.ReturnType.{ReturnType}
use Rattle.sl_specs.specs.declared.return_type.ReturnType.TheVariants as r
use Rattle.sl_syntax.specs.declared.operator.Arithmetic.{Arithmetic}
use Rattle.sl_syntax.specs.declared.operator.BinaryOperator.{BinaryOperator}
use Rattle.sl_syntax.specs.declared.operator.BinaryOperator.TheVariants as b
use Rattle.sl_syntax.specs.declared.operator.Selector.{Selector}
use Rattle.sl_syntax.specs.declared.operator.Selector.TheVariants as l
use Rattle.sl_syntax.specs.declared.typed.callee.Callee.TheVariants as callees
use Rattle.sl_syntax.specs.declared.typed.head.Head.{Head}
use Rattle.sl_syntax.specs.declared.typed.operator.Operator.{Operator}
use Rattle.sl_syntax.specs.declared.typed.operator.Operator.TheVariants as operators
use Rattle.sl_syntax.specs.declared.typed.step.Fix.{Fix}
use Rattle.sl_syntax.specs.declared.typed.step.Step.{Step}
use Rattle.sl_syntax.specs.Tree.{Expr}
use Rattle.sl_syntax.specs.Typed as t
use Rattle.sl_syntax.specs.Typed.{Operands}
use Rattle.sl_typing.specs.declared.expr_type.ExprType.{ExprType}
use Rattle.sl_typing.specs.declared.expr_type.ExprType.TheVariants as types
use Rattle.sl_typing.specs.declared.scope.Scope.{Scope}
use Rattle.sl_typing.specs.Types.{scalar_of, common, is_iterator}
use Rattle.sl_typing.specs.Candidates.{Found}
use Rattle.sl_typing.specs.Looks.{place_of}
use Rattle.sl_typing.specs.Sites.{is_site, site_number, at_word, inside, own_site}
use Rattle.sl_typing.specs.Numbering.{left_of, converted, operator_head, one, stepped, calculated, joined, part_of, selected, row_call, called_row}
use Rattle.sl_typing.specs.Numbering.{variable, head, number_in, step_operator, sum_operator, arrow_operator}
use Rattle.sl_model.specs.Typing.WellTypedNodes.{Node, a_call, an_operator, a_step, nodes_in, nodes_in_left, nodes_in_operands}
use Rattle.sl_model.specs.Typing.WellTypedNumbers.{site_in}
use Rattle.sl_well_typed.proofs.Bound.{is_held}
use Rattle.sl_typed_numbers.proofs.Counting.{Adds, adds_both, adds_nothing}
use Rattle.sl_typed_numbers.proofs.Upto.{upto}

-- the sites of nodes have the numbers from one on, up to another
abbrev pub Numbers : ℕ → ℕ → List Node → Type 0
Numbers n m nodes = Adds ℕ site_in (upto n) (upto m) nodes

-- one list of nodes behind another
pub both_number : (n m k : ℕ) (xs ys : List Node) → Numbers n m xs → Numbers m k ys → Numbers n k (xs ++ ys)
both_number n m k xs ys h j = adds_both ℕ site_in (upto n) (upto m) (upto k) xs ys h j

-- the same numbers, written otherwise
pub up_to : (n m k : ℕ) (xs : List Node) → k ≡ m → Numbers n m xs → Numbers n k xs
up_to n m k xs e h = subst (λ (l : ℕ). Numbers n l xs) (sym e) h

pub from_same : (n m k : ℕ) (xs : List Node) → n ≡ m → Numbers m k xs → Numbers n k xs
from_same n m k xs e h = subst (λ (l : ℕ). Numbers l k xs) (sym e) h

-- nodes without sites
pub none_number : (n m : ℕ) (xs : List Node) → m ≡ n → filter_map site_in xs ≡ [] → Numbers n m xs
none_number n m xs e h = up_to n n m xs e (adds_nothing ℕ site_in (upto n) xs h)

-- a node without one before others
unnumbered : (x : Node) (xs : List Node) → site_in x ≡ None → filter_map site_in (x ∷ xs) ≡ filter_map site_in xs
unnumbered x xs h = rw h refl

pub first_unnumbered : (n m : ℕ) (x : Node) (xs : List Node) → site_in x ≡ None → Numbers n m xs → Numbers n m (x ∷ xs)
first_unnumbered n m x xs h k = k ∙ ap (λ (l : List ℕ). upto n ++ l) (sym (unnumbered x xs h))

-- a node that is a site before others
numbered : (n : ℕ) (x : Node) (xs : List Node) → site_in x ≡ Some n → filter_map site_in (x ∷ xs) ≡ n ∷ filter_map site_in xs
numbered n x xs h = rw h refl

first_numbered : (n m : ℕ) (x : Node) (xs : List Node) → site_in x ≡ Some n → Numbers (suc n) m xs → Numbers n m (x ∷ xs)
first_numbered n m x xs h k =
    k ∙ append_assoc (upto n) (n ∷ []) (filter_map site_in xs) ∙ ap (λ (l : List ℕ). upto n ++ l) (sym (numbered n x xs h))

-- a node that is one where a test says so
pub chosen_numbers : (is : Bool) (n m : ℕ) (at : Place) (x : Node) (xs : List Node) → site_in x ≡ (if is then Some n else None)
    → Numbers (n + length (if is then at ∷ [] else [])) m xs → Numbers n m (x ∷ xs)
chosen_numbers true n m at x xs h k =
    let e : suc n ≡ n + 1 = omega arith in first_numbered n m x xs h (from_same (suc n) (n + 1) m xs e k)
chosen_numbers false n m at x xs h k =
    let e : n ≡ n + 0 = omega arith in first_unnumbered n m x xs h (from_same n (n + 0) m xs e k)

-- the node of an expression that is a site or isn't, before what it holds
pub own_numbers : (g : Scope) (n m : ℕ) (e : Expr) (x : Node) (xs : List Node) → site_in x ≡ site_number g n e → Numbers (inside g n e) m xs
    → Numbers (at_word g n e) m (x ∷ xs)
unfolding site_number inside own_site
own_numbers g n m e x xs h k = chosen_numbers (is_site g e) (at_word g n e) m (place_of e) x xs h k

-- operands
pub one_numbers : (n m : ℕ) (e : t.Expr) → Numbers n m (nodes_in e) → Numbers n m (nodes_in_operands (one e))
unfolding nodes_in nodes_in_left nodes_in_operands
one_numbers n m e h = both_number n m m (nodes_in e) [] h (none_number m m [] refl refl)

pub two_number : (n m k : ℕ) (d e : t.Expr) → Numbers n m (nodes_in d) → Numbers m k (nodes_in e) → Numbers n k (nodes_in_operands (t.with d (one e)))
unfolding nodes_in nodes_in_left nodes_in_operands
two_number n m k d e h j = both_number n m k (nodes_in d) (nodes_in_operands (one e)) h (one_numbers m k e j)

-- a conversion
pub converted_numbers : (n m : ℕ) (type : Scalar) (u : ExprType) (e : t.Expr) → Numbers n m (nodes_in e) → Numbers n m (nodes_in (converted type u e))
unfolding nodes_in nodes_in_left nodes_in_operands
converted_numbers n m type u e h = cond_both _ e (t.convert type e) (λ (d : t.Expr). Numbers n m (nodes_in d)) (λ k. h) (λ k. h)

-- a variable is none
pub variable_is_none : (u : ExprType) (k : ℕ) (at : Place) (label : ℕ) → filter_map site_in (nodes_in (variable u k at label)) ≡ []
unfolding nodes_in nodes_in_left nodes_in_operands
variable_is_none (types.Iterator b form) k at label = refl
variable_is_none (types.Container access form) k at label = refl
variable_is_none (types.IntReference w) k at label = refl
variable_is_none (types.EntryReference w) k at label = refl
variable_is_none u k at label = refl

-- a left side that is held has the nodes of the expression
pub left_nodes : (e : t.Expr) → is_held e ≡ true → nodes_in_left (left_of e) ≡ nodes_in e
unfolding nodes_in
left_nodes (t.held x) h = refl
left_nodes e h = absurd cc

-- an operator on an iterator
pub called_numbers : (n m : ℕ) (op : Operator) (at : Place) (names : List (Option ℕ)) (es : Operands) → Numbers n m (nodes_in_operands es)
    → Numbers n m (a_call (operator_head op at names) es ∷ nodes_in_operands es)
called_numbers n m op at names es h = first_unnumbered n m (a_call (operator_head op at names) es) (nodes_in_operands es) refl h

-- `++` and `--`
pub stepped_numbers : (n m : ℕ) (step : Step) (fix : Fix) (at : Place) (u : ExprType) (names : List (Option ℕ)) (e : t.Expr)
    → (is_iterator u ≡ true → m ≡ n) → (is_iterator u ≡ false → is_held e ≡ true) → Numbers n m (nodes_in e)
    → Numbers n m (nodes_in (stepped step fix at u names e))
unfolding nodes_in nodes_in_left nodes_in_operands
stepped_numbers n m step fix at (types.Iterator b form) names e none held h =
    none_number n m (a_call (operator_head (step_operator step) at names) (t.with (t.iterator (number_in e)) t.none) ∷ []) (none refl) refl
stepped_numbers n m step fix at u names e none held h =
    first_unnumbered n m (a_step (left_of e)) (nodes_in_left (left_of e)) refl
    (subst (λ (l : List Node). Numbers n m l) (sym (left_nodes e (held refl))) h)

-- two numbers that meet
meeting_number : (n m k : ℕ) (type : Scalar) (u v : ExprType) (d e : t.Expr) → Numbers n m (nodes_in d) → Numbers m k (nodes_in e)
    → Numbers n k (an_operator (converted type u d) (converted type v e) ∷ (nodes_in (converted type u d) ++ nodes_in (converted type v e)))
meeting_number n m k type u v d e h j =
    first_unnumbered n k (an_operator (converted type u d) (converted type v e)) (nodes_in (converted type u d) ++ nodes_in (converted type v e)) refl
    (both_number n m k (nodes_in (converted type u d)) (nodes_in (converted type v e)) (converted_numbers n m type u d h)
    (converted_numbers m k type v e j))

calculated_numbers : (n m k : ℕ) (op : Arithmetic) (at : Place) (u v : ExprType) (names : List (Option ℕ)) (d e : t.Expr)
    → Numbers n m (nodes_in d) → Numbers m k (nodes_in e) → Numbers n k (nodes_in (calculated op at u v names d e))
unfolding nodes_in nodes_in_left nodes_in_operands
calculated_numbers n m k op at (types.Iterator b x) (types.Iterator i y) names d e h j =
    called_numbers n k operators.Difference at names (t.with d (one e)) (two_number n m k d e h j)
calculated_numbers n m k op at (types.Iterator b x) v names d e h j =
    called_numbers n k (sum_operator op) at names (t.with d (one (converted c.Diff v e)))
    (two_number n m k d (converted c.Diff v e) h (converted_numbers m k c.Diff v e j))
calculated_numbers n m k op at u v names d e h j = meeting_number n m k (common (scalar_of u) (scalar_of v)) u v d e h j

-- an operator between two operands
pub joined_numbers : (n m k : ℕ) (op : BinaryOperator) (at : Place) (u v : ExprType) (names : List (Option ℕ)) (d e : t.Expr)
    → Numbers n m (nodes_in d) → Numbers m k (nodes_in e) → Numbers n k (nodes_in (joined op at u v names d e))
unfolding nodes_in nodes_in_left nodes_in_operands
joined_numbers n m k b.Or at u v names d e h j = both_number n m k (nodes_in d) (nodes_in e) h j
joined_numbers n m k b.And at u v names d e h j = both_number n m k (nodes_in d) (nodes_in e) h j
joined_numbers n m k (b.Comparison op) at (types.Iterator i x) v names d e h j =
    called_numbers n k (operators.Compare op) at names (t.with d (one e)) (two_number n m k d e h j)
joined_numbers n m k (b.Comparison op) at u v names d e h j = meeting_number n m k (common (scalar_of u) (scalar_of v)) u v d e h j
joined_numbers n m k (b.Arithmetic op) at u v names d e h j = calculated_numbers n m k op at u v names d e h j

-- pieces
part_numbers : (n m : ℕ) (at : Place) (first : Bool) (e : t.Expr) → Numbers n m (nodes_in e) → Numbers n m (nodes_in (part_of at first e))
unfolding nodes_in nodes_in_left nodes_in_operands
part_numbers n m at first (t.held (t.reference x named name k)) h = h
part_numbers n m at true e h = h
part_numbers n m at false e h = h

pub selected_numbers : (n m : ℕ) (selector : Selector) (at : Place) (first : Bool) (names : List (Option ℕ)) (e : t.Expr)
    → Numbers n m (nodes_in e) → Numbers n m (nodes_in (selected selector at first names e))
unfolding nodes_in nodes_in_left nodes_in_operands
selected_numbers n m l.Dot at first names e h = part_numbers n m at first e h
selected_numbers n m l.Arrow at first names e h = called_numbers n m (arrow_operator first) at names (one e) (one_numbers n m e h)

-- a call of a row
row_call_numbers : (n m : ℕ) (gives : ReturnType) (h : Head) (es : Operands) → Numbers n m (a_call h es ∷ nodes_in_operands es)
    → Numbers n m (nodes_in (row_call gives h es))
unfolding nodes_in nodes_in_left nodes_in_operands
row_call_numbers n m r.Element h es k = k
row_call_numbers n m gives h es k = k

pub row_numbers : (g : Scope) (n m : ℕ) (e : Expr) (o : Option Found) (at : Place) (k : ℕ) (names : List (Option ℕ)) (es : Operands)
    → is_none o ≡ false → Numbers (inside g n e) m (nodes_in_operands es)
    → Numbers (at_word g n e) m (nodes_in (called_row o at (site_number g n e) k names es))
row_numbers g n m e None at k names es there h = absurd cc
row_numbers g n m e (Some f) at k names es there h =
    let h0 = head (callees.Row f.number) at (site_number g n e) (Some k) names in
    row_call_numbers (at_word g n e) m f.row.gives h0 es (own_numbers g n m e (a_call h0 es) (nodes_in_operands es) refl h)
