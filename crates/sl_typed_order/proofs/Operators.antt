-- What operators, names and pieces do by names is all that their nodes do to variables.
use Rattle.std.proofs.Common.{◌≡◌, ℕ, Bool, true, false, List, [], ◌∷◌, ◌++◌, Option, refl}
use Rattle.std.specs.Prelude.{if◌then◌else◌}
use Rattle.sl_base.specs.declared.place.Place.{Place}
use Rattle.sl_base.specs.declared.scalar.Scalar.{Scalar}
use Rattle.sl_syntax.specs.declared.operator.BinaryOperator.{BinaryOperator}
use Rattle.sl_syntax.specs.declared.operator.BinaryOperator.TheVariants as b
use Rattle.sl_syntax.specs.declared.operator.Selector.TheVariants as l
use Rattle.sl_syntax.specs.Typed as t
use Rattle.sl_syntax.specs.Typed.{Function, Operands}
use Rattle.sl_typing.specs.declared.expr_type.ExprType.{ExprType}
use Rattle.sl_typing.specs.declared.expr_type.ExprType.TheVariants as types
use Rattle.sl_typing.specs.declared.scope.Scope.{Scope}
use Rattle.sl_syntax.specs.declared.operator.Arithmetic.{Arithmetic}
use Rattle.sl_syntax.specs.declared.operator.Arithmetic.TheVariants as o
use Rattle.sl_syntax.specs.declared.operator.Selector.{Selector}
use Rattle.sl_syntax.specs.declared.typed.operator.Operator.{Operator}
use Rattle.sl_syntax.specs.declared.typed.operator.Operator.TheVariants as operators
use Rattle.sl_syntax.specs.declared.typed.step.Fix.{Fix}
use Rattle.sl_syntax.specs.declared.typed.step.Step.{Step}
use Rattle.sl_syntax.specs.declared.typed.step.Step.TheVariants as steps
use Rattle.sl_syntax.specs.Typed.{Left}
use Rattle.sl_base.specs.declared.scalar.Scalar.TheVariants as c
use Rattle.sl_typing.specs.Types.{scalar_of, common, is_iterator}
use Rattle.sl_typing.specs.Order.{Deeds, nothing_done, changing, both}
use Rattle.sl_typing.specs.Numbering.{as_number, number_in, left_of, converted, one, two, operator_head, step_operator, stepped}
use Rattle.sl_typing.specs.Numbering.{sum_operator, calculated, joined, part_of, arrow_operator, selected, variable}
use Rattle.sl_model.specs.Typing.WellTypedCalls.{is_moving_operator}
use Rattle.sl_model.specs.Typing.WellTypedNodes.{Node, a_call, an_operator, a_step, nodes_in, nodes_in_left, nodes_in_operands}
use Rattle.sl_model.specs.Typing.WellTypedOrder.{the_iterator, variable_of}
use Rattle.sl_typed_order.proofs.Covers.{Covers, covers_none}
use Rattle.sl_typed_order.proofs.Does.{Does, does_none, does_left, does_both, does_alone, covers_alone}
use Rattle.sl_typed_order.proofs.Swap.{handed_does}

-- an operator that moves nothing
quiet_operator : (fs : List Function) (g : Scope) (op : Operator) → is_moving_operator op ≡ false → (at : Place) (names : List (Option ℕ)) (es : Operands)
    → Does fs g nothing_done (a_call (operator_head op at names) es ∷ [])
quiet_operator fs g op h at names es =
    record { changes = λ k. rw h refl; changed = λ x known apart other. rw h refl; writes = λ k. refl }

sum_is_quiet : (op : Arithmetic) → is_moving_operator (sum_operator op) ≡ false
sum_is_quiet o.Subtract = refl
sum_is_quiet op = refl

arrow_is_quiet : (first : Bool) → is_moving_operator (arrow_operator first) ≡ false
arrow_is_quiet true = refl
arrow_is_quiet false = refl

-- a node that does nothing, before others
pub quiet_before : (fs : List Function) (g : Scope) (d : Deeds) (x : Node) (xs : List Node) → Does fs g nothing_done (x ∷ []) → Does fs g d xs
    → Does fs g d (x ∷ xs)
quiet_before fs g d x xs h k = does_both fs g nothing_done d (x ∷ []) xs h k

-- a name
pub variable_does : (fs : List Function) (g : Scope) (u : ExprType) (n : ℕ) (at : Place) (label : ℕ) → Does fs g nothing_done (nodes_in (variable u n at label))
unfolding nodes_in nodes_in_left
variable_does fs g (types.Iterator k x) n at label = does_none fs g nothing_done
variable_does fs g (types.Container access form) n at label = does_none fs g nothing_done
variable_does fs g (types.IntReference w) n at label = record { changes = λ k. refl; changed = covers_none g []; writes = λ k. refl }
variable_does fs g (types.EntryReference w) n at label = record { changes = λ k. refl; changed = covers_none g []; writes = λ k. refl }
variable_does fs g u n at label = does_none fs g nothing_done

-- operands
pub one_does : (fs : List Function) (g : Scope) (d : Deeds) (e : t.Expr) → Does fs g d (nodes_in e) → Does fs g d (nodes_in_operands (one e))
unfolding nodes_in_operands
one_does fs g d e h = does_alone fs g d (nodes_in e) h

pub two_do : (fs : List Function) (g : Scope) (x y : Deeds) (d e : t.Expr) → Does fs g x (nodes_in d) → Does fs g y (nodes_in e)
    → Does fs g (both x y) (nodes_in_operands (two d e))
unfolding nodes_in_operands
two_do fs g x y d e h k = does_both fs g x y (nodes_in d) (nodes_in_operands (one e)) h (one_does fs g y e k)

left_does : (fs : List Function) (g : Scope) (d : Deeds) (e : t.Expr) → Does fs g d (nodes_in e) → Does fs g d (nodes_in_left (left_of e))
unfolding nodes_in nodes_in_left
left_does fs g d (t.held x) h = h
left_does fs g d e h = does_none fs g d

-- a piece
part_does : (fs : List Function) (g : Scope) (d : Deeds) (at : Place) (first : Bool) (e : t.Expr) → Does fs g d (nodes_in e)
    → Does fs g d (nodes_in (part_of at first e))
unfolding nodes_in nodes_in_left
part_does fs g d at first (t.held (t.reference x named name old)) h = h
part_does fs g d at true e h = h
part_does fs g d at false e h = h

pub selected_does : (fs : List Function) (g : Scope) (d : Deeds) (selector : Selector) (at : Place) (first : Bool) (names : List (Option ℕ)) (e : t.Expr)
    → Does fs g d (nodes_in e) → Does fs g d (nodes_in (selected selector at first names e))
unfolding nodes_in nodes_in_left
selected_does fs g d l.Dot at first names e h = part_does fs g d at first e h
selected_does fs g d l.Arrow at first names e h =
    quiet_before fs g d (a_call (operator_head (arrow_operator first) at names) (one e)) (nodes_in_operands (one e))
    (quiet_operator fs g (arrow_operator first) (arrow_is_quiet first) at names (one e)) (one_does fs g d e h)

-- an operator between two operands
converted_does : (fs : List Function) (g : Scope) (does : Deeds) (k : Scalar) (u : ExprType) (e : t.Expr) → Does fs g does (nodes_in e)
    → Does fs g does (nodes_in (converted k u e))
converted_does fs g does k u e h = handed_does fs g does (as_number k) u e h

between : (fs : List Function) (g : Scope) (x y : Deeds) (d e : t.Expr) → Does fs g x (nodes_in d) → Does fs g y (nodes_in e)
    → Does fs g (both x y) (an_operator d e ∷ (nodes_in d ++ nodes_in e))
between fs g x y d e h k =
    quiet_before fs g (both x y) (an_operator d e) (nodes_in d ++ nodes_in e)
    (record { changes = λ j. refl; changed = covers_none g []; writes = λ j. refl }) (does_both fs g x y (nodes_in d) (nodes_in e) h k)

called : (fs : List Function) (g : Scope) (op : Operator) → is_moving_operator op ≡ false → (at : Place) (names : List (Option ℕ)) (x y : Deeds)
    (d e : t.Expr) → Does fs g x (nodes_in d) → Does fs g y (nodes_in e)
    → Does fs g (both x y) (a_call (operator_head op at names) (two d e) ∷ nodes_in_operands (two d e))
called fs g op quiet at names x y d e h k =
    quiet_before fs g (both x y) (a_call (operator_head op at names) (two d e)) (nodes_in_operands (two d e))
    (quiet_operator fs g op quiet at names (two d e)) (two_do fs g x y d e h k)

calculated_does : (fs : List Function) (g : Scope) (op : Arithmetic) (at : Place) (u v : ExprType) (names : List (Option ℕ)) (x y : Deeds) (d e : t.Expr)
    → Does fs g x (nodes_in d) → Does fs g y (nodes_in e) → Does fs g (both x y) (nodes_in (calculated op at u v names d e))
unfolding nodes_in
calculated_does fs g op at (types.Iterator j f) (types.Iterator m k) names x y d e h i = called fs g operators.Difference refl at names x y d e h i
calculated_does fs g op at (types.Iterator j f) v names x y d e h i =
    called fs g (sum_operator op) (sum_is_quiet op) at names x y d (converted c.Diff v e) h (converted_does fs g y c.Diff v e i)
calculated_does fs g op at u v names x y d e h i =
    let type = common (scalar_of u) (scalar_of v) in
    between fs g x y (converted type u d) (converted type v e) (converted_does fs g x type u d h) (converted_does fs g y type v e i)

either : (fs : List Function) (g : Scope) (does : Deeds) (test : Bool) (d e : t.Expr) → Does fs g does (nodes_in d) → Does fs g does (nodes_in e)
    → Does fs g does (nodes_in (if test then d else e))
either fs g does true d e h k = h
either fs g does false d e h k = k

pub joined_does : (fs : List Function) (g : Scope) (op : BinaryOperator) (at : Place) (u v : ExprType) (names : List (Option ℕ)) (x y : Deeds)
    (d e : t.Expr) → Does fs g x (nodes_in d) → Does fs g y (nodes_in e) → Does fs g (both x y) (nodes_in (joined op at u v names d e))
unfolding nodes_in
joined_does fs g b.Or at u v names x y d e h k = does_both fs g x y (nodes_in d) (nodes_in e) h k
joined_does fs g b.And at u v names x y d e h k = does_both fs g x y (nodes_in d) (nodes_in e) h k
joined_does fs g (b.Comparison op) at u v names x y d e h k =
    let type = common (scalar_of u) (scalar_of v) in
    either fs g (both x y) (is_iterator u) (t.call (operator_head (operators.Compare op) at names) (two d e))
    (t.comparison op at (converted type u d) (converted type v e)) (called fs g (operators.Compare op) refl at names x y d e h k)
    (between fs g x y (converted type u d) (converted type v e) (converted_does fs g x type u d h) (converted_does fs g y type v e k))
joined_does fs g (b.Arithmetic op) at u v names x y d e h k = calculated_does fs g op at u v names x y d e h k

-- `++` and `--`
iterator_step : (fs : List Function) (g : Scope) (step : Step) (at : Place) (told : List (Option ℕ)) (k : ℕ) (names : List (List ℕ))
    → Covers g names (the_iterator k ∷ []) → Does fs g (changing names) (a_call (operator_head (step_operator step) at told) (one (t.iterator k)) ∷ [])
iterator_step fs g steps.Up at told k names covers = record { changes = λ j. absurd cc; changed = covers; writes = λ j. refl }
iterator_step fs g steps.Down at told k names covers = record { changes = λ j. absurd cc; changed = covers; writes = λ j. refl }

number_step : (fs : List Function) (g : Scope) (left : Left) (names : List (List ℕ)) → Covers g names (variable_of left)
    → Does fs g (changing names) (a_step left ∷ [])
number_step fs g left names covers =
    record { changes = λ j. absurd cc; changed = covers_alone g names (variable_of left) covers; writes = λ j. refl }

pub stepped_does : (fs : List Function) (g : Scope) (step : Step) (fix : Fix) (at : Place) (u : ExprType) (told : List (Option ℕ)) (names : List (List ℕ))
    (does : Deeds) (d : t.Expr) → (is_iterator u ≡ true → Covers g names (the_iterator (number_in d) ∷ []))
    → (is_iterator u ≡ false → Covers g names (variable_of (left_of d))) → Does fs g does (nodes_in d)
    → Does fs g (both (changing names) does) (nodes_in (stepped step fix at u told d))
unfolding nodes_in nodes_in_left nodes_in_operands
stepped_does fs g step fix at (types.Iterator j x) told names does d iterator number h =
    does_left fs g (changing names) does _ (iterator_step fs g step at told (number_in d) names (iterator refl))
stepped_does fs g step fix at u told names does d iterator number h =
    does_both fs g (changing names) does (a_step (left_of d) ∷ []) (nodes_in_left (left_of d))
    (number_step fs g (left_of d) names (number refl)) (left_does fs g does d h)
