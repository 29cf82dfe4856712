-- A left side that breaks no rule: of an iterator or a container it is a plain name, of a number it holds a left side of the typed text.
use Rattle.std.proofs.Common.{◌≡◌, ℕ, Bool, true, false, [], refl}
use Rattle.std.specs.Prelude.{◌&&◌}
use Rattle.std.proofs.lemmas.Bool.{and_parts}
use Rattle.sl_base.specs.declared.place.Place.{Place}
use Rattle.sl_syntax.specs.declared.operator.Selector.TheVariants as l
use Rattle.sl_syntax.specs.declared.tree.identifier.Identifier.{Identifier}
use Rattle.sl_syntax.specs.Tree as s
use Rattle.sl_syntax.specs.Tree.{Expr}
use Rattle.sl_syntax.specs.Typed as t
use Rattle.sl_typing.specs.declared.expr_type.ExprType.{ExprType}
use Rattle.sl_typing.specs.declared.expr_type.ExprType.TheVariants as types
use Rattle.sl_typing.specs.declared.scope.Scope.{Scope}
use Rattle.sl_typing.specs.declared.standing.Standing.{Standing}
use Rattle.sl_typing.specs.Types.{is_element, is_number, is_iterator}
use Rattle.sl_typing.specs.Scopes.{type_of_name}
use Rattle.sl_typing.specs.TypeOf.{type_of, type_of_use, part_type, is_first, is_part_name}
use Rattle.sl_typing.specs.Looks.{is_plain, is_left_side}
use Rattle.sl_typing.specs.Sites.{sites_in}
use Rattle.sl_typing.specs.WrongType.{wrong_type, has_parts, can_step}
use Rattle.sl_typing.specs.Faults.{faults}
use Rattle.sl_typing.specs.Numbering.{variable, part_of, typed}
use Rattle.sl_well_typed.proofs.Bound.{is_held, is_called_element}
use Rattle.sl_well_typed.proofs.Parts.{member_kept}
use Rattle.sl_typed_numbers.proofs.Counting.{not_not}
use Rattle.sl_typed_numbers.proofs.Referred.{referred_is_called}

-- one that is no element is a name
pub left_is_name : (g : Scope) (x : Expr) → is_left_side g x ≡ true → is_element (type_of g x) ≡ false → sites_in g x ≡ []
unfolding is_left_side sites_in
left_is_name g (s.name x) left none = refl
left_is_name g (s.parentheses at x) left none = absurd cc
left_is_name g e left none = absurd cc

-- a variable that is a number
variable_is_held : (u : ExprType) (k : ℕ) (at : Place) (label : ℕ) → is_number (type_of_use u) ≡ true → is_held (variable u k at label) ≡ true
variable_is_held (types.Iterator b form) k at label h = absurd cc
variable_is_held (types.Container access form) k at label h = absurd cc
variable_is_held (types.IntReference w) k at label h = refl
variable_is_held (types.EntryReference w) k at label h = refl
variable_is_held u k at label h = refl

-- `.first` and `.second`
parts_are_plain : (x : Expr) (u : ExprType) (first : Bool) → has_parts x u ≡ true → is_element (part_type u first) ≡ true → is_plain x ≡ true
parts_are_plain x (types.IteratorAndBool form) true h may = absurd cc
parts_are_plain x (types.IteratorAndBool form) false h may = absurd cc
parts_are_plain x (types.IteratorPair b form) first h may = absurd cc
parts_are_plain x (types.EntryReference w) first h may = h
parts_are_plain x u first h may = absurd cc

entry_is_held : (u : ExprType) (k : ℕ) (named at : Place) (label : ℕ) (first : Bool) → is_element (part_type (type_of_use u) first) ≡ true
    → is_held (part_of at first (variable u k named label)) ≡ true
entry_is_held (types.IteratorAndBool form) k named at label true may = absurd cc
entry_is_held (types.IteratorAndBool form) k named at label false may = absurd cc
entry_is_held (types.IteratorPair b form) k named at label first may = absurd cc
entry_is_held (types.EntryReference w) k named at label first may = refl
entry_is_held u k named at label first may = absurd cc

named_part_is_held : (g : Scope) (n : ℕ) (x : Expr) (at : Place) (first : Bool) → is_plain x ≡ true
    → is_element (part_type (type_of g x) first) ≡ true
    → is_held (part_of at first (typed g n x)) ≡ true
unfolding type_of typed
named_part_is_held g n (s.name x) at first plain may = entry_is_held (type_of_name g x.name) _ x.place at _ first may
named_part_is_held g n x at first plain may = absurd cc

part_is_held : (g : Scope) (n : ℕ) (how : Standing) (x : Expr) (at : Place) (f : Identifier) → faults g n how (s.member x l.Dot at f) ≡ []
    → is_element (part_type (type_of g x) (is_first f.name)) ≡ true → is_held (part_of at (is_first f.name) (typed g n x)) ≡ true
unfolding wrong_type
part_is_held g n how x at f none may =
    let keeps = (member_kept g n how x l.Dot at f none).1 in
    let fits = not_not (is_part_name f.name && has_parts x (type_of g x)) keeps.types in
    let parts = (and_parts (is_part_name f.name) (has_parts x (type_of g x)) fits).1 in
    named_part_is_held g n x at (is_first f.name) (parts_are_plain x (type_of g x) (is_first f.name) parts may) may

-- what a call gives is held
called_is_held : (e : t.Expr) → is_called_element e ≡ true → is_held e ≡ true
called_is_held (t.held (t.element h es)) is = refl
called_is_held e is = absurd cc

-- one that is a number is held
pub left_is_held : (g : Scope) (n : ℕ) (how : Standing) (e : Expr) → faults g n how e ≡ [] → is_left_side g e ≡ true → is_number (type_of g e) ≡ true
    → is_held (typed g n e) ≡ true
unfolding is_left_side type_of typed
left_is_held g n how (s.name x) none left is = variable_is_held (type_of_name g x.name) _ x.place _ is
left_is_held g n how (s.parentheses at x) none left is = absurd cc
left_is_held g n how (s.member x l.Dot at f) none left is = part_is_held g n how x at f none left
left_is_held g n how e none left is = called_is_held (typed g n e) (referred_is_called g n how e none left)

-- what can be stepped is an iterator, or a number and no iterator
pub iterator_is_no_element : (u : ExprType) → is_iterator u ≡ true → is_element u ≡ false
iterator_is_no_element (types.Iterator b form) h = refl
iterator_is_no_element u h = absurd cc

pub step_is_number : (u : ExprType) → can_step u ≡ true → is_iterator u ≡ false → is_number u ≡ true
step_is_number (types.Iterator b form) h k = absurd cc
step_is_number (types.Scalar type) h k = refl
step_is_number (types.Element w) h k = refl
step_is_number u h k = absurd cc
