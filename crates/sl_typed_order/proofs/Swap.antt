-- Where parts may stand in any order by names, they may by variables.
use Rattle.std.proofs.Common.{◌≡◌, ℕ, Bool, true, false, not, ◌||◌, List, [], ◌∷◌, refl}
use Rattle.std.specs.Prelude.{if◌then◌else◌}
use Rattle.std.specs.List.{list_all}
use Rattle.std.proofs.lemmas.Bool.{and_parts, and_from}
use Rattle.sl_syntax.specs.Tree.{Expr}
use Rattle.sl_syntax.specs.Typed as t
use Rattle.sl_syntax.specs.Typed.{Function, Operands}
use Rattle.sl_typing.specs.declared.expr_type.ExprType.{ExprType}
use Rattle.sl_typing.specs.declared.scope.Scope.{Scope}
use Rattle.sl_typing.specs.declared.standing.Standing.TheVariants as standing
use Rattle.sl_specs.specs.declared.letter.Letter.{Letter}
use Rattle.sl_specs.specs.declared.letter.Letter.TheVariants as letters
use Rattle.sl_typing.specs.Types.{same_scalar, scalar_of}
use Rattle.sl_typing.specs.Arguments.{is_range}
use Rattle.sl_typing.specs.Faults.{faults}
use Rattle.sl_typing.specs.Order.{Deeds, stands_beside}
use Rattle.sl_typing.specs.Order.{is_still as is_still_by_names}
use Rattle.sl_typing.specs.Numbering.{Way, as_it_is, as_number, as_variable, handed, letter_ways, typed}
use Rattle.sl_model.specs.Typing.WellTypedNodes.{nodes_in}
use Rattle.sl_model.specs.Typing.WellTypedOrder.{holds_change, holds_write, changed_in, is_still, bears}
use Rattle.sl_typed_order.proofs.Kept.{is_plain_way}
use Rattle.sl_typed_order.proofs.Does.{Does, does_none}
use Rattle.sl_typed_order.proofs.Still.{still_is}

-- a part that does no more than its deeds bears what stands beside them
pub beside_bears : (fs : List Function) (g : Scope) (d : t.Expr) (does : Deeds) → Does fs g does (nodes_in d) → (n : ℕ) (y : Expr)
    → faults g n standing.Plain y ≡ [] → (e : t.Expr)
    → ((calls : Bool) → is_still (changed_in fs d) calls (typed g n y) ≡ true → is_still (changed_in fs d) calls e ≡ true)
    → stands_beside g does y ≡ true → bears fs d e ≡ true
beside_bears fs g d does h n y none e hands beside =
    let parts = and_parts (not does.changes || is_still_by_names g does.changed false y) (not does.writes || is_still_by_names g does.changed true y)
    beside in
    and_from (not (holds_change d) || is_still (changed_in fs d) false e) (not (holds_write d) || is_still (changed_in fs d) true e)
    (by_deed does.changes (holds_change d) (is_still_by_names g does.changed false y) (is_still (changed_in fs d) false e) h.changes
    (λ still. hands false (still_is g does.changed (changed_in fs d) h.changed false n y none still)) parts.0)
    (by_deed does.writes (holds_write d) (is_still_by_names g does.changed true y) (is_still (changed_in fs d) true e) h.writes
    (λ still. hands true (still_is g does.changed (changed_in fs d) h.changed true n y none still)) parts.1)
  where
    by_deed : (does held still is : Bool) → (does ≡ false → held ≡ false) → (still ≡ true → is ≡ true) → (not does || still) ≡ true → (not held || is) ≡ true
    by_deed false held still is h k j = rw (h refl) refl
    by_deed true true still is h k j = k j
    by_deed true false still is h k j = refl

-- those of letters are
either_plain : (b : Bool) → list_all is_plain_way (if b then as_it_is ∷ as_it_is ∷ [] else as_it_is ∷ []) ≡ true
either_plain true = refl
either_plain false = refl

pub letter_is_plain : (letter : Letter) → list_all is_plain_way (letter_ways letter) ≡ true
letter_is_plain letters.Count = refl
letter_is_plain letters.Element = refl
letter_is_plain letters.Key = refl
letter_is_plain letters.Distance = refl
letter_is_plain letters.OptionalDistance = refl
letter_is_plain letter = either_plain (is_range letter)

-- what is handed over does what it does
either_does : (fs : List Function) (g : Scope) (does : Deeds) (b : Bool) (d e : t.Expr) → Does fs g does (nodes_in d) → Does fs g does (nodes_in e)
    → Does fs g does (nodes_in (if b then d else e))
either_does fs g does true d e h k = h
either_does fs g does false d e h k = k

pub handed_does : (fs : List Function) (g : Scope) (does : Deeds) (w : Way) (u : ExprType) (e : t.Expr) → Does fs g does (nodes_in e)
    → Does fs g does (nodes_in (handed w u e))
unfolding nodes_in
handed_does fs g does as_it_is u e h = h
handed_does fs g does (as_number c) u e h = either_does fs g does (same_scalar c (scalar_of u)) e (t.convert c e) h h
handed_does fs g does as_variable u e h = does_none fs g does
