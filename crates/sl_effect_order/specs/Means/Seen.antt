-- What a part does, as another part beside it sees it: by whether that one is still for each variable that is changed.
use Rattle.std.specs.Prelude.{ℕ, Bool, true, false, not, ◌&&◌, ◌||◌, List, [], ◌∷◌, if◌then◌else◌}
use Rattle.std.specs.List.{list_all}
use Rattle.sl_syntax.specs.declared.typed.parameter.ParameterKind.{ParameterKind}
use Rattle.sl_syntax.specs.Tree.{Expr}
use Rattle.sl_typing.specs.declared.scope.Scope.{Scope}
use Rattle.sl_typing.specs.Types.{is_container}
use Rattle.sl_typing.specs.TypeOf.{type_of}
use Rattle.sl_typing.specs.Looks.{bare_name}
use Rattle.sl_typing.specs.Order.{Deeds, deeds, is_still, changes_argument, clash}
use Rattle.sl_effect_order.specs.declared.seen_deeds.SeenDeeds.{SeenDeeds}

-- an expression is still for one variable
unfoldable pub spares : Scope → Bool → Expr → List ℕ → Bool
spares g calls e name = is_still g (name ∷ []) calls e

-- deeds as a test of variables sees them
unfoldable pub seen : (List ℕ → Bool) → Deeds → SeenDeeds
seen test d = record { changes = d.changes; writes = d.writes; spares = list_all test d.changed }

-- what two parts do
unfoldable pub both_seen : SeenDeeds → SeenDeeds → SeenDeeds
both_seen x y = record { changes = x.changes || y.changes; writes = x.writes || y.writes; spares = x.spares && y.spares }

-- a change
unfoldable pub change_seen : Bool → SeenDeeds
change_seen spares = record { changes = true; writes = false; spares = spares }

-- a test of a container among arguments
abbrev pub spares_container : (List ℕ → Bool) → Scope → Expr → Bool
spares_container test g x = list_all test (if is_container (type_of g x) then bare_name x else [])

-- a test of an argument that may be bound to a reference
abbrev pub spares_argument : (List ℕ → Bool) → ParameterKind → Expr → Bool
spares_argument test k y = list_all test (if changes_argument k then bare_name y else [])

-- the order of two parts could matter
unfoldable pub clash_of : Scope → Expr → Expr → Bool
clash_of g x y = clash g x y

-- the two halves of the answer whether a part may stand beside another
unfoldable pub stands_beside_changes : Scope → Expr → Expr → Bool
stands_beside_changes g x e = not (deeds g x).changes || is_still g (deeds g x).changed false e

unfoldable pub stands_beside_writes : Scope → Expr → Expr → Bool
stands_beside_writes g x e = not (deeds g x).writes || is_still g (deeds g x).changed true e
