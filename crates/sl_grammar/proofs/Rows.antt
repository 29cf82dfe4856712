-- What stands in rows, one behind another: how it is written, and the lists that it makes.
use Rattle.std.proofs.Common.{◌≡◌, ℕ, max, List, [], ◌∷◌, ◌++◌, refl, ap}
use Rattle.std.specs.Prelude.{flat_map, ⊤}
use Rattle.sl_base.specs.declared.mark.Mark.TheVariants as m
use Rattle.sl_syntax.specs.declared.tree.function.Param.{Param}
use Rattle.sl_syntax.specs.declared.tree.identifier.Identifier.{Identifier}
use Rattle.sl_syntax.specs.Depth.{height, rest_height, highest, item_height, items_height}
use Rattle.sl_syntax.specs.Shaped.{Each, IsExpr, AreExprs, IsItem, AreItems}
use Rattle.sl_syntax.specs.Tree.{Expr, exprs_from, Out, Item, items_from}
use Rattle.sl_syntax.specs.Written as s
use Rattle.sl_syntax.specs.Written.{Written, written, rest_written, item_written, items_written, param_written, out_written}

-- nothing more is asked
abbrev pub Anything : {A : Type 0} → A → Type 0
Anything x = ⊤

pub each-anything : {A : Type 0} (xs : List A) → Each Anything xs
each-anything [] = tt
each-anything (x ∷ xs) = (tt, each-anything xs)

-- an expression behind a comma
abbrev pub comma_expr_written : Expr → List Written
comma_expr_written x = s.mark m.Comma ∷ written x

pub rest-written : (xs : List Expr) → flat_map comma_expr_written xs ≡ rest_written (exprs_from xs)
rest-written [] = refl
rest-written (x ∷ xs) = ap (λ (l : List Written). s.mark m.Comma ∷ (written x ++ l)) (rest-written xs)

pub rest-height : (xs : List Expr) → rest_height (exprs_from xs) ≡ highest height xs
rest-height [] = refl
rest-height (x ∷ xs) = ap (max (height x)) (rest-height xs)

pub are_exprs : (xs : List Expr) → Each IsExpr xs → AreExprs (exprs_from xs)
are_exprs [] h = tt
are_exprs (x ∷ xs) h = (h.0, are_exprs xs h.1)

-- items in their order
pub items-written : (xs : List Item) → flat_map item_written xs ≡ items_written (items_from xs)
items-written [] = refl
items-written (x ∷ xs) = ap (λ (l : List Written). item_written x ++ l) (items-written xs)

pub items-height : (xs : List Item) → items_height (items_from xs) ≡ highest item_height xs
items-height [] = refl
items-height (x ∷ xs) = ap (max (item_height x)) (items-height xs)

pub are_items : (xs : List Item) → Each IsItem xs → AreItems (items_from xs)
are_items [] h = tt
are_items (x ∷ xs) h = (h.0, are_items xs h.1)

-- a parameter behind a comma
abbrev pub comma_param_written : Param → List Written
comma_param_written x = s.mark m.Comma ∷ param_written x

-- `>> x`
abbrev pub name_written : Identifier → List Written
name_written x = s.mark m.ShiftRight ∷ s.named x ∷ []

-- a name has no height
abbrev pub flat : Identifier → ℕ
flat x = 0

-- `<< x`
abbrev pub shifted_written : Out → List Written
shifted_written x = s.mark m.ShiftLeft ∷ out_written x
