-- Where a list of expressions stops at a fault, the tokens before it begin such a list.
use Rattle.std.proofs.Common.{◌≡◌, ℕ, ◌-◌, ◌<◌, ◌≤◌, length, List, [], ◌∷◌, Ok, Err, arith}
use Rattle.std.specs.Prelude.{nat_lt}
use Rattle.std.proofs.lemmas.Bool.{ltb-true}
use Rattle.sl_base.specs.declared.mark.Mark.{Mark}
use Rattle.sl_base.specs.declared.mark.Mark.TheVariants as m
use Rattle.sl_base.specs.declared.token.Token.{Token}
use Rattle.sl_syntax.specs.Depth.{height, list_height, highest}
use Rattle.sl_syntax.specs.Shaped.{IsExpr, AreExprs, IsSomeList}
use Rattle.sl_syntax.specs.Tree as t
use Rattle.sl_syntax.specs.Tree.{Expr, Exprs, exprs_from}
use Rattle.sl_syntax.specs.Written.{written, list_written}
use Rattle.sl_grammar.specs.declared.fault.Fault.TheVariants.{Grammar}
use Rattle.sl_grammar.specs.Means.Expressions.{comma_expr, list_behind, list, list_before}
use Rattle.sl_grammar.specs.Means.Steps.{Reader, Tall, kind_at, is_mark, mark, all_behind}
use Rattle.sl_grammar.proofs.Rows.{comma_expr_written, rest-written, rest-height, are_exprs}
use Rattle.sl_grammar.proofs.SoundLists.{comma-part}
use Rattle.sl_grammar.proofs.SoundSteps.{Took, mark_plain, Part, Parts, chosen}
use Rattle.sl_grammar.proofs.ViableSteps.{Viable, viable, begun, at_once, ◌⨠◌, unfinished, rewritten, some_expr, faulted, tested, no_fault}
use Rattle.sl_grammar.proofs.ViableSteps.{mark_fault, Stops, behind-viable}

-- a list is at most one node higher than its highest
list-low : (x : Expr) (xs : List Expr) (depth_left : ℕ) → height x < depth_left → highest height xs < depth_left
    → list_height (t.with x (exprs_from xs)) ≤ depth_left
list-low x [] depth_left a b = omega arith
list-low x (y ∷ ys) depth_left a b = omega (arith, rest-height ys)

-- expressions, at least one, and no higher than what is left of the depth
abbrev pub SomeLow : ℕ → Exprs → Type 0
SomeLow depth_left xs = IsSomeList xs × AreExprs xs × (list_height xs ≤ depth_left)

-- expressions, no higher than what is left of the depth
abbrev pub ListLow : ℕ → Exprs → Type 0
ListLow depth_left xs = AreExprs xs × (list_height xs ≤ depth_left)

module _ (one more : Reader (Tall Expr)) (depth_left : ℕ) (f : Parts written IsExpr height depth_left one)
    (g : (ts : List Token) (y : Took Expr) → more ts ≡ Ok y → (0 < depth_left) × Part written IsExpr height (depth_left - 1) ts y.0 y.1)
    (first-stops : Stops written IsExpr height depth_left one) (more-stops : 0 < depth_left → Stops written IsExpr height (depth_left - 1) more) where
  comma-stops : 0 < depth_left → Stops comma_expr_written IsExpr height (depth_left - 1) (comma_expr one more depth_left)
  comma-stops high ts n h =
      let P : Type 0 = Viable (λ (x : Expr). IsExpr x × (height x ≤ depth_left - 1)) comma_expr_written ts n in
      faulted (mark m.Comma ts) _ n P h
      (λ h1. viable some_expr (tt, omega arith) (at_once (comma_expr_written some_expr) ts n (mark_fault m.Comma ts n h1)))
      (λ u comma h1.
      let v = more-stops high u.1 n h1 in
      viable v.tree v.fits (mark_plain m.Comma ts u comma ⨠ begun v))

  behind-stops : (ts us : List Token) (x : Tall Expr) (n : ℕ) → Part written IsExpr height depth_left ts x us
      → list_behind one more depth_left x us ≡ Err (Grammar n) → Viable (SomeLow depth_left) list_written ts n
  unfolding list_behind
  behind-stops ts us x n first h =
      let P : Type 0 = Viable (SomeLow depth_left) list_written ts n in
      chosen (is_mark m.Comma (kind_at us)) _ _ _ P h
      (λ comma h1.
      tested (nat_lt x.1 depth_left) _ (length us) n P h1
      (λ below h2.
      let lower : x.1 < depth_left = ltb-true x.1 depth_left below in
      faulted (all_behind (is_mark m.Comma) (comma_expr one more depth_left) ([], 0) us) _ n P h2
      (λ h3.
      let v = behind-viable comma_expr_written IsExpr height (depth_left - 1) (is_mark m.Comma) (comma_expr one more depth_left)
      (comma-part one more depth_left f g)
      (comma-stops (omega arith)) ([], 0) us n h3 in
      viable (t.with x.0 (exprs_from v.tree))
      (tt, (first.fits, are_exprs v.tree v.fits.0), list-low x.0 v.tree depth_left (omega (arith, first.size)) (omega (arith, v.fits.1)))
      (first.spelled ⨠ rewritten (rest-written v.tree) (begun v)))
      (λ xs read h3. no_fault _ n P h3))
      (λ _ e. viable (t.with x.0 t.none) (tt, (first.fits, tt), omega (arith, first.size, first.low)) (first.spelled ⨠ at_once [] us n e)))
      (λ alone h1. no_fault _ n P h1)

  pub list-viable : (ts : List Token) (n : ℕ) → list one more depth_left ts ≡ Err (Grammar n) → Viable (SomeLow depth_left) list_written ts n
  unfolding list
  list-viable ts n h =
      let P : Type 0 = Viable (SomeLow depth_left) list_written ts n in
      faulted (one ts) _ n P h
      (λ h1.
      let v = first-stops ts n h1 in
      viable (t.with v.tree t.none) (tt, (v.fits.0, tt), v.fits.1) (unfinished (begun v) []))
      (λ x read h1. behind-stops ts x.1 x.0 n (f ts x read) h1)

  pub list-before-viable : (close : Mark) (ts : List Token) (n : ℕ) → list_before one more depth_left close ts ≡ Err (Grammar n)
      → Viable (ListLow depth_left) list_written ts n
  unfolding list_before
  list-before-viable close ts n h =
      let P : Type 0 = Viable (ListLow depth_left) list_written ts n in
      chosen (is_mark close (kind_at ts)) _ _ _ P h
      (λ closes h1. no_fault _ n P h1)
      (λ opens h1.
      let v = list-viable ts n h1 in
      viable v.tree (v.fits.1, v.fits.2) (begun v))
