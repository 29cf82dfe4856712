-- What is read as a list of expressions is the words of one, where the readers of its expressions read such.
use Rattle.std.proofs.Common.{◌≡◌, ℕ, ◌+◌, ◌-◌, ◌<◌, max, List, [], ◌∷◌, Ok, refl, ap, arith}
use Rattle.std.specs.Prelude.{nat_lt}
use Rattle.std.proofs.lemmas.Bool.{ltb-true}
use Rattle.sl_base.specs.declared.mark.Mark.{Mark}
use Rattle.sl_base.specs.declared.mark.Mark.TheVariants as m
use Rattle.sl_base.specs.declared.token.Token.{Token}
use Rattle.sl_syntax.specs.Depth.{height, list_height, highest}
use Rattle.sl_syntax.specs.Shaped.{IsExpr, AreExprs, IsSomeList, AreSome}
use Rattle.sl_syntax.specs.Tree as t
use Rattle.sl_syntax.specs.Tree.{Expr, Exprs, exprs_from}
use Rattle.sl_syntax.specs.Written.{written, list_written}
use Rattle.sl_grammar.specs.Means.Expressions.{comma_expr, list_behind, list, list_before}
use Rattle.sl_grammar.specs.Means.Steps.{Reader, Tall, kind_at, is_mark, mark, all_behind}
use Rattle.sl_grammar.proofs.Rows.{comma_expr_written, rest-written, rest-height, are_exprs}
use Rattle.sl_grammar.proofs.SoundSteps.{Took, bound, chosen, guarded, answered, mark_plain, Part, Parts, behind, some_items}
use Rattle.sl_grammar.proofs.Spelling.{◌⨾◌, no_words, respelled}

list-height : (x : Expr) (xs : List Expr) → AreSome xs → list_height (t.with x (exprs_from xs)) ≡ max (height x) (highest height xs) + 1
list-height x [] h = absurd (omega arith)
list-height x (y ∷ ys) h = ap (λ (n : ℕ). max (height x) (max (height y) n) + 1) (rest-height ys)

-- expressions, at least one
abbrev pub SomeExprs : Exprs → Type 0
SomeExprs xs = IsSomeList xs × AreExprs xs

-- what is read from these tokens
abbrev pub SomeListAt : ℕ → List Token → Took Exprs → Type 0
SomeListAt depth_left ts y = Part list_written SomeExprs list_height depth_left ts y.0 y.1

abbrev pub ListAt : ℕ → List Token → Took Exprs → Type 0
ListAt depth_left ts y = Part list_written AreExprs list_height depth_left ts y.0 y.1

-- expressions that are read by one, and by more behind a comma, one node deeper
module _ (one more : Reader (Tall Expr)) (depth_left : ℕ) (f : Parts written IsExpr height depth_left one)
    (g : (ts : List Token) (y : Took Expr) → more ts ≡ Ok y → (0 < depth_left) × Part written IsExpr height (depth_left - 1) ts y.0 y.1) where
  pub comma-part : Parts comma_expr_written IsExpr height (depth_left - 1) (comma_expr one more depth_left)
  comma-part ts y h =
      let P : Took Expr → Type 0 = λ z. Part comma_expr_written IsExpr height (depth_left - 1) ts z.0 z.1 in
      bound (mark m.Comma ts) _ y P h (λ u comma h1.
      let x = g u.1 y h1 in
      record { spelled = mark_plain m.Comma ts u comma ⨾ x.1.spelled; fits = x.1.fits; size = x.1.size; low = x.1.low })

  behind-part : (ts us : List Token) (x : Tall Expr) (y : Took Exprs) → Part written IsExpr height depth_left ts x us
      → list_behind one more depth_left x us ≡ Ok y
      → SomeListAt depth_left ts y
  unfolding list_behind
  behind-part ts us x y first h =
      let P : Took Exprs → Type 0 = SomeListAt depth_left ts in
      chosen (is_mark m.Comma (kind_at us)) _ _ _ (P y) h
      (λ comma h1.
      guarded (nat_lt x.1 depth_left) _ _ y P h1 (λ below h2.
      bound (all_behind (is_mark m.Comma) (comma_expr one more depth_left) ([], 0) us) _ y P h2 (λ xs read h3.
      let others = behind comma_expr_written IsExpr height (depth_left - 1) (is_mark m.Comma) (comma_expr one more depth_left) comma-part
      ([], 0) us xs read in
      let some : AreSome others.items = some_items comma_expr_written (is_mark m.Comma) others.items us xs.1 others.spelled comma others.stops in
      let tall : list_height (t.with x.0 (exprs_from others.items)) ≡ max (height x.0) (highest height others.items) + 1 =
      list-height x.0 others.items some in
      let lower : x.1 < depth_left = ltb-true x.1 depth_left below in
      answered _ y P h3 (record {
        spelled = rw others.all (first.spelled ⨾ respelled (rest-written others.items) others.spelled);
        fits = rw others.all (tt, (first.fits, are_exprs others.items others.each));
        size = rw others.all (omega (arith, tall, first.size, others.size));
        low = omega (arith, first.low, others.size, others.low);
      }))))
      (λ alone h1.
      answered _ y P h1 (record { spelled = first.spelled ⨾ no_words us; fits = (tt, (first.fits, tt)); size = first.size; low = first.low }))

  pub list-part : Parts list_written SomeExprs list_height depth_left (list one more depth_left)
  unfolding list
  list-part ts y h =
      let P : Took Exprs → Type 0 = SomeListAt depth_left ts in
      bound (one ts) _ y P h (λ x read h1. behind-part ts x.1 x.0 y (f ts x read) h1)

  pub list-before-part : (close : Mark) → Parts list_written AreExprs list_height depth_left (list_before one more depth_left close)
  unfolding list_before
  list-before-part close ts y h =
      let P : Took Exprs → Type 0 = ListAt depth_left ts in
      chosen (is_mark close (kind_at ts)) _ _ _ (P y) h
      (λ closes h1. answered _ y P h1 (record { spelled = no_words ts; fits = tt; size = refl; low = omega arith }))
      (λ opens h1.
      let found = list-part ts y h1 in
      record { spelled = found.spelled; fits = found.fits.1; size = found.size; low = found.low })
