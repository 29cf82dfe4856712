-- Deeds as a test of variables sees them.
use Rattle.std.proofs.Common.{◌≡◌, ℕ, refl, sym, ap, ◌∙◌}
use Rattle.std.proofs.lemmas.List.Folds.{list_all-append}
use Rattle.std.specs.Prelude.{Bool, true, false, ◌&&◌, ◌||◌, List, [], ◌∷◌, if◌then◌else◌}
use Rattle.std.specs.List.{list_all, zip}
use Rattle.sl_syntax.specs.declared.tree.expr.Expr.{Expr as ExprCode}
use Rattle.sl_syntax.specs.declared.typed.parameter.ParameterKind.{ParameterKind}
use Rattle.sl_syntax.specs.TreeView.{expr_of, exprs_of}
use Rattle.sl_typing.specs.declared.scope.Scope.{Scope}
use Rattle.sl_typing.specs.Types.{is_container}
use Rattle.sl_typing.specs.TypeOf.{type_of}
use Rattle.sl_typing.specs.Looks.{bare_name}
use Rattle.sl_typing.specs.Order.{Deeds, both, changing, nothing_done, container_names, handed_names, changes_argument}
use Rattle.sl_effect_order.specs.declared.seen_deeds.SeenDeeds.{SeenDeeds}
use Rattle.sl_effect_order.specs.Means.Seen.{seen, both_seen, change_seen, spares_argument, spares_container}

-- a change of variables
pub seen-changing : (test : List ℕ → Bool) (names : List (List ℕ)) → change_seen (list_all test names) ≡ seen test (changing names)
unfolding seen change_seen
seen-changing test names = refl

-- what two parts do
pub seen-both : (test : List ℕ → Bool) (x y : Deeds) → seen test (both x y) ≡ both_seen (seen test x) (seen test y)
unfolding seen both_seen
seen-both test x y =
    ap (λ (b : Bool). let d : SeenDeeds = record { changes = x.changes || y.changes; writes = x.writes || y.writes; spares = b } in d)
    (list_all-append test x.changed y.changed)

or_assoc : (a b c : Bool) → ((a || b) || c) ≡ (a || (b || c))
or_assoc true b c = refl
or_assoc false b c = refl

or_false : (b : Bool) → (b || false) ≡ b
or_false true = refl
or_false false = refl

and_assoc : (a b c : Bool) → ((a && b) && c) ≡ (a && (b && c))
and_assoc true b c = refl
and_assoc false b c = refl

and_true : (b : Bool) → (b && true) ≡ b
and_true true = refl
and_true false = refl

-- deeds of equal parts
same_seen : (a b c d e f : Bool) → a ≡ d → b ≡ e → c ≡ f
    → ◌≡◌ {A = SeenDeeds} (record { changes = a; writes = b; spares = c }) (record { changes = d; writes = e; spares = f })
same_seen a b c d e f k l m =
    ap (λ (x : Bool). let r : SeenDeeds = record { changes = x; writes = b; spares = c } in r) k
    ∙ ap (λ (x : Bool). let r : SeenDeeds = record { changes = d; writes = x; spares = c } in r) l
    ∙ ap (λ (x : Bool). let r : SeenDeeds = record { changes = d; writes = e; spares = x } in r) m

-- parts in turn
pub both_assoc : (x y z : SeenDeeds) → both_seen (both_seen x y) z ≡ both_seen x (both_seen y z)
unfolding both_seen
both_assoc x y z =
    same_seen _ _ _ _ _ _ (or_assoc x.changes y.changes z.changes) (or_assoc x.writes y.writes z.writes) (and_assoc x.spares y.spares z.spares)

-- a part that does nothing
pub both_none : (test : List ℕ → Bool) (x : SeenDeeds) → both_seen x (seen test nothing_done) ≡ x
unfolding seen both_seen
both_none test x = same_seen _ _ _ _ _ _ (or_false x.changes) (or_false x.writes) (and_true x.spares)

pub none_both : (test : List ℕ → Bool) (x : SeenDeeds) → both_seen (seen test nothing_done) x ≡ x
unfolding seen both_seen
none_both test x = refl

-- the containers among arguments, one by one
pub containers-each : (test : List ℕ → Bool) (g : Scope) (xs : List ExprCode)
    → list_all (λ (x : ExprCode). spares_container test g (expr_of x)) xs ≡ list_all test (container_names g (exprs_of xs))
containers-each test g [] = refl
containers-each test g (x ∷ xs) =
    ap (λ (b : Bool). spares_container test g (expr_of x) && b) (containers-each test g xs)
    ∙ sym (list_all-append test (if is_container (type_of g (expr_of x)) then bare_name (expr_of x) else []) (container_names g (exprs_of xs)))

-- the arguments that are bound to references, one by one
pub handed-each : (test : List ℕ → Bool) (ks : List ParameterKind) (xs : List ExprCode)
    → list_all (λ (p : ParameterKind × ExprCode). spares_argument test p.0 (expr_of p.1)) (zip ks xs) ≡ list_all test (handed_names ks (exprs_of xs))
handed-each test [] xs = refl
handed-each test (k ∷ ks) [] = refl
handed-each test (k ∷ ks) (x ∷ xs) =
    ap (λ (b : Bool). spares_argument test k (expr_of x) && b) (handed-each test ks xs)
    ∙ sym (list_all-append test (if changes_argument k then bare_name (expr_of x) else []) (handed_names ks (exprs_of xs)))
