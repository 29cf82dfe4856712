-- Statements, functions and programs that break no rule pass no limit of sites.
use Rattle.std.proofs.Common.{◌≡◌, ℕ, ◌+◌, ◌==◌, ◌≤◌, ◌&&◌, List, [], ◌∷◌, ◌++◌, length, Option, Some, None, refl, arith, length-append}
use Rattle.sl_base.specs.declared.limits.TheConstants.{SITES, LIST_ELEMENTS}
use Rattle.sl_syntax.specs.Tree as s
use Rattle.sl_syntax.specs.Tree.{Expr, Exprs, Initializer, Declaration, Effect, Cond, First, Stmt, Items, Function, Program}
use Rattle.sl_typing.specs.declared.expr_type.ExprType.{ExprType}
use Rattle.sl_typing.specs.declared.expr_type.ExprType.TheVariants as types
use Rattle.sl_typing.specs.declared.rules.TheConstants as rule
use Rattle.sl_typing.specs.declared.standing.Standing.TheVariants as standing
use Rattle.sl_typing.specs.Contexts.{Context, enter, started, started_loop, with_hidden}
use Rattle.sl_typing.specs.Faults.{broken}
use Rattle.sl_typing.specs.Looks.{place_of}
use Rattle.sl_typing.specs.Sites.{sites_in, sites_in_all, site_count, behind, declares_container}
use Rattle.sl_typing.specs.Scopes.{type_of_name}
use Rattle.sl_typing.specs.Flow.{behind_initializer, behind_declaration, behind_cond, behind_first, behind_test, behind_last, at_test, at_last, in_for, in_range, in_while}
use Rattle.sl_typing.specs.Flow.{after, after_item, after_items}
use Rattle.sl_typing.specs.StatementFaults.{expr_faults, element_faults, initializer_faults, twice_faults, limit_faults, value_faults, wrong_value, declaration_faults}
use Rattle.sl_typing.specs.StatementFaults.{first_faults, test_faults, last_faults, cond_faults, wrong_cond, effect_faults, site_faults, statement_faults}
use Rattle.sl_typing.specs.StatementFaults.{wrong_result, wrong_return, declaration_place, stmt_faults, item_faults, items_faults}
use Rattle.sl_well_typed.proofs.Parts.{none_in_both, none_in_three, unbroken}
use Rattle.sl_well_typed.proofs.FewSites.{arguments_few}
use Rattle.sl_well_typed.proofs.FewParts.{expr_few, value_few, cond_few, site_few, effect_few}
use Rattle.sl_well_typed.proofs.Statements.{range_kept, for_kept}

-- behind the elements of a list in braces
elements_few : (g : Context) (k : ℕ) (xs : Exprs) → element_faults g k xs ≡ [] → length g.sites ≤ SITES
    → length g.sites + length (sites_in_all g.scope xs) ≤ SITES
unfolding sites_in sites_in_all site_count
elements_few g k s.none none few = omega arith
elements_few g k (s.with x xs) none few =
    let kept = none_in_three (expr_faults g x) (broken (k == LIST_ELEMENTS) (place_of x) rule.TOO_MANY_ELEMENTS) (element_faults (behind g x) (k + 1) xs)
    none in
    let first = expr_few g x kept.0 few in
    let rest = elements_few (behind g x) (k + 1) xs kept.2 first in
    let own = length-append g.sites (sites_in g.scope x) in
    let count = length-append (sites_in g.scope x) (sites_in_all g.scope xs) in
    omega (arith, rest, own, count)

-- behind what a container is made from
initializer_few : (g : Context) (value : Initializer) → initializer_faults g value ≡ [] → length g.sites ≤ SITES
    → length (behind_initializer g value).sites ≤ SITES
initializer_few g s.absent none few = few
initializer_few g (s.copies x) none few = few
initializer_few g (s.braces equal xs) none few =
    let all = elements_few g 0 xs none few in let count = length-append g.sites (sites_in_all g.scope xs) in omega (arith, all, count)
initializer_few g (s.arguments xs) none few =
    let all = arguments_few g.scope (length g.sites) standing.Plain xs none few in
    let count = length-append g.sites (sites_in_all g.scope xs) in omega (arith, all, count)

-- the first of five, of four
first_of_four : {X : Type 0} (a b c d : List X) → a ++ b ++ c ++ d ≡ [] → a ≡ []
first_of_four [] b c d h = refl
first_of_four (x ∷ a) b c d h = absurd cc

first_of_five : {X : Type 0} (a b c d e : List X) → a ++ b ++ c ++ d ++ e ≡ [] → a ≡ []
first_of_five [] b c d e h = refl
first_of_five (x ∷ a) b c d e h = absurd cc

first_of_six : {X : Type 0} (a b c d e f : List X) → a ++ b ++ c ++ d ++ e ++ f ≡ [] → a ≡ []
first_of_six [] b c d e f h = refl
first_of_six (x ∷ a) b c d e f h = absurd cc

-- behind a declaration
declaration_few : (g : Context) (d : Declaration) → declaration_faults g d ≡ [] → length g.sites ≤ SITES → length (behind_declaration g d).sites ≤ SITES
declaration_few g (s.declares_scalar at type x value) none few = value_few g value (first_of_four (value_faults g value) (twice_faults g x) (broken (wrong_value g value) at rule.WRONG_TYPE)
    (limit_faults g (behind_declaration g (s.declares_scalar at type x value)) x.place) none) few
declaration_few g (s.declares_auto at x e) none few = expr_few g e (first_of_four (expr_faults g e) _ _ _ none) few
declaration_few g (s.declares_reference head x e) none few = expr_few g e (first_of_five (expr_faults g e) _ _ _ _ none) few
declaration_few g (s.declares_container ct x value) none few =
    initializer_few g value (first_of_six (initializer_faults g value) _ _ _ _ _ none) few

-- behind the parts of a `for`
first_few : (g : Context) (first : Option First) → first_faults g first ≡ [] → length g.sites ≤ SITES → length (behind_first g first).sites ≤ SITES
first_few g None none few = few
first_few g (Some (s.first_scalar at type x e)) none few = declaration_few g (s.declares_scalar at type x (Some e)) none few
first_few g (Some (s.first_auto at x e)) none few = declaration_few g (s.declares_auto at x e) none few
first_few g (Some (s.first_effect w)) none few = effect_few g w none few

test_few : (g : Context) (k : Option Cond) → test_faults g k ≡ [] → length g.sites ≤ SITES → length (behind_test g k).sites ≤ SITES
test_few g None none few = few
test_few g (Some k) none few = cond_few g k none few

last_few : (g : Context) (w : Option Effect) → last_faults g w ≡ [] → length g.sites ≤ SITES → length (behind_last g w).sites ≤ SITES
last_few g None none few = few
last_few g (Some w) none few = effect_few g w none few

-- hidden iterators are no sites
hidden_few : (u : ExprType) (g : Context) → length g.sites ≤ SITES → length (with_hidden u g).sites ≤ SITES
hidden_few (types.Container access form) g few = few
hidden_few u g few = few

mutual
  unfolding stmt_faults item_faults items_faults after after_item after_items

  -- behind a statement
  stmt_few : (g : Context) (a : Stmt) → stmt_faults g a ≡ [] → length g.sites ≤ SITES → length (after g a).sites ≤ SITES
  stmt_few g (s.block at items close) none few =
      let last = after_items (enter g) items in
      let kept = none_in_both (items_faults (enter g) items) (site_faults last (declares_container items) close) none in
      let all = items_few (enter g) items kept.0 few in
      site_few last (declares_container items) close
      (unbroken (declares_container items && (length last.sites == SITES)) close rule.TOO_MANY_SITES kept.1) all
  stmt_few g (s.choice at k a) none few =
      let then = behind_cond (started g) k in
      let kept = none_in_both (cond_faults (started g) k ++ stmt_faults then a ++ broken (wrong_cond (started g) k) at rule.WRONG_TYPE)
      (statement_faults g at) none in
      let three = none_in_three (cond_faults (started g) k) (stmt_faults then a) (broken (wrong_cond (started g) k) at rule.WRONG_TYPE) kept.0 in
      stmt_few then a three.1 (cond_few (started g) k three.0 few)
  stmt_few g (s.choice_else at k a b) none few =
      let then = behind_cond (started g) k in
      let wrong = broken (wrong_cond (started g) k) at rule.WRONG_TYPE in
      let kept = none_in_both (cond_faults (started g) k ++ stmt_faults then a ++ stmt_faults (after then a) b ++ wrong) (statement_faults g at) none in
      let four = none_in_both (cond_faults (started g) k ++ stmt_faults then a ++ stmt_faults (after then a) b) wrong kept.0 in
      let three = none_in_three (cond_faults (started g) k) (stmt_faults then a) (stmt_faults (after then a) b) four.0 in
      stmt_few (after then a) b three.2 (stmt_few then a three.1 (cond_few (started g) k three.0 few))
  stmt_few g (s.while at k a) none few =
      let begun = started_loop at g in
      let wrong = broken (wrong_cond begun k) at rule.WRONG_TYPE in
      let kept = none_in_both (cond_faults begun k ++ stmt_faults (in_while g at k) a ++ wrong) (statement_faults g at) none in
      let three = none_in_three (cond_faults begun k) (stmt_faults (in_while g at k) a) wrong kept.0 in
      stmt_few (in_while g at k) a three.1 (cond_few begun k three.0 few)
  stmt_few g (s.for at first k last a) none few =
      let kept = for_kept g at first k last a none in
      let one = first_few (enter (started_loop at g)) first kept.begins few in
      let two = test_few (at_test g at first) k kept.tests one in
      let three = last_few (at_last g at first k) last kept.ends two in
      stmt_few (in_for g at first k last) a kept.body three
  stmt_few g (s.range_for at how x over a) none few =
      stmt_few (in_range g at how x over) a (range_kept g at how x over a none).body
      (hidden_few (type_of_name g.scope over.name) (enter (started_loop at g)) few)
  stmt_few g (s.break at) none few = few
  stmt_few g (s.continue at) none few = few
  stmt_few g (s.gives_back at value) none few =
      value_few (started g) value (first_of_four (value_faults (started g) value) (broken (wrong_result g value) at rule.WRONG_TYPE)
      (broken (wrong_return g.scope.result value) at rule.WRONG_RETURN) (statement_faults g at) none) few
  stmt_few g (s.does at w) none few =
      effect_few (started g) w (none_in_both (effect_faults (started g) w) (statement_faults g at) none).0 few

  -- behind items
  pub items_few : (g : Context) (items : Items) → items_faults g items ≡ [] → length g.sites ≤ SITES → length (after_items g items).sites ≤ SITES
  items_few g s.no_more none few = few
  items_few g (s.followed (s.declares d) rest) none few =
      let next = behind_declaration (started g) d in
      let both = none_in_both (item_faults g (s.declares d)) (items_faults next rest) none in
      let kept = none_in_both (declaration_faults (started g) d) (statement_faults g (declaration_place d)) both.0 in
      items_few next rest both.1 (declaration_few (started g) d kept.0 few)
  items_few g (s.followed (s.states a) rest) none few =
      let both = none_in_both (stmt_faults g a) (items_faults (after g a) rest) none in
      items_few (after g a) rest both.1 (stmt_few g a both.0 few)
