-- Statements: their parts in their order, their own rules behind them, and the scope that they leave as it was.
use Rattle.std.proofs.Common.{◌≡◌, Bool, true, not, List, ◌++◌, Option, Result, sym, ap, ◌∙◌, append_assoc}
use Rattle.sl_base.specs.declared.place.Place.{Place}
use Rattle.sl_contexts.specs.declared.outside.Outside.{Outside}
use Rattle.sl_contexts.specs.Scoping.{outside_of}
use Rattle.sl_syntax.specs.declared.tree.element.Element.{Element}
use Rattle.sl_syntax.specs.declared.tree.identifier.Identifier.{Identifier}
use Rattle.sl_syntax.specs.Tree as s
use Rattle.sl_syntax.specs.Tree.{Expr, Declaration, Cond, First, Effect, Stmt, Items}
use Rattle.sl_syntax.proofs.TreeViews.{stmt_views}
use Rattle.sl_typing.specs.declared.fault.Fault.{Fault}
use Rattle.sl_typing.specs.declared.rules.TheConstants as rule
use Rattle.sl_typing.specs.declared.scope.Scope.{Scope}
use Rattle.sl_typing.specs.Contexts.{Context, started, started_loop, enter, leave, looping, with_sites}
use Rattle.sl_typing.specs.Faults.{broken}
use Rattle.sl_typing.specs.Flow.{behind_value, behind_effect, behind_declaration, behind_cond, in_while, in_for, in_range, at_test, at_last, behind_hidden, after, after_item, after_items}
use Rattle.sl_typing.specs.Ranges.{may_go_over, frees_const}
use Rattle.sl_typing.specs.Scopes.{type_of_name}
use Rattle.sl_typing.specs.Sites.{brace_site, declares_container}
use Rattle.sl_typing.specs.StatementFaults.{cond_faults, first_faults, test_faults, last_faults, name_faults, limit_faults, site_faults, statement_faults}
use Rattle.sl_typing.specs.StatementFaults.{value_faults, effect_faults, declaration_faults, declaration_place, wrong_result, wrong_return}
use Rattle.sl_typing.specs.StatementFaults.{wrong_cond, wrong_test, stmt_faults, item_faults, items_faults}
use Rattle.sl_typing.specs.Typing.{first_of}
use Rattle.sl_first_fault.specs.declared.stop.Stop.{Stop}
use Rattle.sl_first_fault.specs.Means.Steps.{StopsAt, Done, Checks, Answers}
use Rattle.sl_expr_sites.proofs.ScopeLaws.{Extends, behind_cond-scope, after-scope, after_items-extends}
use Rattle.sl_expr_sites.proofs.LoopScopes.{in_for-extends, in_range-extends}
use Rattle.sl_first_fault.proofs.StepLaws.{Answers-along, StopsAt-before, then_stops, then_done, then_checks, moved, started_at, group-2, group-3}

-- an `if`
pub choice : {A : Type 0} (r : Result A Stop) (own : Option Fault) (g m1 m2 : Context) (at : Place) (k : Cond) (a : Stmt)
    → Done (cond_faults (started g) k) m1 (behind_cond (started g) k) → Done (stmt_faults m1 a) m2 (after m1 a)
    → own ≡ first_of (broken (wrong_cond (started g) k) at rule.WRONG_TYPE ++ statement_faults g at) → Checks r own
    → Answers r (stmt_faults g (s.choice at k a)) m2 (after g (s.choice at k a))
unfolding stmt_faults after
choice r own g m1 m2 at k a d1 d2 e h =
    let b = behind_cond (started g) k in
    let parts = cond_faults (started g) k ++ stmt_faults b a in
    let wrong = broken (wrong_cond (started g) k) at rule.WRONG_TYPE in
    let past = statement_faults g at in
    Answers-along r (parts ++ (wrong ++ past)) m2 (after b a) (sym (append_assoc parts wrong past))
    (then_checks r own (wrong ++ past) (then_done (λ (h : Context). stmt_faults h a) m2 (λ (h : Context). after h a) d1 d2) e h)

-- an `if` with an `else`
pub choice_else : {A : Type 0} (r : Result A Stop) (own : Option Fault) (g m1 m2 m3 : Context) (at : Place) (k : Cond) (a b : Stmt)
    → Done (cond_faults (started g) k) m1 (behind_cond (started g) k) → Done (stmt_faults m1 a) m2 (after m1 a) → Done (stmt_faults m2 b) m3 (after m2 b)
    → own ≡ first_of (broken (wrong_cond (started g) k) at rule.WRONG_TYPE ++ statement_faults g at) → Checks r own
    → Answers r (stmt_faults g (s.choice_else at k a b)) m3 (after g (s.choice_else at k a b))
unfolding stmt_faults after
choice_else r own g m1 m2 m3 at k a b d1 d2 d3 e h =
    let inside = behind_cond (started g) k in
    let parts = cond_faults (started g) k ++ stmt_faults inside a ++ stmt_faults (after inside a) b in
    let wrong = broken (wrong_cond (started g) k) at rule.WRONG_TYPE in
    let past = statement_faults g at in
    Answers-along r (parts ++ (wrong ++ past)) m3 (after (after inside a) b) (sym (append_assoc parts wrong past))
    (then_checks r own (wrong ++ past)
    (then_done (λ (h : Context). stmt_faults h b) m3 (λ (h : Context). after h b)
    (then_done (λ (h : Context). stmt_faults h a) m2 (λ (h : Context). after h a) d1 d2) d3) e h)

-- one whose second branch breaks a rule
pub choice_else_stops : (e : Stop) (g m1 m2 : Context) (at : Place) (k : Cond) (a b : Stmt)
    → Done (cond_faults (started g) k) m1 (behind_cond (started g) k) → Done (stmt_faults m1 a) m2 (after m1 a) → StopsAt e (first_of (stmt_faults m2 b))
    → StopsAt e (first_of (stmt_faults g (s.choice_else at k a b)))
unfolding stmt_faults after
choice_else_stops e g m1 m2 at k a b d1 d2 h =
    let inside = behind_cond (started g) k in
    let parts = cond_faults (started g) k ++ stmt_faults inside a ++ stmt_faults (after inside a) b in
    let wrong = broken (wrong_cond (started g) k) at rule.WRONG_TYPE in
    StopsAt-before e (parts ++ wrong) (statement_faults g at) (StopsAt-before e parts wrong
    (then_stops e (λ (h : Context). stmt_faults h b) (then_done (λ (h : Context). stmt_faults h a) m2 (λ (h : Context). after h a) d1 d2) h))

-- the scope behind the body of a loop without a scope of its own
body_scope : (g m1 m2 : Context) (b : Context) (a : Stmt) → m1 ≡ b → b.scope ≡ g.scope → m2 ≡ after (looping m1) a
    → m2.scope ≡ record g.scope { in_loop = true }
body_scope g m1 m2 b a e f h =
    ap (λ (k : Context). k.scope) h ∙ after-scope (looping m1) a
    ∙ ap (λ (k : Scope). record k { in_loop = true }) (ap (λ (k : Context). k.scope) e ∙ f)

-- a `while`
pub while : {A : Type 0} (r : Result A Stop) (own : Option Fault) (g m1 m2 m3 new : Context) (in_loop : Bool) (at : Place) (k : Cond) (a : Stmt)
    → Done (cond_faults (started_loop at g) k) m1 (behind_cond (started_loop at g) k) → m2 ≡ looping m1 → in_loop ≡ m1.scope.in_loop
    → Done (stmt_faults m2 a) m3 (after m2 a)
    → ((k : Context) → m3.scope ≡ record k.scope { in_loop = m3.scope.in_loop } → in_loop ≡ k.scope.in_loop → new ≡ leave k m3)
    → own ≡ first_of (broken (wrong_cond (started_loop at g) k) at rule.WRONG_TYPE ++ statement_faults g at) → Checks r own
    → Answers r (stmt_faults g (s.while at k a)) new (after g (s.while at k a))
unfolding stmt_faults after
while r own g m1 m2 m3 new in_loop at k a d1 l b d3 leaves e h =
    let inside = in_while g at k in
    let parts = cond_faults (started_loop at g) k ++ stmt_faults inside a in
    let wrong = broken (wrong_cond (started_loop at g) k) at rule.WRONG_TYPE in
    let past = statement_faults g at in
    let same = behind_cond-scope (started_loop at g) k in
    let last = body_scope g m1 m3 (behind_cond (started_loop at g) k) a d1.is_known same
    (d3.is_known ∙ ap (λ (h : Context). after h a) l) in
    let left = leaves g
    (last ∙ ap (λ (z : Bool). record g.scope { in_loop = z }) (sym (ap (λ (k : Scope). k.in_loop) last)))
    (b ∙ ap (λ (k : Context). k.scope.in_loop) d1.is_known ∙ ap (λ (k : Scope). k.in_loop) same) in
    Answers-along r (parts ++ (wrong ++ past)) new (leave g (after inside a)) (sym (append_assoc parts wrong past))
    (then_checks r own (wrong ++ past)
    (moved new (λ (h : Context). leave g h)
    (then_done (λ (h : Context). stmt_faults h a) m3 (λ (h : Context). after h a) (moved m2 looping d1 l) d3) left) e h)

-- a loop with a scope of its own
scoped : {A : Type 0} (r : Result A Stop) (own : Option Fault) (g m1 m2 new inside : Context) (outside : Outside) (heads ys : List Fault) (a : Stmt)
    → Done heads m1 inside → Done (stmt_faults m1 a) m2 (after m1 a) → Extends g.scope inside.scope → outside ≡ outside_of g.scope
    → ((k : Context) → outside ≡ outside_of k.scope → k.scope.functions ≡ m2.scope.functions → k.scope.result ≡ m2.scope.result → new ≡ leave k m2)
    → own ≡ first_of ys → Checks r own → Answers r ((heads ++ stmt_faults inside a) ++ ys) new (leave g (after inside a))
scoped r own g m1 m2 new inside outside heads ys a d1 d2 x o leaves e h =
    let last = ap (λ (k : Context). k.scope) d2.is_known ∙ after-scope m1 a ∙ ap (λ (k : Context). k.scope) d1.is_known in
    let left = leaves g o (sym (ap (λ (k : Scope). k.functions) last ∙ x.functions)) (sym (ap (λ (k : Scope). k.result) last ∙ x.result)) in
    then_checks r own ys
    (moved new (λ (h : Context). leave g h) (then_done (λ (h : Context). stmt_faults h a) m2 (λ (h : Context). after h a) d1 d2) left) e h

-- a `for`
pub for : {A : Type 0} (r : Result A Stop) (own : Option Fault) (g m1 m2 new : Context) (outside : Outside) (at : Place) (first : Option First)
    (k : Option Cond) (w : Option Effect) (a : Stmt)
    → Done (first_faults (enter (started_loop at g)) first ++ test_faults (at_test g at first) k ++ last_faults (at_last g at first k) w)
    m1 (in_for g at first k w)
    → Done (stmt_faults m1 a) m2 (after m1 a) → outside ≡ outside_of g.scope
    → ((k : Context) → outside ≡ outside_of k.scope → k.scope.functions ≡ m2.scope.functions → k.scope.result ≡ m2.scope.result → new ≡ leave k m2)
    → own ≡ first_of (broken (wrong_test (at_test g at first) k) at rule.WRONG_TYPE ++ statement_faults g at) → Checks r own
    → Answers r (stmt_faults g (s.for at first k w a)) new (after g (s.for at first k w a))
unfolding stmt_faults after
for r own g m1 m2 new outside at first k w a d1 d2 o leaves e h =
    let inside = in_for g at first k w in
    let heads = first_faults (enter (started_loop at g)) first ++ test_faults (at_test g at first) k ++ last_faults (at_last g at first k) w in
    let wrong = broken (wrong_test (at_test g at first) k) at rule.WRONG_TYPE in
    let past = statement_faults g at in
    Answers-along r ((heads ++ stmt_faults inside a) ++ (wrong ++ past)) new (leave g (after inside a))
    (sym (append_assoc (heads ++ stmt_faults inside a) wrong past))
    (scoped r own g m1 m2 new inside outside heads (wrong ++ past) a d1 d2 (in_for-extends g at first k w) o leaves e h)

-- a range-for
pub range_for : {A : Type 0} (r : Result A Stop) (own : Option Fault) (g m1 m2 new : Context) (outside : Outside) (at : Place) (how : Element)
    (x over : Identifier) (a : Stmt)
    → Done (name_faults g over) m1 (in_range g at how x over)
    → Done (stmt_faults m1 a) m2 (after m1 a) → outside ≡ outside_of g.scope
    → ((k : Context) → outside ≡ outside_of k.scope → k.scope.functions ≡ m2.scope.functions → k.scope.result ≡ m2.scope.result → new ≡ leave k m2)
    → own ≡ first_of (broken (not (may_go_over how (type_of_name g.scope over.name))) at rule.WRONG_TYPE
    ++ broken (frees_const how (type_of_name g.scope over.name)) at rule.WRITE_TO_CONST
    ++ limit_faults (enter (started_loop at g)) (behind_hidden g at over) at
    ++ limit_faults (behind_hidden g at over) (in_range g at how x over) x.place
    ++ statement_faults g at) → Checks r own
    → Answers r (stmt_faults g (s.range_for at how x over a)) new (after g (s.range_for at how x over a))
unfolding stmt_faults after
range_for r own g m1 m2 new outside at how x over a d1 d2 o leaves e h =
    let inside = in_range g at how x over in
    let parts = name_faults g over ++ stmt_faults inside a in
    let wrong = broken (not (may_go_over how (type_of_name g.scope over.name))) at rule.WRONG_TYPE in
    let frees = broken (frees_const how (type_of_name g.scope over.name)) at rule.WRITE_TO_CONST in
    let hidden = limit_faults (enter (started_loop at g)) (behind_hidden g at over) at in
    let past = limit_faults (behind_hidden g at over) inside x.place in
    let late = statement_faults g at in
    let ys = wrong ++ frees ++ hidden ++ past ++ late in
    Answers-along r (parts ++ ys) new (leave g (after inside a))
    (sym (append_assoc parts (wrong ++ frees ++ hidden ++ past) late) ∙ ap (λ (l : List Fault). l ++ late) (group-3 parts wrong frees hidden past))
    (scoped r own g m1 m2 new inside outside (name_faults g over) ys a d1 d2 (in_range-extends g at how x over) o leaves e h)

-- a block
pub block : (g m0 m1 m2 new : Context) (outside : Outside) (at : Place) (items : Items) (close : Place)
    → m0 ≡ enter g → outside ≡ outside_of g.scope → Done (items_faults m0 items) m1 (after_items m0 items)
    → Done (site_faults m1 (declares_container items) close) m2 (with_sites (brace_site items close) m1)
    → ((k : Context) → outside ≡ outside_of k.scope → k.scope.functions ≡ m2.scope.functions → k.scope.result ≡ m2.scope.result → new ≡ leave k m2)
    → Done (stmt_faults g (s.block at items close)) new (after g (s.block at items close))
unfolding stmt_faults after
block g m0 m1 m2 new outside at items close e o d1 d2 leaves =
    let first = started_at m0 (enter g) (λ (h : Context). items_faults h items) (λ (h : Context). after_items h items) m1 e d1 in
    let x = after_items-extends (enter g) items in
    let last = ap (λ (k : Context). k.scope) d2.is_known ∙ ap (λ (k : Context). k.scope) first.is_known in
    let left = leaves g o (sym (ap (λ (k : Scope). k.functions) last ∙ x.functions)) (sym (ap (λ (k : Scope). k.result) last ∙ x.result)) in
    moved new (λ (h : Context). leave g h)
    (then_done (λ (h : Context). site_faults h (declares_container items) close) m2 (λ (h : Context). with_sites (brace_site items close) h) first d2) left

-- statements and items that hold no others
pub item_declares : {A : Type 0} (r : Result A Stop) (g new : Context) (d : Declaration)
    → Answers r (declaration_faults (started g) d ++ statement_faults g (declaration_place d)) new (behind_declaration (started g) d)
    → Answers r (item_faults g (s.declares d)) new (after_item g (s.declares d))
unfolding item_faults after_item
item_declares r g new d h = h

pub item_states : {A : Type 0} (r : Result A Stop) (g new : Context) (a : Stmt) → Answers r (stmt_faults g a) new (after g a)
    → Answers r (item_faults g (s.states a)) new (after_item g (s.states a))
unfolding item_faults after_item
item_states r g new a h = h

pub break : {A : Type 0} (r : Result A Stop) (g new : Context) (at : Place)
    → Answers r (broken (not g.scope.in_loop) at rule.OUTSIDE_A_LOOP ++ statement_faults g at) new (started g)
    → Answers r (stmt_faults g (s.break at)) new (after g (s.break at))
unfolding stmt_faults after
break r g new at h = h

pub continue : {A : Type 0} (r : Result A Stop) (g new : Context) (at : Place)
    → Answers r (broken (not g.scope.in_loop) at rule.OUTSIDE_A_LOOP ++ statement_faults g at) new (started g)
    → Answers r (stmt_faults g (s.continue at)) new (after g (s.continue at))
unfolding stmt_faults after
continue r g new at h = h

pub gives_back : {A : Type 0} (r : Result A Stop) (g new : Context) (at : Place) (v : Option Expr)
    → Answers r (value_faults (started g) v ++ (broken (wrong_result g v) at rule.WRONG_TYPE ++ broken (wrong_return g.scope.result v) at rule.WRONG_RETURN
    ++ statement_faults g at)) new (behind_value (started g) v)
    → Answers r (stmt_faults g (s.gives_back at v)) new (after g (s.gives_back at v))
unfolding stmt_faults after
gives_back r g new at v h =
    let wrong = broken (wrong_result g v) at rule.WRONG_TYPE in
    let due = broken (wrong_return g.scope.result v) at rule.WRONG_RETURN in
    Answers-along r (value_faults (started g) v ++ (wrong ++ due ++ statement_faults g at)) new (behind_value (started g) v)
    (group-2 (value_faults (started g) v) wrong due (statement_faults g at)) h

pub does : {A : Type 0} (r : Result A Stop) (g new : Context) (at : Place) (w : Effect)
    → Answers r (effect_faults (started g) w ++ statement_faults g at) new (behind_effect (started g) w)
    → Answers r (stmt_faults g (s.does at w)) new (after g (s.does at w))
unfolding stmt_faults after
does r g new at w h = h

-- a statement of the code as data
pub ruleset statement_views = (stmt_views)
