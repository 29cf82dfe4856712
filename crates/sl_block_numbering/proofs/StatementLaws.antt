-- Statements from their parts: what is known behind them, and what they are typed as.
use Rattle.std.proofs.Common.{◌≡◌, ℕ, Bool, true, Option, Some, None, length, refl, sym, ap, ◌∙◌}
use Rattle.std.specs.Prelude.{if◌then◌else◌}
use Rattle.sl_base.specs.declared.place.Place.{Place}
use Rattle.sl_contexts.specs.declared.outside.Outside.{Outside}
use Rattle.sl_contexts.specs.Scoping.{outside_of}
use Rattle.sl_syntax.specs.declared.tree.element.Element.{Element}
use Rattle.sl_syntax.specs.declared.tree.identifier.Identifier.{Identifier}
use Rattle.sl_syntax.specs.Tree as s
use Rattle.sl_syntax.specs.Typed as t
use Rattle.sl_syntax.specs.Tree.{Effect, Cond, First, Stmt, Items}
use Rattle.sl_typing.specs.declared.scope.Scope.{Scope}
use Rattle.sl_typing.specs.Contexts.{Context, started_loop, enter, leave, with_sites}
use Rattle.sl_typing.specs.Flow.{in_while, in_for, in_range, after, after_items}
use Rattle.sl_typing.specs.Sites.{brace_site, declares_container}
use Rattle.sl_typing.specs.StatementNumbering.{typed_stmt, typed_items}
use Rattle.sl_expr_sites.proofs.ScopeLaws.{Extends, behind_cond-scope, after-scope, after_items-extends}
use Rattle.sl_expr_sites.proofs.LoopScopes.{in_for-extends, in_range-extends}

-- behind a `while`
pub while_behind : (g m1 m2 new : Context) (in_loop : Bool) (at : Place) (k : Cond) (a : Stmt) → m1 ≡ in_while g at k → in_loop ≡ g.scope.in_loop
    → m2 ≡ after m1 a
    → ((h : Context) → m2.scope ≡ record h.scope { in_loop = m2.scope.in_loop } → in_loop ≡ h.scope.in_loop → new ≡ leave h m2)
    → new ≡ after g (s.while at k a)
unfolding after
while_behind g m1 m2 new in_loop at k a i b e leaves =
    let last : m2.scope ≡ record g.scope { in_loop = true } =
    ap (λ (h : Context). h.scope) e ∙ after-scope m1 a ∙ ap (λ (h : Context). h.scope) i
    ∙ ap (λ (x : Scope). record x { in_loop = true }) (behind_cond-scope (started_loop at g) k) in
    leaves g (last ∙ ap (λ (z : Bool). record g.scope { in_loop = z }) (sym (ap (λ (x : Scope). x.in_loop) last))) b
    ∙ ap (λ (h : Context). leave g h) (e ∙ ap (λ (h : Context). after h a) i)

-- behind a loop with a scope of its own
scoped : (g inside m1 m2 new : Context) (outside : Outside) (a : Stmt) → m1 ≡ inside → m2 ≡ after m1 a → Extends g.scope inside.scope
    → outside ≡ outside_of g.scope
    → ((h : Context) → outside ≡ outside_of h.scope → h.scope.functions ≡ m2.scope.functions → h.scope.result ≡ m2.scope.result → new ≡ leave h m2)
    → new ≡ leave g (after inside a)
scoped g inside m1 m2 new outside a i e x o leaves =
    let last = ap (λ (h : Context). h.scope) e ∙ after-scope m1 a ∙ ap (λ (h : Context). h.scope) i in
    leaves g o (sym (ap (λ (y : Scope). y.functions) last ∙ x.functions)) (sym (ap (λ (y : Scope). y.result) last ∙ x.result))
    ∙ ap (λ (h : Context). leave g h) (e ∙ ap (λ (h : Context). after h a) i)

-- behind a `for`
pub for_behind : (g m1 m2 new : Context) (outside : Outside) (at : Place) (first : Option First) (k : Option Cond) (w : Option Effect) (a : Stmt)
    → m1 ≡ in_for g at first k w → m2 ≡ after m1 a → outside ≡ outside_of g.scope
    → ((h : Context) → outside ≡ outside_of h.scope → h.scope.functions ≡ m2.scope.functions → h.scope.result ≡ m2.scope.result → new ≡ leave h m2)
    → new ≡ after g (s.for at first k w a)
unfolding after
for_behind g m1 m2 new outside at first k w a i e o leaves =
    scoped g (in_for g at first k w) m1 m2 new outside a i e (in_for-extends g at first k w) o leaves

-- behind a range-for
pub range_behind : (g m1 m2 new : Context) (outside : Outside) (at : Place) (how : Element) (x over : Identifier) (a : Stmt)
    → m1 ≡ in_range g at how x over → m2 ≡ after m1 a → outside ≡ outside_of g.scope
    → ((h : Context) → outside ≡ outside_of h.scope → h.scope.functions ≡ m2.scope.functions → h.scope.result ≡ m2.scope.result → new ≡ leave h m2)
    → new ≡ after g (s.range_for at how x over a)
unfolding after
range_behind g m1 m2 new outside at how x over a i e o leaves =
    scoped g (in_range g at how x over) m1 m2 new outside a i e (in_range-extends g at how x over) o leaves

-- behind a block
pub block_behind : (g m0 m1 m2 new : Context) (outside : Outside) (at : Place) (items : Items) (close : Place)
    → m0 ≡ enter g → outside ≡ outside_of g.scope → m1 ≡ after_items m0 items → m2 ≡ with_sites (brace_site items close) m1
    → ((h : Context) → outside ≡ outside_of h.scope → h.scope.functions ≡ m2.scope.functions → h.scope.result ≡ m2.scope.result → new ≡ leave h m2)
    → new ≡ after g (s.block at items close)
unfolding after
block_behind g m0 m1 m2 new outside at items close e o i b leaves =
    let x = after_items-extends (enter g) items in
    let all : m2 ≡ with_sites (brace_site items close) (after_items (enter g) items) =
    b ∙ ap (λ (h : Context). with_sites (brace_site items close) h) (i ∙ ap (λ (h : Context). after_items h items) e) in
    let last = ap (λ (h : Context). h.scope) all in
    leaves g o (sym (ap (λ (y : Scope). y.functions) last ∙ x.functions)) (sym (ap (λ (y : Scope). y.result) last ∙ x.result))
    ∙ ap (λ (h : Context). leave g h) all

-- a block, typed
pub block_typed : (g m0 m1 : Context) (at : Place) (items : Items) (close : Place) (site : Option ℕ) (xs : t.Stmts) → m0 ≡ enter g
    → m1 ≡ after_items m0 items → site ≡ (if declares_container items then Some (length m1.sites) else None) → xs ≡ typed_items m0 items
    → t.block site xs ≡ typed_stmt g (s.block at items close)
unfolding typed_stmt
block_typed g m0 m1 at items close site xs e i b y = rw (y, b, i, e) refl
