-- What no site changes stays behind effects, conditions and values; where a function gives nothing of their nodes, they add nothing.
use Rattle.std.proofs.Common.{◌≡◌, List, [], ◌∷◌, Option, None, Some, refl, ◌∙◌}
use Rattle.std.specs.List.{filter_map}
use Rattle.sl_base.specs.declared.place.Place.{Place}
use Rattle.sl_syntax.specs.Tree as s
use Rattle.sl_syntax.specs.Tree.{Expr, Initializer, Out, Effect, Cond}
use Rattle.sl_typing.specs.Contexts.{Context, with_sites}
use Rattle.sl_typing.specs.Sites.{behind, sites_in, sites_in_all, assignment_site}
use Rattle.sl_typing.specs.Flow.{behind_value, behind_initializer, behind_out, behind_outs, behind_left, behind_effect, behind_cond}
use Rattle.sl_typing.specs.StatementNumbering.{typed_effect, typed_cond, typed_value}
use Rattle.sl_model.specs.Typing.WellTypedNodes.{Node, nodes_in_effect, nodes_in_cond, nodes_in_value}
use Rattle.sl_typed_numbers.proofs.Silent.{Skips, silent_effect, silent_cond, silent_value}
use Rattle.sl_typed_numbers.proofs.Counting.{Adds, adds_to, adds_nothing}

-- what no site changes
abbrev pub Keeps : (X : Type 0) → (Context → List X) → Type 0
Keeps X m = (places : List Place) (g : Context) → m (with_sites places g) ≡ m g

-- behind a value, and what a container is made from
pub value_keeps : (X : Type 0) (m : Context → List X) → Keeps X m → (g : Context) (v : Option Expr) → m (behind_value g v) ≡ m g
value_keeps X m k g None = refl
value_keeps X m k g (Some e) = k (sites_in g.scope e) g

pub initializer_keeps : (X : Type 0) (m : Context → List X) → Keeps X m → (g : Context) (v : Initializer) → m (behind_initializer g v) ≡ m g
initializer_keeps X m k g s.absent = refl
initializer_keeps X m k g (s.copies x) = refl
initializer_keeps X m k g (s.braces equal xs) = k (sites_in_all g.scope xs) g
initializer_keeps X m k g (s.arguments xs) = k (sites_in_all g.scope xs) g

-- behind the items of a print
out_keeps : (X : Type 0) (m : Context → List X) → Keeps X m → (g : Context) (o : Out) → m (behind_out g o) ≡ m g
out_keeps X m k g (s.value e) = k (sites_in g.scope e) g
out_keeps X m k g (s.text at bytes) = refl
out_keeps X m k g (s.end_line at) = refl

outs_keep : (X : Type 0) (m : Context → List X) → Keeps X m → (g : Context) (os : List Out) → m (behind_outs g os) ≡ m g
outs_keep X m k g [] = refl
outs_keep X m k g (o ∷ os) = outs_keep X m k (behind_out g o) os ∙ out_keeps X m k g o

-- behind an effect, and a condition
effect_keeps : (X : Type 0) (m : Context → List X) → Keeps X m → (g : Context) (w : Effect) → m (behind_effect g w) ≡ m g
effect_keeps X m k g (s.reads r) = refl
effect_keeps X m k g (s.prints at os) = outs_keep X m k g os
effect_keeps X m k g (s.evaluates e) = k (sites_in g.scope e) g
effect_keeps X m k g (s.assigns x op at y) =
    let left = behind_left g (s.assigns x op at y) in
    k (sites_in left.scope y) left ∙ k (assignment_site g.scope x op at) (behind g x) ∙ k (sites_in g.scope x) g

cond_keeps : (X : Type 0) (m : Context → List X) → Keeps X m → (g : Context) (c : Cond) → m (behind_cond g c) ≡ m g
cond_keeps X m k g (s.tests_read r) = refl
cond_keeps X m k g (s.tests_no_read at r) = refl
cond_keeps X m k g (s.tests e) = k (sites_in g.scope e) g

-- nothing is added where a function gives nothing
pub kept : (X : Type 0) (f : Node → Option X) (a b : List X) (nodes : List Node) → b ≡ a → filter_map f nodes ≡ [] → Adds X f a b nodes
kept X f a b nodes h k = adds_to X f a a b nodes h (adds_nothing X f a nodes k)

pub effect_adds_none : (X : Type 0) (f : Node → Option X) (m : Context → List X) → Skips X f → Keeps X m → (g : Context) (w : Effect)
    → Adds X f (m g) (m (behind_effect g w)) (nodes_in_effect (typed_effect g w))
effect_adds_none X f m s k g w =
    kept X f (m g) (m (behind_effect g w)) (nodes_in_effect (typed_effect g w)) (effect_keeps X m k g w) (silent_effect X f s (typed_effect g w))

pub cond_adds_none : (X : Type 0) (f : Node → Option X) (m : Context → List X) → Skips X f → Keeps X m → (g : Context) (c : Cond)
    → Adds X f (m g) (m (behind_cond g c)) (nodes_in_cond (typed_cond g c))
cond_adds_none X f m s k g c =
    kept X f (m g) (m (behind_cond g c)) (nodes_in_cond (typed_cond g c)) (cond_keeps X m k g c) (silent_cond X f s (typed_cond g c))

pub value_adds_none : (X : Type 0) (f : Node → Option X) (m : Context → List X) → Skips X f → Keeps X m → (g : Context) (v : Option Expr)
    → Adds X f (m g) (m (behind_value g v)) (nodes_in_value (typed_value g v))
value_adds_none X f m s k g v =
    kept X f (m g) (m (behind_value g v)) (nodes_in_value (typed_value g v)) (value_keeps X m k g v) (silent_value X f s (typed_value g v))
