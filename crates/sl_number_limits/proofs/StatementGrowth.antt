-- What stands before a place only grows along statements and items.
use Rattle.std.proofs.Common.{Option, refl}
use Rattle.sl_base.specs.declared.place.Place.{Place}
use Rattle.sl_syntax.specs.declared.tree.element.Element.{Element}
use Rattle.sl_syntax.specs.declared.tree.identifier.Identifier.{Identifier}
use Rattle.sl_syntax.specs.Tree as s
use Rattle.sl_syntax.specs.Tree.{Effect, Cond, First, Stmt, Item, Items}
use Rattle.sl_typing.specs.Scopes.{type_of_name}
use Rattle.sl_typing.specs.Contexts.{Context, declare, enter, leave, looping, started, started_loop, with_sites}
use Rattle.sl_typing.specs.Ranges.{element_type}
use Rattle.sl_typing.specs.Sites.{brace_site}
use Rattle.sl_typing.specs.Flow.{behind_value, behind_effect, behind_cond, behind_last, at_test, at_last, in_for}
use Rattle.sl_typing.specs.Flow.{behind_hidden, in_range, in_while, behind_declaration, after, after_item, after_items}
use Rattle.sl_number_limits.proofs.Growth.{Grows, stays, along, rescoped, sites_grow, declared_grows, started_grows, started_loop_grows, hidden_grows}
use Rattle.sl_number_limits.proofs.Growth.{value_grows, declaration_grows, effect_grows, cond_grows, first_grows, test_grows, last_grows}

-- in a scope, and in a loop's body
pub entered : (g : Context) → Grows g (enter g)
entered g = rescoped g g (enter g).scope (stays g) refl

pub looped : (g h : Context) → Grows g h → Grows g (looping h)
looped g h a = rescoped g h (looping h).scope a a.functions

-- behind a scope
pub left : (g h : Context) → Grows g h → Grows g (leave g h)
left g h a = rescoped g h g.scope a refl

-- where a loop's head begins
pub loop_entered : (g : Context) (at : Place) → Grows g (enter (started_loop at g))
loop_entered g at = along g (started_loop at g) (enter (started_loop at g)) (started_loop_grows at g) (entered (started_loop at g))

-- behind a statement's condition
pub condition_grows : (g : Context) (k : Cond) → Grows g (behind_cond (started g) k)
condition_grows g k = along g (started g) (behind_cond (started g) k) (started_grows g) (cond_grows (started g) k)

-- in a `while`
pub while_grows : (g : Context) (at : Place) (k : Cond) → Grows g (in_while g at k)
while_grows g at k =
    looped g (behind_cond (started_loop at g) k)
    (along g (started_loop at g) (behind_cond (started_loop at g) k) (started_loop_grows at g) (cond_grows (started_loop at g) k))

-- in a `for`
pub at_test_grows : (g : Context) (at : Place) (first : Option First) → Grows g (at_test g at first)
at_test_grows g at first =
    along g (enter (started_loop at g)) (at_test g at first) (loop_entered g at) (first_grows (enter (started_loop at g)) first)

pub at_last_grows : (g : Context) (at : Place) (first : Option First) (k : Option Cond) → Grows g (at_last g at first k)
at_last_grows g at first k = along g (at_test g at first) (at_last g at first k) (at_test_grows g at first) (test_grows (at_test g at first) k)

pub for_grows : (g : Context) (at : Place) (first : Option First) (k : Option Cond) (last : Option Effect) → Grows g (in_for g at first k last)
for_grows g at first k last =
    looped g (behind_last (at_last g at first k) last)
    (along g (at_last g at first k) (behind_last (at_last g at first k) last) (at_last_grows g at first k) (last_grows (at_last g at first k) last))

-- in a range-for
pub behind_hidden_grows : (g : Context) (at : Place) (over : Identifier) → Grows g (behind_hidden g at over)
behind_hidden_grows g at over =
    along g (enter (started_loop at g)) (behind_hidden g at over) (loop_entered g at)
    (hidden_grows (type_of_name g.scope over.name) (enter (started_loop at g)))

pub range_grows : (g : Context) (at : Place) (how : Element) (x over : Identifier) → Grows g (in_range g at how x over)
range_grows g at how x over =
    let u = element_type how (type_of_name g.scope over.name) in
    looped g (declare x u (behind_hidden g at over))
    (along g (behind_hidden g at over) (declare x u (behind_hidden g at over)) (behind_hidden_grows g at over)
    (declared_grows x u (behind_hidden g at over)))

mutual
  unfolding after after_item after_items

  -- behind a statement
  pub after_grows : (g : Context) (a : Stmt) → Grows g (after g a)
  after_grows g (s.block at items close) =
      left g (with_sites (brace_site items close) (after_items (enter g) items))
      (along g (after_items (enter g) items) (with_sites (brace_site items close) (after_items (enter g) items))
      (along g (enter g) (after_items (enter g) items) (entered g) (after_items_grow (enter g) items))
      (sites_grow (brace_site items close) (after_items (enter g) items)))
  after_grows g (s.choice at k a) =
      along g (behind_cond (started g) k) (after (behind_cond (started g) k) a) (condition_grows g k) (after_grows (behind_cond (started g) k) a)
  after_grows g (s.choice_else at k a b) =
      let h = behind_cond (started g) k in
      along g h (after (after h a) b) (condition_grows g k)
      (along h (after h a) (after (after h a) b) (after_grows h a) (after_grows (after h a) b))
  after_grows g (s.while at k a) =
      left g (after (in_while g at k) a)
      (along g (in_while g at k) (after (in_while g at k) a) (while_grows g at k) (after_grows (in_while g at k) a))
  after_grows g (s.for at first k last a) =
      left g (after (in_for g at first k last) a)
      (along g (in_for g at first k last) (after (in_for g at first k last) a) (for_grows g at first k last)
      (after_grows (in_for g at first k last) a))
  after_grows g (s.range_for at how x over a) =
      left g (after (in_range g at how x over) a)
      (along g (in_range g at how x over) (after (in_range g at how x over) a) (range_grows g at how x over)
      (after_grows (in_range g at how x over) a))
  after_grows g (s.break at) = started_grows g
  after_grows g (s.continue at) = started_grows g
  after_grows g (s.gives_back at value) = along g (started g) (behind_value (started g) value) (started_grows g) (value_grows (started g) value)
  after_grows g (s.does at w) = along g (started g) (behind_effect (started g) w) (started_grows g) (effect_grows (started g) w)

  -- behind an item of a block
  pub after_item_grows : (g : Context) (i : Item) → Grows g (after_item g i)
  after_item_grows g (s.declares d) = along g (started g) (behind_declaration (started g) d) (started_grows g) (declaration_grows (started g) d)
  after_item_grows g (s.states a) = after_grows g a

  -- behind items
  pub after_items_grow : (g : Context) (items : Items) → Grows g (after_items g items)
  after_items_grow g s.no_more = stays g
  after_items_grow g (s.followed i rest) =
      along g (after_item g i) (after_items (after_item g i) rest) (after_item_grows g i) (after_items_grow (after_item g i) rest)
