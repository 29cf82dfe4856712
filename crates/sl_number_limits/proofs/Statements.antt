-- Behind a statement, and at each item of a block, that break no rule all numbers are within the limits.
use Rattle.std.proofs.Common.{◌≡◌, []}
use Rattle.sl_base.specs.declared.place.Place.{Place}
use Rattle.sl_syntax.specs.Tree as s
use Rattle.sl_syntax.specs.Tree.{Effect, Cond, First, Stmt, Item, Items}
use Rattle.sl_typing.specs.Contexts.{Context, enter, started, with_sites}
use Rattle.sl_typing.specs.Sites.{brace_site, declares_container}
use Rattle.sl_typing.specs.Flow.{behind_cond, in_for, in_range, in_while, after, after_item, after_items}
use Rattle.sl_typing.specs.StatementFaults.{stmt_faults, item_faults, items_faults}
use Rattle.sl_number_limits.specs.Fits.{Fits}
use Rattle.sl_number_limits.proofs.PartFaults.{block_items, block_brace, choice_body, choice_else_body, else_body, while_body, for_body, range_body}
use Rattle.sl_number_limits.proofs.PartFaults.{break_begins, continue_begins, given_value, done_effect, declared, stated, first_item, other_items}
use Rattle.sl_number_limits.proofs.ContextLaws.{started_has_room, enter_fits, leave_fits}
use Rattle.sl_number_limits.proofs.Growth.{along, sites_grow}
use Rattle.sl_number_limits.proofs.StatementGrowth.{entered, while_grows, for_grows, range_grows, after_grows, after_items_grow}
use Rattle.sl_number_limits.proofs.Declarations.{value_fits, declaration_fits}
use Rattle.sl_number_limits.proofs.Effects.{site_fits, effect_fits}
use Rattle.sl_number_limits.proofs.StatementParts.{at_start, in_choice, in_choice_else, in_while_fits, in_for_fits, in_range_fits, at_value}
use Rattle.sl_number_limits.proofs.StatementParts.{at_effect}
use Rattle.sl_number_limits.proofs.StatementParts.{at_declaration}

mutual
  unfolding after after_item after_items stmt_faults item_faults items_faults

  -- behind a statement
  pub after_fits : (g : Context) (a : Stmt) → Fits g → stmt_faults g a ≡ [] → Fits (after g a)
  after_fits g (s.block at items close) f none =
      let h = after_items (enter g) items in
      leave_fits g (with_sites (brace_site items close) h) f
      (site_fits h (declares_container items) close (after_items_fit (enter g) items (enter_fits g f) (block_items g at items close none))
      (block_brace g at items close none))
      (along g h (with_sites (brace_site items close) h) (along g (enter g) h (entered g) (after_items_grow (enter g) items))
      (sites_grow (brace_site items close) h))
  after_fits g (s.choice at k a) f none = after_fits (behind_cond (started g) k) a (in_choice g at k a f none) (choice_body g at k a none)
  after_fits g (s.choice_else at k a b) f none =
      let h = behind_cond (started g) k in
      after_fits (after h a) b (after_fits h a (in_choice_else g at k a b f none) (choice_else_body g at k a b none)) (else_body g at k a b none)
  after_fits g (s.while at k a) f none =
      let h = in_while g at k in
      leave_fits g (after h a) f (after_fits h a (in_while_fits g at k a f none) (while_body g at k a none))
      (along g h (after h a) (while_grows g at k) (after_grows h a))
  after_fits g (s.for at first k last a) f none =
      let h = in_for g at first k last in
      leave_fits g (after h a) f (after_fits h a (in_for_fits g at first k last a f none) (for_body g at first k last a none))
      (along g h (after h a) (for_grows g at first k last) (after_grows h a))
  after_fits g (s.range_for at how x over a) f none =
      let h = in_range g at how x over in
      leave_fits g (after h a) f (after_fits h a (in_range_fits g at how x over a f none) (range_body g at how x over a none))
      (along g h (after h a) (range_grows g at how x over) (after_grows h a))
  after_fits g (s.break at) f none = at_start g at f (break_begins g at none)
  after_fits g (s.continue at) f none = at_start g at f (continue_begins g at none)
  after_fits g (s.gives_back at value) f none = value_fits (started g) value (at_value g at value f none) (given_value g at value none)
  after_fits g (s.does at w) f none = effect_fits (started g) w (at_effect g at w f none) (done_effect g at w none)

  -- behind an item of a block
  pub after_item_fits : (g : Context) (i : Item) → Fits g → item_faults g i ≡ [] → Fits (after_item g i)
  after_item_fits g (s.declares d) f none = declaration_fits (started g) d (at_declaration g d f none) (started_has_room g f) (declared g d none)
  after_item_fits g (s.states a) f none = after_fits g a f (stated g a none)

  -- behind items
  pub after_items_fit : (g : Context) (items : Items) → Fits g → items_faults g items ≡ [] → Fits (after_items g items)
  after_items_fit g s.no_more f none = f
  after_items_fit g (s.followed i rest) f none =
      after_items_fit (after_item g i) rest (after_item_fits g i f (first_item g i rest none)) (other_items g i rest none)

-- at the items behind the first
pub next_items_fit : (g : Context) (i : Item) (rest : Items) → Fits g → items_faults g (s.followed i rest) ≡ [] → Fits (after_item g i)
next_items_fit g i rest f none = after_item_fits g i f (first_item g i rest none)

-- in the second branch of a choice
pub in_else : (g : Context) (at : Place) (k : Cond) (a b : Stmt) → Fits g → stmt_faults g (s.choice_else at k a b) ≡ []
    → Fits (after (behind_cond (started g) k) a)
in_else g at k a b f none =
    after_fits (behind_cond (started g) k) a (in_choice_else g at k a b f none) (choice_else_body g at k a b none)

-- at the closing brace of a block
pub at_brace_fits : (g : Context) (at : Place) (items : Items) (close : Place) → Fits g → stmt_faults g (s.block at items close) ≡ []
    → Fits (after_items (enter g) items)
at_brace_fits g at items close f none = after_items_fit (enter g) items (enter_fits g f) (block_items g at items close none)
