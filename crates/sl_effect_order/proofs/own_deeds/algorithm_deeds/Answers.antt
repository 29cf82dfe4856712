-- The branch that is taken.
use Rattle.std.proofs.Common.{refl, sym, ap, ◌∙◌}
use Rattle.std.specs.Prelude.{true, false}
use Rattle.sl_typing.specs.Order.{first_name}
use Rattle.sl_effect_order.proofs.OwnLaws.{change-found, algorithm-is}
use Rattle.sl_effect_order.proofs.own_deeds.algorithm_deeds.Goals as goal

pub returns-then-is_advance : goal.returns-then-is_advance
returns-then-is_advance c =
    change-found _ _ _ _ _ c.changing.ensures c.spares.ensures c.first_name.ensures
    ∙ algorithm-is _ c.args.name.now c.args.arguments.now true _ _ (sym c.if-is_advance.true ∙ c.is_advance.ensures) refl refl

pub returns-then-appends : goal.returns-then-appends
returns-then-appends c =
    change-found _ _ _ _ _ c.changing-then-appends.ensures c.spares-then-appends.ensures
    (c.first_name-then-appends.ensures ∙ ap first_name c.last_arguments.ensures)
    ∙ algorithm-is _ c.args.name.now c.args.arguments.now false true _ (sym c.if-is_advance.false ∙ c.is_advance.ensures)
    (sym c.if-appends.true ∙ c.appends.ensures) refl

pub returns-then-writes_elements : goal.returns-then-writes_elements
returns-then-writes_elements c =
    c.writing.ensures _
    ∙ algorithm-is _ c.args.name.now c.args.arguments.now false false true (sym c.if-is_advance.false ∙ c.is_advance.ensures)
    (sym c.if-appends.false ∙ c.appends.ensures) (sym c.if-writes_elements.true ∙ c.writes_elements.ensures)

pub returns-else-writes_elements : goal.returns-else-writes_elements
returns-else-writes_elements c =
    c.nothing_done.ensures _
    ∙ algorithm-is _ c.args.name.now c.args.arguments.now false false false (sym c.if-is_advance.false ∙ c.is_advance.ensures)
    (sym c.if-appends.false ∙ c.appends.ensures) (sym c.if-writes_elements.false ∙ c.writes_elements.ensures)
