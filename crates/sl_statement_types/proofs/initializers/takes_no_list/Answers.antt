use Rattle.std.proofs.Common.{◌∙◌, ap, refl, ◌&&◌, not, length}
use Rattle.std.specs.Prelude.{◌==◌, option_map}
use Rattle.sl_candidates.specs.Found.{found_of}
use Rattle.sl_statement_types.proofs.InitializerLaws.{no_list, none_comes}
use Rattle.sl_statement_types.proofs.initializers.takes_no_list.Goals as goal

pub returns : goal.returns
returns c equal =
    ap (λ b. not b && c.is_none.result) c.is_empty.ensures
    ∙ ap (λ b. not (length c.args.elements.now == 0) && b)
    (none_comes found_of c.is_none.result c.list_constructor.result (option_map found_of c.list_constructor.result) c.is_none.ensures refl)
    ∙ no_list c.args.form equal c.args.elements.now (option_map found_of c.list_constructor.result) c.list_constructor.ensures
