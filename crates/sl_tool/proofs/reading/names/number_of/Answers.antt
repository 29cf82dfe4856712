use Rattle.std.proofs.Common.{◌≡◌, ◌∙◌, refl, rules, tests}
use Rattle.std.proofs.lemmas.Iterator.{YieldsList-from_slice}
use Rattle.std.proofs.lemmas.Iterator.Search.{position_from_yields_List}
use Rattle.std.specs.Str.{bytes_eq}
use Rattle.sl_tool.specs.Subset.{number_of_name}
use Rattle.sl_tool.proofs.NameLaws.{numbered, known, number_below, number_most}
use Rattle.sl_tool.proofs.reading.names.number_of.Goals as goal

pub returns : goal.returns
returns c =
    let found = position_from_yields_List (λ n. bytes_eq n c.args.name.now) _ _ c.position.result c.position.ensures.ran
    (YieldsList-from_slice c.args.names.now cc) (λ x b q k. search (rules, tests)) in
    let value : c.unwrap_or.result ≡ number_of_name c.args.names.now c.args.name.now = c.unwrap_or.ensures ∙ numbered _ _ _ found in
    rw value (record { value = refl; found = (known _ _, number_below _ _); bound = number_most _ _ })
