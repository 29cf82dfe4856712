use Rattle.std.proofs.Common.{refl, [], ap, take, ◌∙◌}
use Rattle.std.proofs.lemmas.List.{take_min}
use Rattle.sl_base.specs.Places.{line_after, col_after}
use Rattle.sl_base.proofs.PlaceLaws.{IsAfter-is}
use Rattle.sl_base.proofs.place.place_of.Goals as goal

pub returns : goal.returns
returns c = IsAfter-is _ _ (c.after.ensures [] (record { line = refl; col = refl })) ∙ ap (λ l. record { line = line_after l; col = col_after l })
    (ap (λ n. take n c.args.text.now) c.min.ensures ∙ take_min c.args.offset c.args.text.now)
