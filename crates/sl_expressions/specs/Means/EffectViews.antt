-- What reads, prints, effects and conditions are as data, with their height.
use Rattle.std.specs.Prelude.{Vec, List, map}
use Rattle.std.specs.declared.alloc.Global.{Global}
use Rattle.sl_syntax.specs.declared.tree.effect.Cond.{Cond as CondCode}
use Rattle.sl_syntax.specs.declared.tree.effect.Effect.{Effect as EffectCode}
use Rattle.sl_syntax.specs.declared.tree.effect.Out.{Out as OutCode}
use Rattle.sl_syntax.specs.declared.tree.effect.Print.{Print as PrintCode}
use Rattle.sl_syntax.specs.declared.tree.effect.Read.{Read}
use Rattle.sl_syntax.specs.Depth.{highest, out_height, effect_height, cond_height}
use Rattle.sl_syntax.specs.Tree.{Out, Effect, Cond, prints}
use Rattle.sl_syntax.specs.TreeView.{out_of, effect_of, cond_of}
use Rattle.sl_grammar.specs.Means.Steps.{Tall}
use Rattle.sl_expressions.specs.Means.Nests.{measured}

-- what has no height of its own
abbrev pub flat : {A : Type 0} → A → Tall A
flat x = (x, 0)

abbrev pub tall_read : Read → Tall Read
tall_read x = (x, 1)

abbrev pub tall_out : OutCode → Tall Out
tall_out x = measured out_height (out_of x)

abbrev pub tall_outs : Vec OutCode Global → Tall (List Out)
tall_outs xs = measured (highest out_height) (map out_of xs.items)

abbrev pub tall_print : PrintCode → Tall Effect
tall_print x = measured effect_height (prints x.place (map out_of x.items.items))

abbrev pub tall_effect : EffectCode → Tall Effect
tall_effect x = measured effect_height (effect_of x)

abbrev pub tall_cond : CondCode → Tall Cond
tall_cond x = measured cond_height (cond_of x)
