-- The words of functions and of their parameters.
use Rattle.std.proofs.Common.{◌≡◌, List, [], ◌∷◌, ◌++◌, flat_map, refl, ap, ◌∙◌}
use Rattle.sl_base.specs.declared.mark.Mark.TheVariants as m
use Rattle.sl_base.specs.declared.word.Word.{Word}
use Rattle.sl_syntax.specs.declared.tree.function.Function.{Function as FunctionCode}
use Rattle.sl_syntax.specs.declared.tree.function.Param.{Param}
use Rattle.sl_syntax.specs.declared.tree.function.Program.{Program as ProgramCode}
use Rattle.sl_syntax.specs.TreeView.{function_of, program_of}
use Rattle.sl_syntax.specs.Written.{words_of, words, mark, param_written, params_written, function_written}
use Rattle.sl_syntax.proofs.WrittenLaws.{words_of-append, words_of-from_place, words_of-flat_map, words_of-flat_map-map, separated}

abbrev pub param_words_of : Param → List Word
param_words_of x = words_of (param_written x)

pub params_words : (xs : List Param) → words_of (params_written xs) ≡ separated param_words_of xs
params_words [] = refl
params_words (x ∷ xs) =
    words_of-append (param_written x) (flat_map (λ y. mark m.Comma ∷ param_written y) xs)
    ∙ ap (λ (l : List Word). param_words_of x ++ l) (words_of-flat_map (λ y. mark m.Comma ∷ param_written y) xs)

pub ruleset function_words = (words_of-append, words_of-from_place)

abbrev pub function_words_of : FunctionCode → List Word
function_words_of x = words_of (function_written (function_of x))

pub program_words : (p : ProgramCode) → words (program_of p) ≡ flat_map function_words_of p.functions.items
program_words p = words_of-flat_map-map function_written function_of p.functions.items
