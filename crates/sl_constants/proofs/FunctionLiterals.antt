-- The literals of the items of a print, and of functions, one by one.
use Rattle.std.proofs.Common.{◌≡◌, List, [], ◌∷◌, ◌++◌, map, flat_map, refl, ap, ℤ}
use Rattle.sl_syntax.specs.declared.tree.effect.Out.{Out as OutCode}
use Rattle.sl_syntax.specs.declared.tree.function.Function.{Function as FunctionCode}
use Rattle.sl_syntax.specs.Tree.{Function}
use Rattle.sl_syntax.specs.TreeView.{out_of, function_of, items_of}
use Rattle.sl_typing.specs.Literals.{literals_of_out, literals_of_items}

abbrev pub out_literals : OutCode → List ℤ
out_literals x = literals_of_out (out_of x)

pub each_out : (xs : List OutCode) → flat_map literals_of_out (map out_of xs) ≡ flat_map out_literals xs
each_out [] = refl
each_out (x ∷ xs) = ap (λ l. out_literals x ++ l) (each_out xs)

abbrev pub function_literals : FunctionCode → List ℤ
function_literals f = literals_of_items (items_of f.body.items.items)

pub each_function : (xs : List FunctionCode) → flat_map (λ (f : Function). literals_of_items f.items) (map function_of xs) ≡ flat_map function_literals xs
each_function [] = refl
each_function (f ∷ xs) = ap (λ l. function_literals f ++ l) (each_function xs)
