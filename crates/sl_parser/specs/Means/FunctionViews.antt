-- What functions and their results are as data, with their height.
use Rattle.std.specs.Prelude.{List, map, Vec}
use Rattle.std.specs.declared.alloc.Global.{Global}
use Rattle.sl_syntax.specs.declared.tree.function.Function.{Function as FunctionCode}
use Rattle.sl_syntax.specs.declared.tree.function.ResultType.{ResultType}
use Rattle.sl_syntax.specs.Depth.{highest, result_height, function_height}
use Rattle.sl_syntax.specs.Tree.{Function}
use Rattle.sl_syntax.specs.TreeView.{function_of}
use Rattle.sl_grammar.specs.Means.Steps.{Tall}
use Rattle.sl_expressions.specs.Means.Nests.{measured}

abbrev pub tall_result : ResultType → Tall ResultType
tall_result x = measured result_height x

abbrev pub tall_function : FunctionCode → Tall Function
tall_function x = measured function_height (function_of x)

abbrev pub tall_functions : Vec FunctionCode Global → Tall (List Function)
tall_functions xs = measured (highest function_height) (map function_of xs.items)
