-- What declarations and parameters are as data, with their height.
use Rattle.std.specs.Prelude.{List, Option, option_map, Vec}
use Rattle.std.specs.declared.alloc.Global.{Global}
use Rattle.sl_syntax.specs.declared.tree.declaration.Declaration.{Declaration as DeclarationCode}
use Rattle.sl_syntax.specs.declared.tree.declaration.Initializer.{Initializer as InitializerCode}
use Rattle.sl_syntax.specs.declared.tree.expr.Expr.{Expr as ExprCode}
use Rattle.sl_syntax.specs.declared.tree.function.Param.{Param}
use Rattle.sl_syntax.specs.Depth.{height, highest, option_height, initializer_height, declaration_height, param_height}
use Rattle.sl_syntax.specs.Tree.{Expr, Initializer, Declaration}
use Rattle.sl_syntax.specs.TreeView.{expr_of, initializer_of, declaration_of}
use Rattle.sl_grammar.specs.Means.Steps.{Tall}
use Rattle.sl_expressions.specs.Means.Nests.{measured}

abbrev pub tall_value : Option ExprCode → Tall (Option Expr)
tall_value x = measured (option_height height) (option_map expr_of x)

abbrev pub tall_initializer : InitializerCode → Tall Initializer
tall_initializer x = measured initializer_height (initializer_of x)

abbrev pub tall_declaration : DeclarationCode → Tall Declaration
tall_declaration x = measured declaration_height (declaration_of x)

abbrev pub tall_param : Param → Tall Param
tall_param x = measured param_height x

abbrev pub tall_params : Vec Param Global → Tall (List Param)
tall_params xs = measured (highest param_height) xs.items
