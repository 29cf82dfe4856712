-- Lists of a tree that the walk goes over.
use Rattle.std.proofs.Common.{◌≡◌, List, [], ◌∷◌, ◌++◌, map, refl, ◌==◌}
use Rattle.sl_syntax.specs.declared.tree.effect.Out.{Out as OutCode}
use Rattle.sl_base.specs.declared.limits.TheConstants.{LIST_ELEMENTS, PARAMETERS}
use Rattle.sl_syntax.specs.declared.tree.expr.Expr.{Expr as ExprCode}
use Rattle.sl_syntax.specs.declared.tree.function.Function.{Function as FunctionCode}
use Rattle.sl_syntax.specs.declared.tree.function.Param.{Param}
use Rattle.sl_syntax.specs.declared.tree.statement.Item.{Item as ItemCode}
use Rattle.sl_syntax.specs.TreeView.{out_of, expr_of, exprs_of, item_of, items_of, function_of}
use Rattle.sl_typing.specs.declared.rules.TheConstants as rule
use Rattle.sl_typing.specs.Contexts.{Context, declare_parameters}
use Rattle.sl_typing.specs.Flow.{behind_out, behind_outs, after_item, after_items, after_function, after_functions}
use Rattle.sl_typing.specs.Faults.{broken}
use Rattle.sl_typing.specs.Looks.{place_of}
use Rattle.sl_typing.specs.Sites.{behind, behind_all}
use Rattle.sl_typing.specs.StatementFaults.{out_faults, outs_faults, expr_faults, element_faults, twice_faults, limit_faults, item_faults, items_faults}
use Rattle.sl_typing.specs.ProgramFaults.{type_faults, behind_parameter, parameter_faults, function_faults, functions_faults}
use Rattle.sl_typing.specs.Scopes.{name_of_parameter}
use Rattle.sl_expr_sites.proofs.SiteLaws.{behind_all-nil, behind_all-cons}
use Rattle.sl_first_fault.proofs.LoopLaws.{Walk}

-- the items of a print
abbrev pub out_walk : Walk OutCode
out_walk = record {
  faults = λ n g xs. outs_faults g (map out_of xs);
  behind = λ g xs. behind_outs g (map out_of xs);
  one = λ n g x. out_faults g (out_of x);
  behind_one = λ g x. behind_out g (out_of x);
  none = λ n g. refl;
  behind_none = λ g. refl;
  more = λ n g x xs. refl;
  behind_more = λ g x xs. refl;
}

-- the elements of a list in braces
abbrev pub element_walk : Walk ExprCode
element_walk = record {
  faults = λ n g xs. element_faults g n (exprs_of xs);
  behind = λ g xs. behind_all g (exprs_of xs);
  one = λ n g x. expr_faults g (expr_of x) ++ broken (n == LIST_ELEMENTS) (place_of (expr_of x)) rule.TOO_MANY_ELEMENTS;
  behind_one = λ g x. behind g (expr_of x);
  none = λ n g. refl;
  behind_none = behind_all-nil;
  more = λ n g x xs. refl;
  behind_more = behind_all-cons;
}

pub items-none : (g : Context) → items_faults g (items_of []) ≡ []
unfolding items_faults
items-none g = refl

pub items-more : (g : Context) (x : ItemCode) (xs : List ItemCode)
    → items_faults g (items_of (x ∷ xs)) ≡ item_faults g (item_of x) ++ items_faults (after_item g (item_of x)) (items_of xs)
unfolding items_faults
items-more g x xs = refl

pub after-none : (g : Context) → after_items g (items_of []) ≡ g
unfolding after_items
after-none g = refl

pub after-more : (g : Context) (x : ItemCode) (xs : List ItemCode) → after_items g (items_of (x ∷ xs)) ≡ after_items (after_item g (item_of x)) (items_of xs)
unfolding after_items
after-more g x xs = refl

-- the items of a block
abbrev pub item_walk : Walk ItemCode
item_walk = record {
  faults = λ n g xs. items_faults g (items_of xs);
  behind = λ g xs. after_items g (items_of xs);
  one = λ n g x. item_faults g (item_of x);
  behind_one = λ g x. after_item g (item_of x);
  none = λ n g. items-none g;
  behind_none = after-none;
  more = λ n g x xs. items-more g x xs;
  behind_more = after-more;
}

-- parameters
abbrev pub parameter_walk : Walk Param
parameter_walk = record {
  faults = λ n g xs. parameter_faults g n xs;
  behind = λ g xs. declare_parameters xs g;
  one = λ n g x. twice_faults g (name_of_parameter x) ++ type_faults x ++ limit_faults g (behind_parameter g x) (name_of_parameter x).place
      ++ broken (n == PARAMETERS) (name_of_parameter x).place rule.TOO_MANY_PARAMETERS;
  behind_one = behind_parameter;
  none = λ n g. refl;
  behind_none = λ g. refl;
  more = λ n g x xs. refl;
  behind_more = λ g x xs. refl;
}

-- the functions of a program
abbrev pub function_walk : Walk FunctionCode
function_walk = record {
  faults = λ n g xs. functions_faults g (map function_of xs);
  behind = λ g xs. after_functions g (map function_of xs);
  one = λ n g x. function_faults g (function_of x);
  behind_one = λ g x. after_function g (function_of x);
  none = λ n g. refl;
  behind_none = λ g. refl;
  more = λ n g x xs. refl;
  behind_more = λ g x xs. refl;
}
