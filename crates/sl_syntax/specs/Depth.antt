-- The depth of a tree: the greatest number of nodes on a way from a function to a leaf. A node is an alternative that has a word of its own or
-- more than one part; a word by itself and a rule that hands on its one part are none. In an expression each operator and each piece behind an
-- operand is one, and holds all to its left.
use Rattle.std.specs.Prelude.{ℕ, ◌+◌, max, List, [], ◌∷◌, Option, Some, None}
use Rattle.sl_syntax.specs.declared.tree.element.Element.{Element}
use Rattle.sl_syntax.specs.declared.tree.element.Element.TheVariants as element
use Rattle.sl_syntax.specs.declared.tree.function.Param.{Param}
use Rattle.sl_syntax.specs.declared.tree.function.Param.TheVariants as param
use Rattle.sl_syntax.specs.declared.tree.function.ResultType.{ResultType}
use Rattle.sl_syntax.specs.declared.tree.function.ResultType.TheVariants as result
use Rattle.sl_syntax.specs.Tree as t
use Rattle.sl_syntax.specs.Tree.{Expr, Exprs, Initializer, Declaration, Out, Effect, Cond, First, Stmt, Item, Items, Function, Program}

abbrev mutual
  pub height : Expr → ℕ
  height (t.number place n) = 0
  height (t.truth place v) = 0
  height (t.name x) = 0
  height (t.call f xs) = list_height xs + 1
  height (t.library_call f xs) = list_height xs + 1
  height (t.parentheses place x) = height x + 1
  height (t.prefix op place x) = height x + 1
  height (t.binary x op place y) = max (height x) (height y) + 1
  height (t.postfix x op place) = height x + 1
  height (t.index x place y) = max (height x) (height y) + 1
  height (t.member_call x f xs) = max (height x) (list_height xs) + 1
  height (t.member x s place f) = height x + 1

  -- a list of two or more is a node, of one hands it on
  pub list_height : Exprs → ℕ
  list_height t.none = 0
  list_height (t.with x t.none) = height x
  list_height (t.with x (t.with y ys)) = max (height x) (max (height y) (rest_height ys)) + 1

  -- the highest of expressions
  pub rest_height : Exprs → ℕ
  rest_height t.none = 0
  rest_height (t.with x xs) = max (height x) (rest_height xs)

-- the greatest of these, by their heights
abbrev pub highest : {A : Type 0} → (A → ℕ) → List A → ℕ
highest h [] = 0
highest h (x ∷ xs) = max (h x) (highest h xs)

abbrev pub option_height : {A : Type 0} → (A → ℕ) → Option A → ℕ
option_height h None = 0
option_height h (Some x) = h x

abbrev pub initializer_height : Initializer → ℕ
initializer_height t.absent = 0
initializer_height (t.copies x) = 0
initializer_height (t.braces equal xs) = list_height xs
initializer_height (t.arguments xs) = list_height xs

-- the type of a container and that of a reference are nodes
abbrev pub declaration_height : Declaration → ℕ
declaration_height (t.declares_scalar place s x v) = option_height height v + 1
declaration_height (t.declares_auto place x v) = height v + 1
declaration_height (t.declares_reference head x v) = max 1 (height v) + 1
declaration_height (t.declares_container c x i) = max 1 (initializer_height i) + 1

abbrev pub out_height : Out → ℕ
out_height (t.text place bytes) = 0
out_height (t.end_line place) = 0
out_height (t.value x) = height x

-- a read is a node
abbrev pub effect_height : Effect → ℕ
effect_height (t.reads r) = 1
effect_height (t.prints place outs) = highest out_height outs + 1
effect_height (t.evaluates x) = height x
effect_height (t.assigns x op place y) = max (height x) (height y) + 1

abbrev pub cond_height : Cond → ℕ
cond_height (t.tests_read r) = 1
cond_height (t.tests_no_read place r) = 2
cond_height (t.tests x) = height x

abbrev pub first_height : First → ℕ
first_height (t.first_scalar place s x v) = height v + 1
first_height (t.first_auto place x v) = height v + 1
first_height (t.first_effect e) = effect_height e

-- the type of a reference is a node beside the body
abbrev pub element_height : Element → ℕ
element_height (element.Value x) = 0
element_height (element.Reference head) = 1

abbrev mutual
  pub stmt_height : Stmt → ℕ
  stmt_height (t.block opens items closes) = items_height items + 1
  stmt_height (t.choice place c x) = max (cond_height c) (stmt_height x) + 1
  stmt_height (t.choice_else place c x y) = max (cond_height c) (max (stmt_height x) (stmt_height y)) + 1
  stmt_height (t.while place c x) = max (cond_height c) (stmt_height x) + 1
  stmt_height (t.for place first c step x) =
      max (option_height first_height first) (max (option_height cond_height c) (max (option_height effect_height step) (stmt_height x))) + 1
  stmt_height (t.range_for place e x v body) = max (element_height e) (stmt_height body) + 1
  stmt_height (t.break place) = 1
  stmt_height (t.continue place) = 1
  stmt_height (t.gives_back place v) = option_height height v + 1
  stmt_height (t.does place e) = effect_height e + 1

  -- a declaration with its `;` is a node
  pub item_height : Item → ℕ
  item_height (t.declares d) = declaration_height d + 1
  item_height (t.states s) = stmt_height s

  pub items_height : Items → ℕ
  items_height t.no_more = 0
  items_height (t.followed x xs) = max (item_height x) (items_height xs)

abbrev pub param_height : Param → ℕ
param_height (param.Value place s x) = 1
param_height (param.Reference place s x) = 1
param_height (param.Container c x) = 2
param_height (param.ConstContainer place c x) = 2
param_height (param.Iterator i x) = 2

-- the type of an iterator is a node, with its container's type below it
abbrev pub result_height : ResultType → ℕ
result_height result.Void = 0
result_height (result.Scalar s) = 0
result_height (result.Iterator i) = 2

abbrev pub function_height : Function → ℕ
function_height f = max (result_height f.result) (max (highest param_height f.params) (stmt_height (t.block f.opens f.items f.closes))) + 1

abbrev pub depth : Program → ℕ
depth p = highest function_height p
