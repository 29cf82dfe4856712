-- The words of a tree, and the places that the tree tells of them: the grammar of docs/GRAMMAR.md, read from a tree to its words. The place of
-- a node is that of one of its words: of an operator, of `[`, of `.` or `->`, of the name in a call, and else of its first word.
use Rattle.std.specs.Prelude.{Bool, true, false, List, [], ◌∷◌, ◌++◌, map, flat_map, Option, Some, None, codes}
use Rattle.sl_base.specs.declared.form.Form.{Form}
use Rattle.sl_base.specs.declared.form.Form.TheVariants as form
use Rattle.sl_base.specs.declared.mark.Mark.{Mark}
use Rattle.sl_base.specs.declared.mark.Mark.TheVariants as m
use Rattle.sl_base.specs.declared.place.Place.{Place}
use Rattle.sl_base.specs.declared.scalar.Scalar.{Scalar}
use Rattle.sl_base.specs.declared.scalar.Scalar.TheVariants as scalar
use Rattle.sl_base.specs.declared.word.Word.{Word}
use Rattle.sl_base.specs.declared.word.Word.TheVariants as w
use Rattle.sl_syntax.specs.declared.operator.Arithmetic.{Arithmetic}
use Rattle.sl_syntax.specs.declared.operator.Arithmetic.TheVariants as arithmetic
use Rattle.sl_syntax.specs.declared.operator.Assignment.{Assignment}
use Rattle.sl_syntax.specs.declared.operator.Assignment.TheVariants as assignment
use Rattle.sl_syntax.specs.declared.operator.BinaryOperator.{BinaryOperator}
use Rattle.sl_syntax.specs.declared.operator.BinaryOperator.TheVariants as binary
use Rattle.sl_syntax.specs.declared.operator.Comparison.{Comparison}
use Rattle.sl_syntax.specs.declared.operator.Comparison.TheVariants as comparison
use Rattle.sl_syntax.specs.declared.operator.PostfixOperator.{PostfixOperator}
use Rattle.sl_syntax.specs.declared.operator.PostfixOperator.TheVariants as postfix
use Rattle.sl_syntax.specs.declared.operator.PrefixOperator.{PrefixOperator}
use Rattle.sl_syntax.specs.declared.operator.PrefixOperator.TheVariants as prefix
use Rattle.sl_syntax.specs.declared.operator.Selector.{Selector}
use Rattle.sl_syntax.specs.declared.operator.Selector.TheVariants as selector
use Rattle.sl_syntax.specs.declared.tree.declaration.ContainerType.{ContainerType}
use Rattle.sl_syntax.specs.declared.tree.effect.Read.{Read}
use Rattle.sl_syntax.specs.declared.tree.element.Element.{Element}
use Rattle.sl_syntax.specs.declared.tree.element.Element.TheVariants as element
use Rattle.sl_syntax.specs.declared.tree.element.ElementType.{ElementType}
use Rattle.sl_syntax.specs.declared.tree.element.ElementType.TheVariants as type
use Rattle.sl_syntax.specs.declared.tree.element.ReferenceHead.{ReferenceHead}
use Rattle.sl_syntax.specs.declared.tree.function.IteratorType.{IteratorType}
use Rattle.sl_syntax.specs.declared.tree.function.Param.{Param}
use Rattle.sl_syntax.specs.declared.tree.function.Param.TheVariants as param
use Rattle.sl_syntax.specs.declared.tree.function.ResultType.{ResultType}
use Rattle.sl_syntax.specs.declared.tree.function.ResultType.TheVariants as result
use Rattle.sl_syntax.specs.declared.tree.identifier.Identifier.{Identifier}
use Rattle.sl_syntax.specs.Tree as t
use Rattle.sl_syntax.specs.Tree.{Expr, Exprs, Initializer, Declaration, Out, Effect, Cond, First, Stmt, Item, Items, Function, Program}

-- a word of a tree, with the places in the tree that are its place
pub record Written : Type 0 where
  pub word : Word
  pub told : List Place

-- a word whose place the tree tells
abbrev pub at : Place → Word → Written
at place word = record { word = word; told = place ∷ [] }

-- a word whose place it doesn't tell
abbrev pub plain : Word → Written
plain word = record { word = word; told = [] }

abbrev pub mark : Mark → Written
mark m = plain (w.Mark m)

abbrev pub named : Identifier → Written
named x = at x.place (w.Name x.name)

-- the first of these words has this place too
abbrev pub from_place : Place → List Written → List Written
from_place place [] = []
from_place place (x ∷ xs) = record { word = x.word; told = place ∷ x.told } ∷ xs

abbrev pub arithmetic_mark : Arithmetic → Mark
arithmetic_mark arithmetic.Add = m.Plus
arithmetic_mark arithmetic.Subtract = m.Minus
arithmetic_mark arithmetic.Multiply = m.Star
arithmetic_mark arithmetic.Divide = m.Slash
arithmetic_mark arithmetic.Remainder = m.Percent

abbrev pub comparison_mark : Comparison → Mark
comparison_mark comparison.Equal = m.EqualEqual
comparison_mark comparison.NotEqual = m.NotEqual
comparison_mark comparison.Less = m.Less
comparison_mark comparison.LessEqual = m.LessEqual
comparison_mark comparison.Greater = m.Greater
comparison_mark comparison.GreaterEqual = m.GreaterEqual

abbrev pub binary_mark : BinaryOperator → Mark
binary_mark binary.Or = m.OrOr
binary_mark binary.And = m.AndAnd
binary_mark (binary.Comparison op) = comparison_mark op
binary_mark (binary.Arithmetic op) = arithmetic_mark op

abbrev pub prefix_mark : PrefixOperator → Mark
prefix_mark prefix.Not = m.Not
prefix_mark prefix.Negate = m.Minus
prefix_mark prefix.Dereference = m.Star
prefix_mark prefix.Increment = m.PlusPlus
prefix_mark prefix.Decrement = m.MinusMinus

abbrev pub postfix_mark : PostfixOperator → Mark
postfix_mark postfix.Increment = m.PlusPlus
postfix_mark postfix.Decrement = m.MinusMinus

abbrev pub selector_mark : Selector → Mark
selector_mark selector.Dot = m.Dot
selector_mark selector.Arrow = m.Arrow

abbrev pub assignment_mark : Assignment → Mark
assignment_mark assignment.Set = m.Equal
assignment_mark (assignment.Update arithmetic.Add) = m.PlusEqual
assignment_mark (assignment.Update arithmetic.Subtract) = m.MinusEqual
assignment_mark (assignment.Update arithmetic.Multiply) = m.StarEqual
assignment_mark (assignment.Update arithmetic.Divide) = m.SlashEqual
assignment_mark (assignment.Update arithmetic.Remainder) = m.PercentEqual

abbrev pub truth_word : Bool → Word
truth_word true = w.Key (codes "true")
truth_word false = w.Key (codes "false")

abbrev pub scalar_word : Scalar → Word
scalar_word scalar.Int = w.Key (codes "int")
scalar_word scalar.Bool = w.Key (codes "bool")
scalar_word scalar.Size = w.Lib (codes "size_t")
scalar_word scalar.Diff = w.Lib (codes "ptrdiff_t")

abbrev pub form_word : Form → Word
form_word form.Vector = w.Lib (codes "vector")
form_word form.Deque = w.Lib (codes "deque")
form_word form.List = w.Lib (codes "list")
form_word form.Set = w.Lib (codes "set")
form_word form.Map = w.Lib (codes "map")
form_word form.HashSet = w.Lib (codes "unordered_set")
form_word form.HashMap = w.Lib (codes "unordered_map")
form_word form.MultiSet = w.Lib (codes "multiset")
form_word form.MultiMap = w.Lib (codes "multimap")

-- whether its elements are pairs of a key and a value
abbrev pub is_map : Form → Bool
is_map form.Vector = false
is_map form.Deque = false
is_map form.List = false
is_map form.Set = false
is_map form.Map = true
is_map form.HashSet = false
is_map form.HashMap = true
is_map form.MultiSet = false
is_map form.MultiMap = true

-- `<int>` or `<int, int>`
abbrev pub elements_written : Bool → List Written
elements_written false = mark m.Less ∷ plain (scalar_word scalar.Int) ∷ mark m.Greater ∷ []
elements_written true = mark m.Less ∷ plain (scalar_word scalar.Int) ∷ mark m.Comma ∷ plain (scalar_word scalar.Int) ∷ mark m.Greater ∷ []

abbrev pub container_written : ContainerType → List Written
container_written x = at x.place (form_word x.form) ∷ elements_written (is_map x.form)

-- `std::vector<int>::iterator`
abbrev pub iterator_written : IteratorType → List Written
iterator_written x = container_written x.container ++ mark m.ColonColon ∷ named x.name ∷ []

-- the type of an element
abbrev pub element_word : ElementType → Word
element_word type.Int = w.Key (codes "int")
element_word type.Auto = w.Key (codes "auto")

-- `int&`, and with `const` before it
abbrev pub reference_words : Bool → ElementType → List Written
reference_words false x = plain (element_word x) ∷ mark m.And ∷ []
reference_words true x = plain (w.Key (codes "const")) ∷ plain (element_word x) ∷ mark m.And ∷ []

abbrev pub reference_written : ReferenceHead → List Written
reference_written x = from_place x.place (reference_words x.is_const x.element)

abbrev mutual
  pub written : Expr → List Written
  written (t.number place n) = at place (w.Number n) ∷ []
  written (t.truth place v) = at place (truth_word v) ∷ []
  written (t.name x) = named x ∷ []
  written (t.call f xs) = named f ∷ mark m.LeftParenthesis ∷ (list_written xs ++ mark m.RightParenthesis ∷ [])
  written (t.library_call f xs) = at f.place (w.Lib f.name) ∷ mark m.LeftParenthesis ∷ (list_written xs ++ mark m.RightParenthesis ∷ [])
  written (t.parentheses place x) = at place (w.Mark m.LeftParenthesis) ∷ (written x ++ mark m.RightParenthesis ∷ [])
  written (t.prefix op place x) = at place (w.Mark (prefix_mark op)) ∷ written x
  written (t.binary x op place y) = written x ++ at place (w.Mark (binary_mark op)) ∷ written y
  written (t.postfix x op place) = written x ++ at place (w.Mark (postfix_mark op)) ∷ []
  written (t.index x place y) = written x ++ at place (w.Mark m.LeftBracket) ∷ (written y ++ mark m.RightBracket ∷ [])
  written (t.member_call x f xs) = written x ++ mark m.Dot ∷ named f ∷ mark m.LeftParenthesis ∷ (list_written xs ++ mark m.RightParenthesis ∷ [])
  written (t.member x s place f) = written x ++ at place (w.Mark (selector_mark s)) ∷ named f ∷ []

  -- expressions with a comma between two
  pub list_written : Exprs → List Written
  list_written t.none = []
  list_written (t.with x xs) = written x ++ rest_written xs

  pub rest_written : Exprs → List Written
  rest_written t.none = []
  rest_written (t.with x xs) = mark m.Comma ∷ (written x ++ rest_written xs)

abbrev pub initializer_written : Initializer → List Written
initializer_written t.absent = []
initializer_written (t.copies x) = mark m.Equal ∷ named x ∷ []
initializer_written (t.braces true xs) = mark m.Equal ∷ mark m.LeftBrace ∷ (list_written xs ++ mark m.RightBrace ∷ [])
initializer_written (t.braces false xs) = mark m.LeftBrace ∷ (list_written xs ++ mark m.RightBrace ∷ [])
initializer_written (t.arguments xs) = mark m.LeftParenthesis ∷ (list_written xs ++ mark m.RightParenthesis ∷ [])

-- `= x`
abbrev pub value_written : Expr → List Written
value_written x = mark m.Equal ∷ written x

abbrev pub declaration_written : Declaration → List Written
declaration_written (t.declares_scalar place s x None) = at place (scalar_word s) ∷ named x ∷ []
declaration_written (t.declares_scalar place s x (Some v)) = at place (scalar_word s) ∷ named x ∷ value_written v
declaration_written (t.declares_auto place x v) = at place (w.Key (codes "auto")) ∷ named x ∷ value_written v
declaration_written (t.declares_reference head x v) = reference_written head ++ named x ∷ value_written v
declaration_written (t.declares_container c x i) = container_written c ++ named x ∷ initializer_written i

abbrev pub out_written : Out → List Written
out_written (t.text place bytes) = at place (w.Text bytes) ∷ []
out_written (t.end_line place) = at place (w.Lib (codes "endl")) ∷ []
out_written (t.value x) = written x

abbrev pub read_written : Read → List Written
read_written r = at r.place (w.Lib (codes "cin")) ∷ flat_map (λ x. mark m.ShiftRight ∷ named x ∷ []) r.variables

abbrev pub print_written : Place → List Out → List Written
print_written place outs = at place (w.Lib (codes "cout")) ∷ flat_map (λ x. mark m.ShiftLeft ∷ out_written x) outs

abbrev pub effect_written : Effect → List Written
effect_written (t.reads r) = read_written r
effect_written (t.prints place outs) = print_written place outs
effect_written (t.evaluates x) = written x
effect_written (t.assigns x op place y) = written x ++ at place (w.Mark (assignment_mark op)) ∷ written y

abbrev pub cond_written : Cond → List Written
cond_written (t.tests_read r) = read_written r
cond_written (t.tests_no_read place r) = at place (w.Mark m.Not) ∷ mark m.LeftParenthesis ∷ (read_written r ++ mark m.RightParenthesis ∷ [])
cond_written (t.tests x) = written x

abbrev pub first_written : First → List Written
first_written (t.first_scalar place s x v) = at place (scalar_word s) ∷ named x ∷ value_written v
first_written (t.first_auto place x v) = at place (w.Key (codes "auto")) ∷ named x ∷ value_written v
first_written (t.first_effect e) = effect_written e

-- what may be left out
abbrev pub option_written : {A : Type 0} → (A → List Written) → Option A → List Written
option_written f None = []
option_written f (Some x) = f x

-- `(c)`, and what follows
abbrev pub tested : Cond → List Written → List Written
tested c rest = mark m.LeftParenthesis ∷ (cond_written c ++ mark m.RightParenthesis ∷ rest)

-- how the variable of a range-for takes an element
abbrev pub element_written : Element → List Written
element_written (element.Value x) = plain (element_word x) ∷ []
element_written (element.Reference head) = reference_written head

abbrev mutual
  pub stmt_written : Stmt → List Written
  stmt_written (t.block opens items closes) = at opens (w.Mark m.LeftBrace) ∷ (items_written items ++ at closes (w.Mark m.RightBrace) ∷ [])
  stmt_written (t.choice place c x) = at place (w.Key (codes "if")) ∷ tested c (stmt_written x)
  stmt_written (t.choice_else place c x y) =
      at place (w.Key (codes "if")) ∷ tested c (stmt_written x ++ plain (w.Key (codes "else")) ∷ stmt_written y)
  stmt_written (t.while place c x) = at place (w.Key (codes "while")) ∷ tested c (stmt_written x)
  stmt_written (t.for place first c step x) =
      at place (w.Key (codes "for")) ∷ mark m.LeftParenthesis ∷ (option_written first_written first ++ mark m.Semicolon
      ∷ (option_written cond_written c ++ mark m.Semicolon ∷ (option_written effect_written step ++ mark m.RightParenthesis ∷ stmt_written x)))
  stmt_written (t.range_for place e x v body) =
      at place (w.Key (codes "for")) ∷ mark m.LeftParenthesis ∷ (element_written e ++ named x ∷ mark m.Colon ∷ named v
      ∷ mark m.RightParenthesis ∷ stmt_written body)
  stmt_written (t.break place) = at place (w.Key (codes "break")) ∷ mark m.Semicolon ∷ []
  stmt_written (t.continue place) = at place (w.Key (codes "continue")) ∷ mark m.Semicolon ∷ []
  stmt_written (t.gives_back place v) = at place (w.Key (codes "return")) ∷ (option_written written v ++ mark m.Semicolon ∷ [])
  stmt_written (t.does place e) = from_place place (effect_written e ++ mark m.Semicolon ∷ [])

  pub item_written : Item → List Written
  item_written (t.declares d) = declaration_written d ++ mark m.Semicolon ∷ []
  item_written (t.states s) = stmt_written s

  pub items_written : Items → List Written
  items_written t.no_more = []
  items_written (t.followed x xs) = item_written x ++ items_written xs

abbrev pub param_written : Param → List Written
param_written (param.Value place s x) = at place (scalar_word s) ∷ named x ∷ []
param_written (param.Reference place s x) = at place (scalar_word s) ∷ mark m.And ∷ named x ∷ []
param_written (param.Container c x) = container_written c ++ mark m.And ∷ named x ∷ []
param_written (param.ConstContainer place c x) = at place (w.Key (codes "const")) ∷ (container_written c ++ mark m.And ∷ named x ∷ [])
param_written (param.Iterator i x) = iterator_written i ++ named x ∷ []

abbrev pub params_written : List Param → List Written
params_written [] = []
params_written (x ∷ xs) = param_written x ++ flat_map (λ y. mark m.Comma ∷ param_written y) xs

-- what a function gives back; its first word has the function's place
abbrev pub result_written : ResultType → List Written
result_written result.Void = plain (w.Key (codes "void")) ∷ []
result_written (result.Scalar s) = plain (scalar_word s) ∷ []
result_written (result.Iterator i) = iterator_written i

abbrev pub function_written : Function → List Written
function_written f =
    from_place f.place (result_written f.result) ++ named f.name ∷ mark m.LeftParenthesis
    ∷ (params_written f.params ++ mark m.RightParenthesis ∷ stmt_written (t.block f.opens f.items f.closes))

abbrev pub program_written : Program → List Written
program_written p = flat_map function_written p

-- the words alone
abbrev pub words_of : List Written → List Word
words_of xs = map (λ (x : Written). x.word) xs

-- the words of a program
abbrev pub words : Program → List Word
words p = words_of (program_written p)
