-- Trees without their places: every place in a tree is set to one, and all else is as it was. Two trees say the same but for their places where
-- their blanks are equal.
use Rattle.std.specs.Prelude.{map, option_map}
use Rattle.sl_base.specs.declared.place.Place.{Place}
use Rattle.sl_base.specs.declared.token.Token.{Token}
use Rattle.sl_base.specs.declared.word.Word.{Word}
use Rattle.sl_syntax.specs.declared.tree.declaration.ContainerType.{ContainerType}
use Rattle.sl_syntax.specs.declared.tree.effect.Read.{Read}
use Rattle.sl_syntax.specs.declared.tree.element.Element.{Element}
use Rattle.sl_syntax.specs.declared.tree.element.Element.TheVariants as l
use Rattle.sl_syntax.specs.declared.tree.element.ReferenceHead.{ReferenceHead}
use Rattle.sl_syntax.specs.declared.tree.function.IteratorType.{IteratorType}
use Rattle.sl_syntax.specs.declared.tree.function.Param.{Param}
use Rattle.sl_syntax.specs.declared.tree.function.Param.TheVariants as r
use Rattle.sl_syntax.specs.declared.tree.function.ResultType.{ResultType}
use Rattle.sl_syntax.specs.declared.tree.function.ResultType.TheVariants as z
use Rattle.sl_syntax.specs.declared.tree.identifier.Identifier.{Identifier}
use Rattle.sl_syntax.specs.Tree as t
use Rattle.sl_syntax.specs.Tree.{Expr, Exprs, Initializer, Declaration, Out, Effect, Cond, First, Stmt, Item, Items, Function, Program}

-- the one place of a blank tree
abbrev pub nowhere : Place
nowhere = record { line = 1; col = 1 }

abbrev pub blank_identifier : Identifier → Identifier
blank_identifier x = record { name = x.name; place = nowhere }

abbrev pub blank_container : ContainerType → ContainerType
blank_container x = record { place = nowhere; form = x.form }

abbrev pub blank_iterator : IteratorType → IteratorType
blank_iterator x = record { container = blank_container x.container; name = blank_identifier x.name }

abbrev pub blank_reference : ReferenceHead → ReferenceHead
blank_reference x = record { place = nowhere; is_const = x.is_const; element = x.element }

abbrev pub blank_element : Element → Element
blank_element (l.Value x) = l.Value x
blank_element (l.Reference x) = l.Reference (blank_reference x)

abbrev mutual
  pub blank_expr : Expr → Expr
  blank_expr (t.number place n) = t.number nowhere n
  blank_expr (t.truth place v) = t.truth nowhere v
  blank_expr (t.name x) = t.name (blank_identifier x)
  blank_expr (t.call f xs) = t.call (blank_identifier f) (blank_exprs xs)
  blank_expr (t.library_call f xs) = t.library_call (blank_identifier f) (blank_exprs xs)
  blank_expr (t.parentheses place x) = t.parentheses nowhere (blank_expr x)
  blank_expr (t.prefix op place x) = t.prefix op nowhere (blank_expr x)
  blank_expr (t.binary x op place y) = t.binary (blank_expr x) op nowhere (blank_expr y)
  blank_expr (t.postfix x op place) = t.postfix (blank_expr x) op nowhere
  blank_expr (t.index x place y) = t.index (blank_expr x) nowhere (blank_expr y)
  blank_expr (t.member_call x f xs) = t.member_call (blank_expr x) (blank_identifier f) (blank_exprs xs)
  blank_expr (t.member x s place f) = t.member (blank_expr x) s nowhere (blank_identifier f)

  pub blank_exprs : Exprs → Exprs
  blank_exprs t.none = t.none
  blank_exprs (t.with x xs) = t.with (blank_expr x) (blank_exprs xs)

abbrev pub blank_initializer : Initializer → Initializer
blank_initializer t.absent = t.absent
blank_initializer (t.copies x) = t.copies (blank_identifier x)
blank_initializer (t.braces equal xs) = t.braces equal (blank_exprs xs)
blank_initializer (t.arguments xs) = t.arguments (blank_exprs xs)

abbrev pub blank_declaration : Declaration → Declaration
blank_declaration (t.declares_scalar place s x v) = t.declares_scalar nowhere s (blank_identifier x) (option_map blank_expr v)
blank_declaration (t.declares_auto place x v) = t.declares_auto nowhere (blank_identifier x) (blank_expr v)
blank_declaration (t.declares_reference head x v) = t.declares_reference (blank_reference head) (blank_identifier x) (blank_expr v)
blank_declaration (t.declares_container c x i) = t.declares_container (blank_container c) (blank_identifier x) (blank_initializer i)

abbrev pub blank_read : Read → Read
blank_read x = record { place = nowhere; variables = map blank_identifier x.variables }

abbrev pub blank_out : Out → Out
blank_out (t.text place bytes) = t.text nowhere bytes
blank_out (t.end_line place) = t.end_line nowhere
blank_out (t.value x) = t.value (blank_expr x)

abbrev pub blank_effect : Effect → Effect
blank_effect (t.reads x) = t.reads (blank_read x)
blank_effect (t.prints place outs) = t.prints nowhere (map blank_out outs)
blank_effect (t.evaluates x) = t.evaluates (blank_expr x)
blank_effect (t.assigns x op place y) = t.assigns (blank_expr x) op nowhere (blank_expr y)

abbrev pub blank_cond : Cond → Cond
blank_cond (t.tests_read x) = t.tests_read (blank_read x)
blank_cond (t.tests_no_read place x) = t.tests_no_read nowhere (blank_read x)
blank_cond (t.tests x) = t.tests (blank_expr x)

abbrev pub blank_first : First → First
blank_first (t.first_scalar place s x v) = t.first_scalar nowhere s (blank_identifier x) (blank_expr v)
blank_first (t.first_auto place x v) = t.first_auto nowhere (blank_identifier x) (blank_expr v)
blank_first (t.first_effect e) = t.first_effect (blank_effect e)

abbrev mutual
  pub blank_stmt : Stmt → Stmt
  blank_stmt (t.block opens items closes) = t.block nowhere (blank_items items) nowhere
  blank_stmt (t.choice place c x) = t.choice nowhere (blank_cond c) (blank_stmt x)
  blank_stmt (t.choice_else place c x y) = t.choice_else nowhere (blank_cond c) (blank_stmt x) (blank_stmt y)
  blank_stmt (t.while place c x) = t.while nowhere (blank_cond c) (blank_stmt x)
  blank_stmt (t.for place first c step x) =
      t.for nowhere (option_map blank_first first) (option_map blank_cond c) (option_map blank_effect step) (blank_stmt x)
  blank_stmt (t.range_for place e x v body) =
      t.range_for nowhere (blank_element e) (blank_identifier x) (blank_identifier v) (blank_stmt body)
  blank_stmt (t.break place) = t.break nowhere
  blank_stmt (t.continue place) = t.continue nowhere
  blank_stmt (t.gives_back place v) = t.gives_back nowhere (option_map blank_expr v)
  blank_stmt (t.does place e) = t.does nowhere (blank_effect e)

  pub blank_item : Item → Item
  blank_item (t.declares d) = t.declares (blank_declaration d)
  blank_item (t.states s) = t.states (blank_stmt s)

  pub blank_items : Items → Items
  blank_items t.no_more = t.no_more
  blank_items (t.followed x xs) = t.followed (blank_item x) (blank_items xs)

abbrev pub blank_param : Param → Param
blank_param (r.Value place s x) = r.Value nowhere s (blank_identifier x)
blank_param (r.Reference place s x) = r.Reference nowhere s (blank_identifier x)
blank_param (r.Container c x) = r.Container (blank_container c) (blank_identifier x)
blank_param (r.ConstContainer place c x) = r.ConstContainer nowhere (blank_container c) (blank_identifier x)
blank_param (r.Iterator i x) = r.Iterator (blank_iterator i) (blank_identifier x)

abbrev pub blank_result : ResultType → ResultType
blank_result z.Void = z.Void
blank_result (z.Scalar s) = z.Scalar s
blank_result (z.Iterator i) = z.Iterator (blank_iterator i)

abbrev pub blank_function : Function → Function
blank_function f = record {
  place = nowhere;
  result = blank_result f.result;
  name = blank_identifier f.name;
  params = map blank_param f.params;
  opens = nowhere;
  items = blank_items f.items;
  closes = nowhere;
}

-- the program with every place in it set to `nowhere`
abbrev pub blank : Program → Program
blank p = map blank_function p

-- the token of a word in a blank text
abbrev pub blank_token : Word → Token
blank_token word = record { word = word; offset = 0; place = nowhere }
