-- Short words for the trees of texts.
use Prim.Native.String.{String}
use Rattle.std.specs.Prelude.{ℕ, Bool, List, [], ◌∷◌, codes}
use Rattle.sl_base.specs.declared.form.Form.{Form}
use Rattle.sl_base.specs.declared.place.Place.{Place}
use Rattle.sl_base.specs.declared.scalar.Scalar.TheVariants as t
use Rattle.sl_syntax.specs.declared.tree.declaration.ContainerType.{ContainerType}
use Rattle.sl_syntax.specs.declared.tree.effect.Read.{Read}
use Rattle.sl_syntax.specs.declared.tree.element.ElementType.{ElementType}
use Rattle.sl_syntax.specs.declared.tree.element.ReferenceHead.{ReferenceHead}
use Rattle.sl_syntax.specs.declared.tree.function.IteratorType.{IteratorType}
use Rattle.sl_syntax.specs.declared.tree.function.Param.{Param}
use Rattle.sl_syntax.specs.declared.tree.function.ResultType.{ResultType}
use Rattle.sl_syntax.specs.declared.tree.function.ResultType.TheVariants as result
use Rattle.sl_syntax.specs.declared.tree.identifier.Identifier.{Identifier}
use Rattle.sl_syntax.specs.Tree.{Expr, Exprs, exprs_from, Item, Items, items_from, Function, Program}
use Rattle.sl_typing.specs.declared.fault.Fault.{Fault}

-- a place
abbrev pub at : ℕ → ℕ → Place
at line col = record { line = line; col = col }

-- a name with its line and its column
abbrev pub id : String → ℕ → ℕ → Identifier
id name line col = record { name = codes name; place = at line col }

-- expressions in a row
abbrev pub all : List Expr → Exprs
all = exprs_from

-- items in a row
abbrev pub items : List Item → Items
items = items_from

-- a read of variables
abbrev pub read : Place → List Identifier → Read
read place variables = record { place = place; variables = variables }

-- the type of a container, at its first token
abbrev pub container_type : Place → Form → ContainerType
container_type place form = record { place = place; form = form }

-- the type of an iterator: its container's, and the name behind the `::`
abbrev pub iterator_type : ContainerType → Identifier → IteratorType
iterator_type container name = record { container = container; name = name }

-- what stands before the name of a reference: its first token, whether it is const, and how the element's type is written
abbrev pub reference_head : Place → Bool → ElementType → ReferenceHead
reference_head place is_const element = record { place = place; is_const = is_const; element = element }

-- a function: its first token, what it gives, its name, its parameters, and its items between its braces
abbrev pub function : Place → ResultType → Identifier → List Param → Place → Items → Place → Function
function place result name params opens items closes =
    record { place = place; result = result; name = name; params = params; opens = opens; items = items; closes = closes }

-- a text that begins with `int main() {`, has these items, and ends with this brace
abbrev pub main_alone : List Item → Place → Program
main_alone xs closes = function (at 1 1) (result.Scalar t.Int) (id "main" 1 5) [] (at 1 12) (items xs) closes ∷ []

-- a rule that is broken at a place
abbrev pub fault : Place → ℕ → Fault
fault place rule = record { place = place; rule = rule }
