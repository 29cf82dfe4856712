-- Declarations of references to elements, and the variable of a range-for.
--
-- Restates ISO/IEC 14882:2017, [dcl.init.ref] (what a reference is bound to), [dcl.spec.auto] (`auto &` of what is const is const), [stmt.ranged],
-- [associative.reqmts] and [unord.req] (keys aren't written).
-- Chosen here: a reference is bound to `*it`, `it->first`, `it->second`, `a[e]`, or a call of `at`, `front` or `back`, without parentheses. Over a map
-- a range-for takes `auto &` and `const auto &` alone. In a range-for that breaks a rule a reference is one to an int.
use Rattle.std.specs.Prelude.{Bool, true, false, not, ◌&&◌, ◌||◌, if◌then◌else◌}
use Rattle.sl_base.specs.declared.form.Form.{Form}
use Rattle.sl_base.specs.declared.scalar.Scalar.TheVariants as t
use Rattle.sl_specs.specs.Forms.{is_keyed}
use Rattle.sl_syntax.specs.declared.operator.Access.{Access}
use Rattle.sl_syntax.specs.declared.operator.Selector.TheVariants as l
use Rattle.sl_syntax.specs.declared.tree.element.Element.{Element}
use Rattle.sl_syntax.specs.declared.tree.element.Element.TheVariants as element
use Rattle.sl_syntax.specs.declared.tree.element.ElementType.{ElementType}
use Rattle.sl_syntax.specs.declared.tree.element.ElementType.TheVariants as type
use Rattle.sl_syntax.specs.declared.tree.element.ReferenceHead.{ReferenceHead}
use Rattle.sl_syntax.specs.Tree as s
use Rattle.sl_syntax.specs.Tree.{Expr}
use Rattle.sl_syntax.specs.Written.{is_map}
use Rattle.sl_typing.specs.declared.expr_type.ExprType.{ExprType}
use Rattle.sl_typing.specs.declared.expr_type.ExprType.TheVariants as types
use Rattle.sl_typing.specs.declared.scope.Scope.{Scope}
use Rattle.sl_typing.specs.Types.{is_const, is_written, is_element}
use Rattle.sl_typing.specs.TypeOf.{type_of}

-- `auto`, and not `int`
abbrev pub is_auto : ElementType → Bool
is_auto type.Auto = true
is_auto x = false

-- a reference may be bound to an expression
abbrev pub may_be_bound : Scope → Expr → Bool
may_be_bound g (s.name x) = false
may_be_bound g (s.parentheses at x) = false
may_be_bound g (s.member x l.Dot at f) = false
may_be_bound g e = is_element (type_of g e)

-- a head writes through its reference: it isn't written const, nor made so by `auto &` of what isn't written
abbrev pub head_writes : ReferenceHead → Bool → Bool
head_writes head writable = not head.is_const && (writable || not (is_auto head.element))

-- a head would write what isn't written
abbrev pub head_frees_const : ReferenceHead → Bool → Bool
head_frees_const head writable = head_writes head writable && not writable

-- the type of a reference that is declared so and bound to an element of this type
abbrev pub reference_type : ReferenceHead → ExprType → ExprType
reference_type head u = types.IntReference (head_writes head (is_written u))

-- a range-for goes over a container of this type
abbrev pub may_go_over : Element → ExprType → Bool
may_go_over (element.Value x) (types.Container access form) = not (is_map form)
may_go_over (element.Reference head) (types.Container access form) = not (is_map form) || is_auto head.element
may_go_over how u = false

-- the elements of a container that aren't pairs are written: it isn't const, and they are no keys
abbrev pub has_written_elements : Access → Form → Bool
has_written_elements access form = not (is_const access) && not (is_keyed form)

-- the type of the variable of a range-for over a container of this type
abbrev pub element_type : Element → ExprType → ExprType
element_type (element.Value x) u = types.Scalar t.Int
element_type (element.Reference head) (types.Container access form) =
    if is_map form && is_auto head.element then types.EntryReference (not head.is_const && not (is_const access))
    else types.IntReference (head_writes head (is_map form || has_written_elements access form))
element_type (element.Reference head) u = types.IntReference (not head.is_const)

-- a range-for's reference would write what isn't written
abbrev pub frees_const : Element → ExprType → Bool
frees_const (element.Reference head) (types.Container access form) = not (is_map form) && head_frees_const head (has_written_elements access form)
frees_const how u = false
