-- A reference is bound to an element that looks so.
use Rattle.std.proofs.Common.{◌≡◌, refl}
use Rattle.std.specs.Prelude.{◌&&◌}
use Rattle.sl_syntax.specs.declared.operator.Selector.TheVariants as l
use Rattle.sl_syntax.specs.Tree as s
use Rattle.sl_syntax.specs.Tree.{Expr}
use Rattle.sl_typing.specs.declared.scope.Scope.{Scope}
use Rattle.sl_typing.specs.Ranges.{may_be_bound}
use Rattle.sl_typing.specs.Types.{is_element}
use Rattle.sl_typing.specs.TypeOf.{type_of}
use Rattle.sl_statement_types.specs.Means.Bound.{is_bindable}

pub bound_by_looks : (g : Scope) (e : Expr) → may_be_bound g e ≡ (is_bindable e && is_element (type_of g e))
bound_by_looks g (s.number at n) = refl
bound_by_looks g (s.truth at b) = refl
bound_by_looks g (s.name x) = refl
bound_by_looks g (s.call f xs) = refl
bound_by_looks g (s.library_call f xs) = refl
bound_by_looks g (s.parentheses at x) = refl
bound_by_looks g (s.prefix op at x) = refl
bound_by_looks g (s.binary x op at y) = refl
bound_by_looks g (s.postfix x op at) = refl
bound_by_looks g (s.index x at y) = refl
bound_by_looks g (s.member_call x f xs) = refl
bound_by_looks g (s.member x l.Dot at f) = refl
bound_by_looks g (s.member x l.Arrow at f) = refl
