-- What a reference may be bound to by its looks.
use Rattle.std.specs.Prelude.{Bool, true, false}
use Rattle.sl_syntax.specs.declared.operator.Selector.TheVariants as l
use Rattle.sl_syntax.specs.Tree as s
use Rattle.sl_syntax.specs.Tree.{Expr}

-- neither a name nor in parentheses, nor a part behind a dot
abbrev pub is_bindable : Expr → Bool
is_bindable (s.name x) = false
is_bindable (s.parentheses at x) = false
is_bindable (s.member x l.Dot at f) = false
is_bindable e = true
