-- What an expression is by its look: its place, a plain name, a left side.
--
-- Restates ISO/IEC 14882:2017, [basic.lval] and [expr.ass] (what may stand on the left).
-- Chosen here: a left side never stands in parentheses, and `++x` is none.
use Rattle.std.specs.Prelude.{ℕ, Bool, true, false, List, [], ◌∷◌}
use Rattle.sl_base.specs.declared.place.Place.{Place}
use Rattle.sl_syntax.specs.Tree as s
use Rattle.sl_syntax.specs.Tree.{Expr}
use Rattle.sl_typing.specs.declared.scope.Scope.{Scope}
use Rattle.sl_typing.specs.Types.{is_element}
use Rattle.sl_typing.specs.TypeOf.{type_of}

-- the place of a node
abbrev pub place_of : Expr → Place
place_of (s.number at n) = at
place_of (s.truth at x) = at
place_of (s.name x) = x.place
place_of (s.call f xs) = f.place
place_of (s.library_call f xs) = f.place
place_of (s.parentheses at x) = at
place_of (s.prefix op at x) = at
place_of (s.binary x op at y) = at
place_of (s.postfix x op at) = at
place_of (s.index x at y) = at
place_of (s.member_call x f xs) = f.place
place_of (s.member x selector at f) = at

-- a name without parentheses
abbrev pub is_plain : Expr → Bool
is_plain (s.name x) = true
is_plain e = false

-- that name
abbrev pub plain_name : Expr → List (List ℕ)
plain_name (s.name x) = x.name ∷ []
plain_name e = []

-- that name, and also one in parentheses
abbrev pub bare_name : Expr → List (List ℕ)
bare_name (s.name x) = x.name ∷ []
bare_name (s.parentheses at x) = bare_name x
bare_name e = []

-- a left side: a variable, or an element without parentheses around it
unfoldable pub is_left_side : Scope → Expr → Bool
is_left_side g (s.name x) = true
is_left_side g (s.parentheses at x) = false
is_left_side g e = is_element (type_of g e)
