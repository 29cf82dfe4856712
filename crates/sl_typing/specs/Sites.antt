-- The sites of a text: the places that can invalidate an iterator, in the order of the text. The number of a site is how many stand before it.
--
-- Chosen here: a site is each member call, each `[ ]` and each `=` that may invalidate something in the object's form, each algorithm whose output is
-- a call of `std::back_inserter`, and each closing brace of a block that declares a container. A call counts by its name and its number of arguments.
use Rattle.std.specs.Prelude.{ℕ, ◌+◌, Bool, true, false, ◌&&◌, List, [], ◌∷◌, ◌++◌, length, Option, Some, None, if◌then◌else◌}
use Rattle.sl_base.specs.declared.place.Place.{Place}
use Rattle.sl_syntax.specs.declared.operator.Assignment.{Assignment}
use Rattle.sl_syntax.specs.declared.operator.Assignment.TheVariants as a
use Rattle.sl_syntax.specs.Tree as s
use Rattle.sl_syntax.specs.Tree.{Expr, Exprs, Items}
use Rattle.sl_typing.specs.declared.expr_type.ExprType.{ExprType}
use Rattle.sl_typing.specs.declared.expr_type.ExprType.TheVariants as types
use Rattle.sl_typing.specs.declared.scope.Scope.{Scope}
use Rattle.sl_typing.specs.Types.{is_container}
use Rattle.sl_typing.specs.Candidates.{member_kills, subscript_kills}
use Rattle.sl_typing.specs.Contexts.{Context, with_sites}
use Rattle.sl_typing.specs.TypeOf.{size, appends, type_of}
use Rattle.sl_typing.specs.Looks.{is_plain, place_of}

-- a member call of so many arguments on an object of this type is a site
abbrev pub is_member_site : ExprType → List ℕ → ℕ → Bool
is_member_site (types.Container access form) name n = member_kills form name n
is_member_site u name n = false

-- `[ ]` on an object of this type is one
abbrev pub is_subscript_site : ExprType → Bool
is_subscript_site (types.Container access form) = subscript_kills form
is_subscript_site u = false

-- a node is a site
unfoldable pub is_site : Scope → Expr → Bool
is_site g (s.member_call x f xs) = is_plain x && is_member_site (type_of g x) f.name (size xs)
is_site g (s.index x at y) = is_subscript_site (type_of g x)
is_site g (s.library_call f xs) = appends f.name xs
is_site g e = false

-- the place of a node that is a site
unfoldable pub own_site : Scope → Expr → List Place
own_site g e = if is_site g e then place_of e ∷ [] else []

unfoldable mutual
  -- the sites of an expression: the object of a call comes before its name, and its arguments behind
  pub sites_in : Scope → Expr → List Place
  sites_in g (s.call f xs) = sites_in_all g xs
  sites_in g (s.library_call f xs) = own_site g (s.library_call f xs) ++ sites_in_all g xs
  sites_in g (s.parentheses at x) = sites_in g x
  sites_in g (s.prefix op at x) = sites_in g x
  sites_in g (s.binary x op at y) = sites_in g x ++ sites_in g y
  sites_in g (s.postfix x op at) = sites_in g x
  sites_in g (s.index x at y) = sites_in g x ++ own_site g (s.index x at y) ++ sites_in g y
  sites_in g (s.member_call x f xs) = sites_in g x ++ own_site g (s.member_call x f xs) ++ sites_in_all g xs
  sites_in g (s.member x selector at f) = sites_in g x
  sites_in g e = []

  -- those of expressions
  pub sites_in_all : Scope → Exprs → List Place
  sites_in_all g s.none = []
  sites_in_all g (s.with x xs) = sites_in g x ++ sites_in_all g xs

-- how many there are
unfoldable pub site_count : Scope → Expr → ℕ
site_count g e = length (sites_in g e)

-- the number of sites before a node's own word, where n stand before the node: those of the object of a call come before
unfoldable pub at_word : Scope → ℕ → Expr → ℕ
at_word g n (s.index x at y) = n + site_count g x
at_word g n (s.member_call x f xs) = n + site_count g x
at_word g n e = n

-- the number of sites before its arguments
unfoldable pub inside : Scope → ℕ → Expr → ℕ
inside g n e = at_word g n e + length (own_site g e)

-- the number of the site that a node is, if it is one, where n stand before the node
unfoldable pub site_number : Scope → ℕ → Expr → Option ℕ
site_number g n e = if is_site g e then Some (at_word g n e) else None

-- what is known behind an expression
abbrev pub behind : Context → Expr → Context
behind g e = with_sites (sites_in g.scope e) g

-- behind expressions
abbrev pub behind_all : Context → Exprs → Context
behind_all g xs = with_sites (sites_in_all g.scope xs) g

-- the `=` of an assignment is a site: its left side is a container
abbrev pub is_assignment_site : Scope → Expr → Assignment → Bool
is_assignment_site g x a.Set = is_plain x && is_container (type_of g x)
is_assignment_site g x op = false

-- the place of that `=`, where it is a site
abbrev pub assignment_site : Scope → Expr → Assignment → Place → List Place
assignment_site g x op at = if is_assignment_site g x op then at ∷ [] else []

-- a block declares a container
abbrev pub declares_container : Items → Bool
declares_container s.no_more = false
declares_container (s.followed (s.declares (s.declares_container ct x value)) rest) = true
declares_container (s.followed i rest) = declares_container rest

-- the closing brace of a block, where it is a site
abbrev pub brace_site : Items → Place → List Place
brace_site items close = if declares_container items then close ∷ [] else []
