-- Sites, loops, statements and names last to the end of a text.
use Rattle.std.proofs.Common.{◌≤◌, List, [], ◌∷◌, length, arith}
use Rattle.sl_syntax.specs.Tree.{Function}
use Rattle.sl_typing.specs.Contexts.{Context}
use Rattle.sl_typing.specs.Sites.{brace_site}
use Rattle.sl_typing.specs.Flow.{before_parameters, in_function, at_brace, after_function, after_functions}
use Rattle.sl_number_limits.proofs.Growth.{Grows, along, sites_grow}
use Rattle.sl_number_limits.proofs.StatementGrowth.{after_items_grow}
use Rattle.sl_number_limits.proofs.Parameters.{parameters_grow}

-- the second place stands behind the first in a text
pub record Lasts (g h : Context) : Type 0 where
  pub sites : length g.sites ≤ length h.sites
  pub loops : length g.loops ≤ length h.loops
  pub statements : g.statements ≤ h.statements
  pub names : length g.names ≤ length h.names

-- a place stands behind itself, and one behind another
pub lasts : (g : Context) → Lasts g g
lasts g = record { sites = omega arith; loops = omega arith; statements = omega arith; names = omega arith }

pub lasts_along : (g h k : Context) → Lasts g h → Lasts h k → Lasts g k
lasts_along g h k a b = record { sites = omega arith; loops = omega arith; statements = omega arith; names = omega arith }

-- in one function
pub lasts_in_function : (g h : Context) → Grows g h → Lasts g h
lasts_in_function g h a = record { sites = a.sites; loops = a.loops; statements = a.statements; names = a.names }

-- from a function's parameters to behind it
pub function_grows : (g : Context) (f : Function) → Grows (before_parameters g f) (after_function g f)
function_grows g f =
    along (before_parameters g f) (in_function g f) (after_function g f) (parameters_grow (before_parameters g f) f.params)
    (along (in_function g f) (at_brace g f) (after_function g f) (after_items_grow (in_function g f) f.items)
    (sites_grow (brace_site f.items f.closes) (at_brace g f)))

-- behind a function
pub function_lasts : (g : Context) (f : Function) → Lasts g (after_function g f)
function_lasts g f = let a = function_grows g f in record { sites = a.sites; loops = a.loops; statements = a.statements; names = a.names }

-- behind functions
pub functions_last : (g : Context) (fs : List Function) → Lasts g (after_functions g fs)
functions_last g [] = lasts g
functions_last g (f ∷ fs) =
    lasts_along g (after_function g f) (after_functions (after_function g f) fs) (function_lasts g f) (functions_last (after_function g f) fs)

-- from the closing brace of the first function
pub brace_lasts : (g : Context) (f : Function) (fs : List Function) → Lasts (at_brace g f) (after_functions g (f ∷ fs))
brace_lasts g f fs =
    lasts_along (at_brace g f) (after_function g f) (after_functions (after_function g f) fs)
    (lasts_in_function (at_brace g f) (after_function g f) (sites_grow (brace_site f.items f.closes) (at_brace g f)))
    (functions_last (after_function g f) fs)
