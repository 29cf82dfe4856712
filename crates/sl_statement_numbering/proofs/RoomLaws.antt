-- Where all is within the limits, numbers are as narrow as a typed text holds them.
use Rattle.std.proofs.Common.{◌≡◌, ℕ, ◌<◌, ◌≤◌, ◌+◌, [], length, get_or, arith, Bool, true, false, ◌&&◌, ◌==◌}
use Rattle.sl_base.specs.declared.limits.TheConstants.{SITES}
use Rattle.sl_base.specs.declared.place.Place.{Place}
use Rattle.sl_typing.specs.declared.rules.TheConstants as rule
use Rattle.sl_typing.specs.declared.scope.FunctionHead.{FunctionHead}
use Rattle.sl_typing.specs.declared.scope.NamedVariable.{NamedVariable}
use Rattle.sl_typing.specs.Contexts.{Context}
use Rattle.sl_typing.specs.Scopes.{Sort, scalars, containers, iterators, sort_of, limit_of}
use Rattle.sl_typing.specs.Numbering.{nowhere}
use Rattle.sl_typing.specs.StatementFaults.{site_faults}
use Rattle.sl_number_limits.specs.Fits.{Fits, FitsVariable, FitsFunction}
use Rattle.sl_number_limits.proofs.Expressions.{one_site_fits}
use Rattle.sl_number_limits.proofs.Lists.{not_broken}
use Rattle.sl_number_limits.proofs.Narrow.{names_are_narrow}
use Rattle.sl_numbering.specs.Numbered.{IsNumbered}

-- how many variables of a sort there may be
limit_is_narrow : (sort : Sort) → limit_of sort < 256
limit_is_narrow scalars = omega arith
limit_is_narrow containers = omega arith
limit_is_narrow iterators = omega arith

narrow_number : (names : ℕ) (v : NamedVariable) → FitsVariable names v → v.number < 256
narrow_number names v f = let a = f.number in let b = limit_is_narrow (sort_of v.variable_type) in omega arith

narrow_label : (names : ℕ) (v : NamedVariable) → names < 65536 → FitsVariable names v → v.label < 65536
narrow_label names v few f = let a = f.label in omega arith

narrow_function : (h : FunctionHead) → FitsFunction h → h.number < 65536
narrow_function h f = let a = f.number in omega arith

-- where all is within the limits, names have narrow numbers
pub numbered : (g : Context) → Fits g → IsNumbered g.scope
numbered g fits = record {
  variables = λ k d h. narrow_number (length g.names) (get_or g.scope.variables k d) (fits.scope.variables k d h);
  names = λ k d h. narrow_label (length g.names) (get_or g.scope.variables k d) (names_are_narrow g fits) (fits.scope.variables k d h);
  functions = λ k d h. narrow_function (get_or g.scope.functions k d) (fits.scope.functions k d h);
}

-- a site that may stand here doesn't pass the limit
pub site_allowed : (g : Context) (is : Bool) (at : Place) → site_faults g is at ≡ [] → (is && (length g.sites == SITES)) ≡ false
site_allowed g is at k = not_broken (is && (length g.sites == SITES)) at rule.TOO_MANY_SITES k

-- so its number is within it
pub site_number_free : (n : ℕ) → (true && (n == SITES)) ≡ false → n ≤ SITES → n < SITES
site_number_free n e h = let a : n + 1 ≤ SITES = one_site_fits true n nowhere e h in omega arith
