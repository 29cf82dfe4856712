-- The first name of a read that isn't a variable's breaks the first rule on names.
use Rattle.std.proofs.Common.{◌≡◌, true, false, cond, List, [], ◌∷◌, ◌++◌, Some, refl, sym, ap, ◌∙◌, if◌then◌else◌}
use Rattle.std.specs.Prelude.{find, flat_map, option_map}
use Rattle.sl_syntax.specs.declared.tree.identifier.Identifier.{Identifier}
use Rattle.sl_typing.specs.declared.fault.Fault.{Fault}
use Rattle.sl_typing.specs.declared.rules.TheConstants as rule
use Rattle.sl_typing.specs.declared.scope.Scope.{Scope}
use Rattle.sl_typing.specs.Contexts.{Context}
use Rattle.sl_typing.specs.Rules.{is_unknown_variable}
use Rattle.sl_typing.specs.StatementFaults.{name_faults}
use Rattle.sl_typing.specs.Typing.{first_of}

-- a name that isn't a variable's
abbrev at_name : Identifier → Fault
at_name x = record { place = x.place; rule = rule.UNKNOWN_NAME }

pub first_unknown_name : (g : Context) (xs : List Identifier)
    → first_of (flat_map (name_faults g) xs) ≡ option_map at_name (find (λ (x : Identifier). is_unknown_variable g.scope x.name) xs)
first_unknown_name g [] = refl
first_unknown_name g (x ∷ xs) = elim (is_unknown_variable g.scope x.name) as (λ b.
    first_of ((if b then at_name x ∷ [] else []) ++ flat_map (name_faults g) xs)
    ≡ option_map at_name (cond b (Some x) (find (λ (y : Identifier). is_unknown_variable g.scope y.name) xs))) [
      | true ↦ refl
      | false ↦ first_unknown_name g xs
    ]

-- the same where one is found in the scope of the context
pub found_unknown : (g : Context) (h : Scope) (xs : List Identifier) (x : Identifier) → h ≡ g.scope
    → Some x ≡ find (λ (y : Identifier). is_unknown_variable h y.name) xs → Some (at_name x) ≡ first_of (flat_map (name_faults g) xs)
found_unknown g h xs x is_scope found =
    ap (option_map at_name) (found ∙ ap (λ (k : Scope). find (λ (y : Identifier). is_unknown_variable k y.name) xs) is_scope)
    ∙ sym (first_unknown_name g xs)
