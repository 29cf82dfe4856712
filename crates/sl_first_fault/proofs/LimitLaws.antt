-- The limits on variables, where what is known stands behind sites.
use Rattle.std.proofs.Common.{◌≡◌, ℕ, List, ◌++◌, Option, Some, ap, ◌∙◌, refl}
use Rattle.std.specs.Option.{option_or}
use Rattle.sl_base.specs.declared.place.Place.{Place}
use Rattle.sl_syntax.specs.declared.tree.identifier.Identifier.{Identifier}
use Rattle.sl_typing.specs.declared.expr_type.ExprType.{ExprType}
use Rattle.sl_typing.specs.declared.fault.Fault.{Fault}
use Rattle.sl_typing.specs.declared.rules.TheConstants as rule
use Rattle.sl_typing.specs.declared.scope.Scope.{Scope}
use Rattle.sl_typing.specs.Contexts.{Context, declare, with_name, position}
use Rattle.sl_typing.specs.Faults.{broken}
use Rattle.sl_typing.specs.Scopes.{passes_some_limit, with_variable}
use Rattle.sl_typing.specs.StatementFaults.{limit_faults}
use Rattle.sl_typing.specs.Typing.{first_of}
use Rattle.sl_first_fault.proofs.StepLaws.{earlier}

-- one more variable, where what is known has the same scope as before
pub limit-declared : (g h : Context) (x : Identifier) (u : ExprType) (fault : Option Fault) (at : Place) (k : Scope)
    → ((name : Option (List ℕ)) (label : ℕ)
    → fault ≡ first_of (broken (passes_some_limit k (with_variable name label u k)) at rule.TOO_MANY_VARIABLES)) → k ≡ h.scope → h.scope ≡ g.scope
    → fault ≡ first_of (limit_faults g (declare x u h) at)
limit-declared g h x u fault at k one here e =
    let label = position x.name (with_name x.name h.names) in
    one (Some x.name) label
    ∙ ap (λ (k : Scope). first_of (broken (passes_some_limit k (with_variable (Some x.name) label u k)) at rule.TOO_MANY_VARIABLES)) here
    ∙ ap (λ (k : Scope). first_of (broken (passes_some_limit k (with_variable (Some x.name) label u h.scope)) at rule.TOO_MANY_VARIABLES)) e

-- the own rules of a range-for, where they are tried one behind another
pub range_own : (a b c d fault : Option Fault) (xs zs : List Fault) (ys ws : Context → List Fault) (m1 h m2 k : Context) → m1 ≡ h → m2 ≡ k
    → a ≡ first_of xs → b ≡ first_of (ys m1) → c ≡ first_of (ws m2) → d ≡ first_of zs
    → fault ≡ option_or (option_or (option_or a b) c) d → fault ≡ first_of (((xs ++ ys h) ++ ws k) ++ zs)
range_own a b c d fault xs zs ys ws m1 h m2 k e1 e2 ea eb ec ed e =
    let hidden = earlier a b (option_or a b) xs (ys h) refl ea (eb ∙ ap (λ (m : Context). first_of (ys m)) e1) in
    let past = earlier (option_or a b) c (option_or (option_or a b) c) (xs ++ ys h) (ws k) refl hidden (ec ∙ ap (λ (m : Context). first_of (ws m)) e2) in
    earlier (option_or (option_or a b) c) d fault ((xs ++ ys h) ++ ws k) zs e past ed
