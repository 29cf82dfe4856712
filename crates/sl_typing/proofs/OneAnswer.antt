-- Laws of the definitions.
use Rattle.std.proofs.Common.{◌≡◌, ◌⊎◌, inl, inr, List, [], ◌∷◌, Option, Some, None, refl, sym, ap, ◌∙◌, rules}
use Rattle.sl_syntax.specs.Tree.{Program}
use Rattle.sl_syntax.specs.Typed as t
use Rattle.sl_typing.specs.declared.fault.Fault.{Fault}
use Rattle.sl_typing.specs.ProgramFaults.{program_faults}
use Rattle.sl_typing.specs.Typing.{Typed, FirstBroken, typed_program, first_of}

-- a program is typed as one text alone
pub one_typed : (p : Program) (u v : t.Typed) → Typed p u → Typed p v → u ≡ v
one_typed p u v x y = x.is_it ∙ sym y.is_it

some_is : (x y : Fault) → Some x ≡ Some y → x ≡ y
some_is x y e = ap (λ (o : Option Fault). elim o as (λ _. Fault) [ None ↦ x | Some z ↦ z ]) e

-- one rule is the first that is broken
pub one_fault : (p : Program) (f h : Fault) → FirstBroken p f → FirstBroken p h → f ≡ h
one_fault p f h x y = some_is f h (sym x ∙ y)

none_is_first : (fs : List Fault) (f : Fault) → fs ≡ [] → first_of fs ≡ Some f → ⊥
none_is_first fs f e x = search (rules, sym (ap first_of e) ∙ x)

-- a typed program breaks none
pub not_both : (p : Program) (u : t.Typed) (f : Fault) → Typed p u → FirstBroken p f → ⊥
not_both p u f x y = none_is_first (program_faults p) f x.breaks_none y

first_or_none : (fs : List Fault) → (fs ≡ []) ⊎ ((f : Fault) × (first_of fs ≡ Some f))
first_or_none [] = inl refl
first_or_none (f ∷ fs) = inr (f, refl)

-- each program is typed, or breaks a rule first
pub one_or_other : (p : Program) → Typed p (typed_program p) ⊎ ((f : Fault) × FirstBroken p f)
one_or_other p = elim (first_or_none (program_faults p)) as (λ _. Typed p (typed_program p) ⊎ ((f : Fault) × FirstBroken p f)) [
  | inl e ↦ inl (record { breaks_none = e; is_it = refl })
  | inr x ↦ inr x
]
