-- Steps one behind another.
use Rattle.std.proofs.Common.{◌≡◌, List, [], ◌∷◌, ◌++◌, Option, Some, None, refl, sym, ◌∙◌, ap, subst, append_assoc, Result, Ok, Err}
use Rattle.std.specs.Option.{option_or}
use Rattle.sl_typing.specs.declared.fault.Fault.{Fault}
use Rattle.sl_syntax.specs.declared.tree.identifier.Identifier.{Identifier}
use Rattle.sl_typing.specs.declared.expr_type.ExprType.{ExprType}
use Rattle.sl_typing.specs.Contexts.{Context, declare}
use Rattle.sl_typing.specs.StatementFaults.{limit_faults}
use Rattle.sl_typing.specs.Typing.{first_of}
use Rattle.sl_first_fault.specs.declared.stop.Stop.{Stop}
use Rattle.sl_first_fault.specs.declared.stop.Stop.TheVariants.{Memory, At}
use Rattle.sl_first_fault.specs.Means.Steps.{StopsAt, Checks, Done, Answers}

-- nothing before, so what comes behind
pub first_of-behind : (xs ys : List Fault) → first_of xs ≡ None → first_of (xs ++ ys) ≡ first_of ys
first_of-behind [] ys e = refl
first_of-behind (x ∷ xs) ys e = cc

-- the first of the first part
pub first_of-before : (xs ys : List Fault) (x : Fault) → first_of xs ≡ Some x → first_of (xs ++ ys) ≡ Some x
first_of-before [] ys x e = cc
first_of-before (y ∷ xs) ys x e = e

-- the first of two parts
pub first_of-append : (xs ys : List Fault) → first_of (xs ++ ys) ≡ option_or (first_of xs) (first_of ys)
first_of-append [] ys = refl
first_of-append (x ∷ xs) ys = refl

-- the first of two faults that may be there
pub earlier : (first second fault : Option Fault) (xs ys : List Fault) → fault ≡ option_or first second → first ≡ first_of xs
    → second ≡ first_of ys → fault ≡ first_of (xs ++ ys)
earlier first second fault xs ys e a b =
    e ∙ ap (λ (x : Option Fault). option_or x second) a ∙ ap (λ (x : Option Fault). option_or (first_of xs) x) b ∙ sym (first_of-append xs ys)

-- a walk that stops in the first part
pub StopsAt-before : (e : Stop) (xs ys : List Fault) → StopsAt e (first_of xs) → StopsAt e (first_of (xs ++ ys))
StopsAt-before Memory xs ys h = tt
StopsAt-before (At x) xs ys h = first_of-before xs ys x h

-- and one that stops behind it
pub StopsAt-behind : (e : Stop) (xs ys : List Fault) → first_of xs ≡ None → StopsAt e (first_of ys) → StopsAt e (first_of (xs ++ ys))
StopsAt-behind Memory xs ys none h = tt
StopsAt-behind (At x) xs ys none h = first_of-behind xs ys none ∙ h

-- a part, and what comes behind it
pub then : {A : Type 0} {xs : List Fault} {mid g : Context} (r : Result A Stop) (ys : Context → List Fault) (new : Context)
    (behind : Context → Context) → Done xs mid g → Answers r (ys mid) new (behind mid) → Answers r (xs ++ ys g) new (behind g)
then {A} {xs} {mid} {g} (Ok u) ys new behind d h =
    let k = subst (λ (k : Context). Done (ys k) new (behind k)) d.is_known h in
    record { breaks_none = first_of-behind xs (ys g) d.breaks_none ∙ k.breaks_none; is_known = k.is_known }
then {A} {xs} {mid} {g} (Err e) ys new behind d h =
    StopsAt-behind e xs (ys g) d.breaks_none (subst (λ (k : Context). StopsAt e (first_of (ys k))) d.is_known h)

-- a part that breaks no rule, and another one
pub then_done : {xs : List Fault} {mid g : Context} (ys : Context → List Fault) (new : Context) (behind : Context → Context)
    → Done xs mid g → Done (ys mid) new (behind mid) → Done (xs ++ ys g) new (behind g)
then_done {xs} {mid} {g} ys new behind d h =
    let k = subst (λ (k : Context). Done (ys k) new (behind k)) d.is_known h in
    record { breaks_none = first_of-behind xs (ys g) d.breaks_none ∙ k.breaks_none; is_known = k.is_known }

-- and one that stops
pub then_stops : {xs : List Fault} {mid g : Context} (e : Stop) (ys : Context → List Fault) → Done xs mid g → StopsAt e (first_of (ys mid))
    → StopsAt e (first_of (xs ++ ys g))
then_stops {xs} {mid} {g} e ys d h =
    StopsAt-behind e xs (ys g) d.breaks_none (subst (λ (k : Context). StopsAt e (first_of (ys k))) d.is_known h)

-- more is known without a rule that is broken
pub moved : {xs : List Fault} {mid g : Context} (new : Context) (behind : Context → Context) → Done xs mid g → new ≡ behind mid
    → Done xs new (behind g)
moved new behind d e = record { breaks_none = d.breaks_none; is_known = e ∙ ap behind d.is_known }

-- a part that begins where more is known
pub started_at : (mid g : Context) (ys : Context → List Fault) (behind : Context → Context) (new : Context) → mid ≡ g
    → Done (ys mid) new (behind mid) → Done (ys g) new (behind g)
started_at mid g ys behind new e d = subst (λ (k : Context). Done (ys k) new (behind k)) e d

-- rules that are tried behind a part
pub then_checks : {A : Type 0} {xs : List Fault} {mid g : Context} (r : Result A Stop) (fault : Option Fault) (ys : List Fault)
    → Done xs mid g → fault ≡ first_of ys → Checks r fault → Answers r (xs ++ ys) mid g
then_checks {A} {xs} (Ok u) fault ys d e h =
    record { breaks_none = first_of-behind xs ys d.breaks_none ∙ sym e ∙ h; is_known = d.is_known }
then_checks {A} {xs} (Err stop) fault ys d e h = StopsAt-behind stop xs ys d.breaks_none (subst (StopsAt stop) e h)

-- rules alone
pub checked : {A : Type 0} (r : Result A Stop) (fault : Option Fault) (xs : List Fault) (g : Context) → fault ≡ first_of xs → Checks r fault
    → Answers r xs g g
checked (Ok u) fault xs g e h = record { breaks_none = sym e ∙ h; is_known = refl }
checked (Err stop) fault xs g e h = subst (StopsAt stop) e h

-- a variable that is declared behind what it is made from, with its own rules
pub declares : {A : Type 0} {vs : List Fault} {mid b : Context} (r : Result A Stop) (own : Option Fault) (xs : List Fault) (x : Identifier)
    (t u : ExprType) (new g : Context) → t ≡ u → Done vs mid b → b.scope ≡ g.scope → own ≡ first_of xs
    → ((k : Context) (zs : List Fault) → mid.scope ≡ k.scope → own ≡ first_of zs
    → Answers r (zs ++ limit_faults k (declare x t mid) x.place) new (declare x t mid))
    → Answers r (vs ++ (xs ++ limit_faults g (declare x u b) x.place)) new (declare x u b)
declares {A} {vs} {mid} {b} r own xs x t u new g same d e f h =
    subst (λ (u : ExprType). Answers r (vs ++ (xs ++ limit_faults g (declare x u b) x.place)) new (declare x u b)) same
    (then r (λ (k : Context). xs ++ limit_faults g (declare x t k) x.place) new (λ (k : Context). declare x t k) d
    (h g xs (ap (λ (k : Context). k.scope) d.is_known ∙ e) f))

-- parts in other groups
pub group-2 : (v a b c : List Fault) → v ++ ((a ++ b) ++ c) ≡ ((v ++ a) ++ b) ++ c
group-2 v a b c = sym (append_assoc v (a ++ b) c) ∙ ap (λ (l : List Fault). l ++ c) (sym (append_assoc v a b))

pub group-3 : (v a b c d : List Fault) → v ++ (((a ++ b) ++ c) ++ d) ≡ (((v ++ a) ++ b) ++ c) ++ d
group-3 v a b c d = sym (append_assoc v ((a ++ b) ++ c) d) ∙ ap (λ (l : List Fault). l ++ d) (group-2 v a b c)

-- the same faults, in other groups
pub Answers-along : {A : Type 0} {ys : List Fault} (r : Result A Stop) (xs : List Fault) (new behind : Context)
    → xs ≡ ys → Answers r xs new behind → Answers r ys new behind
Answers-along {A} {ys} r xs new behind e h = subst (λ (l : List Fault). Answers r l new behind) e h

-- the names of lemmas for tactics
pub ruleset first_laws = (first_of-append)

pub ruleset stop_laws = (StopsAt-before)
