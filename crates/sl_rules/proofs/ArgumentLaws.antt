-- Arguments of a call beside the parameters that they are for.
use Rattle.std.proofs.Common.{◌≡◌, refl, ℕ, ◌+◌, Bool, true, false, ◌&&◌, ◌||◌, List, [], ◌∷◌, ◌++◌, length, drop, get_or, ◌<◌, Option, suc, zero, sym, ◌∙◌, Some, None, ap, arith}
use Rattle.std.specs.Prelude.{slice_get}
use Rattle.std.specs.List.{list_any}
use Rattle.std.proofs.Math.Seq.{drop-length, drop-cons}
use Rattle.sl_syntax.specs.declared.operator.Access.TheVariants as a
use Rattle.sl_syntax.specs.declared.tree.expr.Expr.{Expr as ExprCode}
use Rattle.sl_syntax.specs.declared.typed.parameter.ParameterKind.{ParameterKind}
use Rattle.sl_syntax.specs.declared.typed.parameter.ParameterKind.TheVariants as parameters
use Rattle.sl_syntax.specs.Tree as s
use Rattle.sl_syntax.specs.Tree.{Expr, Exprs}
use Rattle.sl_syntax.specs.TreeView.{expr_of, exprs_of}
use Rattle.sl_typing.specs.declared.scope.Scope.{Scope}
use Rattle.std.specs.Prelude.{if◌then◌else◌}
use Rattle.std.specs.Str.{bytes_eq}
use Rattle.sl_base.specs.declared.form.Form.{Form}
use Rattle.sl_typing.specs.Looks.{is_plain, plain_name}
use Rattle.sl_typing.specs.Rules.{hands_const, bound_names, some_twice, is_reference}
use Rattle.sl_typing.specs.Scopes.{is_among}
use Rattle.sl_typing.specs.TypeOf.{size}
use Rattle.sl_typing.specs.WrongType.{fit_parameters, may_be_element, second_may_be_element, first_is_plain}
use Rattle.sl_rules.specs.Means.Parameters.{fits_optional, hands_optional, bound_name}

pub size_exprs_of : (xs : List ExprCode) → size (exprs_of xs) ≡ length xs
size_exprs_of [] = refl
size_exprs_of (x ∷ xs) = let same : size (exprs_of xs) ≡ length xs = size_exprs_of xs in omega arith

-- what stands at a position of a list, and from there on: nothing, or an item and the rest
at_drop : {A : Type 0} (ks : List A) (i : ℕ) (P : Option A → List A → List A → Type 0) → P None [] []
    → ((k : A) (rest : List A) → P (Some k) (k ∷ rest) rest)
    → P (slice_get ks i) (drop i ks) (drop (suc i) ks)
at_drop [] zero P none some = none
at_drop [] (suc i) P none some = none
at_drop (k ∷ ks) zero P none some = some k ks
at_drop (k ∷ ks) (suc i) P none some = at_drop ks i P none some

pub fit_step : (g : Scope) (ks : List ParameterKind) (i : ℕ) (x : Expr) (xs : Exprs)
    → fit_parameters g (drop i ks) (s.with x xs) ≡ (fits_optional g (slice_get ks i) x && fit_parameters g (drop (suc i) ks) xs)
fit_step g ks i x xs =
    at_drop ks i (λ k front rest. fit_parameters g front (s.with x xs) ≡ (fits_optional g k x && fit_parameters g rest xs)) refl (λ k rest. refl)

hands_one : (g : Scope) (k : ParameterKind) (ks : List ParameterKind) (x : Expr) (xs : Exprs)
    → hands_const g (k ∷ ks) (s.with x xs) ≡ (hands_optional g (Some k) x || hands_const g ks xs)
hands_one g (parameters.Value t) ks x xs = refl
hands_one g (parameters.Reference t) ks x xs = refl
hands_one g (parameters.Container a.Const form) ks x xs = refl
hands_one g (parameters.Container a.Whole form) ks x xs = refl
hands_one g (parameters.Container a.Elements form) ks x xs = refl
hands_one g (parameters.Iterator b form) ks x xs = refl

pub hands_step : (g : Scope) (ks : List ParameterKind) (i : ℕ) (x : Expr) (xs : Exprs)
    → hands_const g (drop i ks) (s.with x xs) ≡ (hands_optional g (slice_get ks i) x || hands_const g (drop (suc i) ks) xs)
hands_step g ks i x xs =
    at_drop ks i (λ k front rest. hands_const g front (s.with x xs) ≡ (hands_optional g k x || hands_const g rest xs)) refl
    (λ k rest. hands_one g k rest x xs)

pub bound_step : (ks : List ParameterKind) (i : ℕ) (x : Expr) (xs : Exprs)
    → bound_names (drop i ks) (s.with x xs) ≡ bound_name (slice_get ks i) x ++ bound_names (drop (suc i) ks) xs
bound_step ks i x xs =
    at_drop ks i (λ k front rest. bound_names front (s.with x xs) ≡ bound_name k x ++ bound_names rest xs) refl (λ k rest. refl)

and_true : (b : Bool) → (b && true) ≡ b
and_true true = refl
and_true false = refl

or_false : (b : Bool) → (b || false) ≡ b
or_false true = refl
or_false false = refl

fit_none : (g : Scope) (ks : List ParameterKind) → fit_parameters g ks s.none ≡ true
fit_none g [] = refl
fit_none g (k ∷ ks) = refl

hands_none : (g : Scope) (ks : List ParameterKind) → hands_const g ks s.none ≡ false
hands_none g [] = refl
hands_none g (parameters.Value t ∷ ks) = refl
hands_none g (parameters.Reference t ∷ ks) = refl
hands_none g (parameters.Container a.Const form ∷ ks) = refl
hands_none g (parameters.Container a.Whole form ∷ ks) = refl
hands_none g (parameters.Container a.Elements form ∷ ks) = refl
hands_none g (parameters.Iterator b form ∷ ks) = refl

-- no argument is left
none_left : (xs : List ExprCode) (i : ℕ) → i ≡ length xs → exprs_of (drop i xs) ≡ s.none
none_left xs i e = rw e (rw (drop-length xs) refl)

pub fit_end : (g : Scope) (ks : List ParameterKind) (i : ℕ) (xs : List ExprCode) (fit whole : Bool) → i ≡ length xs
    → (fit && fit_parameters g (drop i ks) (exprs_of (drop i xs))) ≡ whole
    → fit ≡ whole
fit_end g ks i xs fit whole e h =
    let none : exprs_of (drop i xs) ≡ s.none = none_left xs i e in
    let rest : fit_parameters g (drop i ks) (exprs_of (drop i xs)) ≡ true = rw none (fit_none g (drop i ks)) in
    sym (and_true fit) ∙ ap (λ b. fit && b) (sym rest) ∙ h

pub hands_end : (g : Scope) (ks : List ParameterKind) (i : ℕ) (xs : List ExprCode) (hands whole : Bool) → i ≡ length xs
    → (hands || hands_const g (drop i ks) (exprs_of (drop i xs))) ≡ whole
    → hands ≡ whole
hands_end g ks i xs hands whole e h =
    let none : exprs_of (drop i xs) ≡ s.none = none_left xs i e in
    let rest : hands_const g (drop i ks) (exprs_of (drop i xs)) ≡ false = rw none (hands_none g (drop i ks)) in
    sym (or_false hands) ∙ ap (λ b. hands || b) (sym rest) ∙ h

-- a plain name is one name or none
plain_cases : (e : Expr) (P : List (List ℕ) → Type 0) → P [] → ((n : List ℕ) → P (n ∷ [])) → P (plain_name e)
plain_cases (s.name x) P none one = one x.name
plain_cases e P none one = none

bound_if : (b : Bool) (e : Expr) (P : List (List ℕ) → Type 0) → P [] → ((n : List ℕ) → P (n ∷ [])) → P (if b then plain_name e else [])
bound_if true e P none one = plain_cases e P none one
bound_if false e P none one = none

bound_cases : (k : Option ParameterKind) (e : Expr) (P : List (List ℕ) → Type 0) → P [] → ((n : List ℕ) → P (n ∷ [])) → P (bound_name k e)
bound_cases None e P none one = none
bound_cases (Some k) e P none one = bound_if (is_reference k) e P none one

-- whether a name is among names and others
pub among_step : (name : List ℕ) (ks : List ParameterKind) (i : ℕ) (x : Expr) (xs : Exprs)
    → is_among name (bound_names (drop i ks) (s.with x xs))
    ≡ (is_among name (bound_name (slice_get ks i) x) || is_among name (bound_names (drop (suc i) ks) xs))
among_step name ks i x xs =
    ap (is_among name) (bound_step ks i x xs)
    ∙ bound_cases (slice_get ks i) x
    (λ own. is_among name (own ++ bound_names (drop (suc i) ks) xs) ≡ (is_among name own || is_among name (bound_names (drop (suc i) ks) xs))) refl
    (λ n. among_one name n (bound_names (drop (suc i) ks) xs))
  where
    among_one : (name n : List ℕ) (rest : List (List ℕ)) → is_among name (n ∷ [] ++ rest) ≡ (is_among name (n ∷ []) || is_among name rest)
    among_one name n rest = ap (λ b. b || is_among name rest) (sym (or_false (bytes_eq n name)))

-- whether a name stands twice among names and others
pub twice_step : (ks : List ParameterKind) (i : ℕ) (x : Expr) (xs : Exprs)
    → some_twice (bound_names (drop i ks) (s.with x xs))
    ≡ (list_any (λ n. is_among n (bound_names (drop (suc i) ks) xs)) (bound_name (slice_get ks i) x)
    || some_twice (bound_names (drop (suc i) ks) xs))
twice_step ks i x xs =
    ap some_twice (bound_step ks i x xs)
    ∙ bound_cases (slice_get ks i) x
    (λ own. some_twice (own ++ bound_names (drop (suc i) ks) xs)
    ≡ (list_any (λ n. is_among n (bound_names (drop (suc i) ks) xs)) own || some_twice (bound_names (drop (suc i) ks) xs)))
    refl
    (λ n. twice_one n (bound_names (drop (suc i) ks) xs))
  where
    twice_one : (n : List ℕ) (rest : List (List ℕ)) → some_twice (n ∷ [] ++ rest) ≡ (list_any (λ m. is_among m rest) (n ∷ []) || some_twice rest)
    twice_one n rest = ap (λ b. b || some_twice rest) (sym (or_false (is_among n rest)))

-- a loop over arguments that gathers a test by `||` has gathered all of it when none is left
pub gathered : (test : List ExprCode → Bool) (i : ℕ) (xs : List ExprCode) (so_far whole : Bool) → i ≡ length xs → test [] ≡ false
    → (so_far || test (drop i xs)) ≡ whole
    → so_far ≡ whole
gathered test i xs so_far whole e none h =
    let left : drop i xs ≡ [] = rw e (drop-length xs) in
    let rest : test (drop i xs) ≡ false = rw left none in
    sym (or_false so_far) ∙ ap (λ b. so_far || b) (sym rest) ∙ h

pub bound_none : (ks : List ParameterKind) → bound_names ks s.none ≡ []
bound_none [] = refl
bound_none (k ∷ ks) = refl

or_assoc : (a b c : Bool) → (a || b) || c ≡ a || (b || c)
or_assoc true b c = refl
or_assoc false b c = refl

-- a turn of the loop that looks for a name that is bound twice
pub twice_turn : (ks : List ParameterKind) (xs : List ExprCode) (i : ℕ) (x : ExprCode) (twice again whole : Bool) → i < length xs
    → get_or xs i x ≡ x
    → again ≡ list_any (λ n. is_among n (bound_names (drop (i + 1) ks) (exprs_of (drop (i + 1) xs)))) (bound_name (slice_get ks i) (expr_of x))
    → (twice || some_twice (bound_names (drop i ks) (exprs_of (drop i xs)))) ≡ whole
    → ((twice || again) || some_twice (bound_names (drop (i + 1) ks) (exprs_of (drop (i + 1) xs)))) ≡ whole
twice_turn ks xs i x twice again whole within is e h =
    let rest = exprs_of (drop (suc i) xs) in
    let front : drop i xs ≡ x ∷ drop (suc i) xs = drop-cons xs i x within ∙ ap (λ y. y ∷ drop (suc i) xs) is in
    let next : i + 1 ≡ suc i = omega arith in
    let now : again ≡ list_any (λ n. is_among n (bound_names (drop (suc i) ks) rest)) (bound_name (slice_get ks i) (expr_of x)) = rw (← next) e in
    let step : some_twice (bound_names (drop i ks) (exprs_of (drop i xs))) ≡ (again || some_twice (bound_names (drop (suc i) ks) rest)) =
    rw front (twice_step ks i (expr_of x) rest ∙ ap (λ b. b || some_twice (bound_names (drop (suc i) ks) rest)) (sym now)) in
    rw next (or_assoc twice again (some_twice (bound_names (drop (suc i) ks) rest)) ∙ ap (λ b. twice || b) (sym step) ∙ h)

pub second-none : (g : Scope) (names : List (List ℕ)) (form : Form) (xs : List ExprCode) → slice_get xs 1 ≡ None
    → second_may_be_element g names form (exprs_of xs) ≡ false
second-none g names form [] h = refl
second-none g names form (x ∷ []) h = refl
second-none g names form (x ∷ y ∷ xs) h = cc

pub second-some : (g : Scope) (names : List (List ℕ)) (form : Form) (xs : List ExprCode) (x : ExprCode) → slice_get xs 1 ≡ Some x
    → second_may_be_element g names form (exprs_of xs) ≡ may_be_element g names form (expr_of x)
second-some g names form [] z h = cc
second-some g names form (x ∷ []) z h = cc
second-some g names form (x ∷ y ∷ xs) z h =
    let same : y ≡ z = cc in ap (λ (e : ExprCode). may_be_element g names form (expr_of e)) same

pub ruleset seconds = (second-none, second-some)

pub first-none : (xs : List ExprCode) → slice_get xs 0 ≡ None → first_is_plain (exprs_of xs) ≡ false
first-none [] h = refl
first-none (x ∷ xs) h = cc

pub first-some : (xs : List ExprCode) (x : ExprCode) → slice_get xs 0 ≡ Some x → first_is_plain (exprs_of xs) ≡ is_plain (expr_of x)
first-some [] z h = cc
first-some (x ∷ xs) z h = let same : x ≡ z = cc in ap (λ (e : ExprCode). is_plain (expr_of e)) same

pub ruleset firsts = (first-none, first-some)
