-- Operands whose order doesn't matter by names: neither does it by variables.
use Rattle.std.proofs.Common.{◌≡◌, ℕ, ◌+◌, Bool, true, false, ◌&&◌, List, [], ◌∷◌, map, refl, ◌∙◌}
use Rattle.std.specs.List.{list_all}
use Rattle.std.proofs.lemmas.Bool.{and_parts, and_from, or_parts, not-false}
use Rattle.std.proofs.lemmas.List.Folds.{list_all-append}
use Rattle.sl_base.specs.declared.place.Place.{Place}
use Rattle.sl_base.specs.declared.scalar.Scalar.{Scalar}
use Rattle.sl_specs.specs.declared.letter.Letter.{Letter}
use Rattle.sl_syntax.specs.declared.operator.Access.TheVariants as a
use Rattle.sl_syntax.specs.declared.typed.parameter.ParameterKind.{ParameterKind}
use Rattle.sl_syntax.specs.declared.typed.parameter.ParameterKind.TheVariants as parameters
use Rattle.sl_syntax.specs.Tree as s
use Rattle.sl_syntax.specs.Tree.{Expr, Exprs}
use Rattle.sl_syntax.specs.Typed as t
use Rattle.sl_syntax.specs.Typed.{Function, Operands}
use Rattle.sl_typing.specs.declared.expr_type.ExprType.{ExprType}
use Rattle.sl_typing.specs.declared.expr_type.ExprType.TheVariants as types
use Rattle.sl_typing.specs.declared.scope.Scope.{Scope}
use Rattle.sl_typing.specs.declared.standing.Standing.TheVariants as standing
use Rattle.sl_typing.specs.Scopes.{type_of_name, number_of_name}
use Rattle.sl_typing.specs.TypeOf.{type_of_use, type_of, types_of}
use Rattle.sl_typing.specs.Looks.{is_plain}
use Rattle.sl_typing.specs.Sites.{site_count}
use Rattle.sl_typing.specs.WrongType.{is_exactly, fits_parameter, fit_parameters}
use Rattle.sl_typing.specs.Faults.{faults, faults_of_all}
use Rattle.sl_typing.specs.Order.{stands_beside, clash, clashes, some_clash, deeds}
use Rattle.sl_typing.specs.Numbering.{Way, as_it_is, as_number, as_variable, number_in, handed, letter_ways, ways, parameter_way, first_way, other_ways}
use Rattle.sl_typing.specs.Numbering.{variable, typed, operands}
use Rattle.sl_model.specs.Typing.WellTypedOrder.{Variable, listed, is_still, bears, may_swap, may_all_swap, but_elements, changed_in}
use Rattle.sl_well_typed.proofs.Parts.{arguments_kept}
use Rattle.sl_typed_order.proofs.Sound.{Sound}
use Rattle.sl_typed_order.proofs.Alias.{first_plain}
use Rattle.sl_typed_order.proofs.Still.{converted_still}
use Rattle.sl_typed_order.proofs.Swap.{beside_bears, letter_is_plain, handed_does}
use Rattle.sl_typed_order.proofs.Deeds.{expression_does}
use Rattle.sl_typed_order.proofs.Kept.{is_plain_way}

-- what is handed over is as still as what it is made from
abbrev pub IsHanded : Scope → ℕ → Way → Expr → Type 0
IsHanded g n w x = (vs : List Variable) (calls : Bool) → is_still vs calls (typed g n x) ≡ true
    → is_still vs calls (handed w (type_of g x) (typed g n x)) ≡ true

pub plain_handed : (g : Scope) (n : ℕ) (w : Way) (x : Expr) → is_plain_way w ≡ true → IsHanded g n w x
plain_handed g n as_it_is x h vs calls still = still
plain_handed g n (as_number k) x h vs calls still = converted_still vs calls k (type_of g x) (typed g n x) still
plain_handed g n as_variable x h vs calls still = absurd cc

-- a scalar variable that is handed over
variable_still : (vs : List Variable) (calls : Bool) (k : Scalar) (u : ExprType) (n : ℕ) (at : Place) (label : ℕ) → is_exactly k (type_of_use u) ≡ true
    → is_still vs calls (variable u n at label) ≡ true → is_still vs calls (t.handed_scalar (number_in (variable u n at label))) ≡ true
unfolding is_still
variable_still vs calls k (types.Scalar j) n at label h still = still
variable_still vs calls k u n at label h still = absurd cc

reference_handed : (g : Scope) (n : ℕ) (k : Scalar) (x : Expr) → (is_plain x && is_exactly k (type_of g x)) ≡ true → IsHanded g n as_variable x
unfolding typed operands type_of types_of
reference_handed g n k (s.name x) h vs calls still = variable_still vs calls k (type_of_name g x.name) (number_of_name g x.name) x.place _ h still
reference_handed g n k x h vs calls still = absurd cc

argument_handed : (g : Scope) (n : ℕ) (k : ParameterKind) (x : Expr) → fits_parameter g k x ≡ true → IsHanded g n (parameter_way k) x
argument_handed g n (parameters.Value c) x fits = plain_handed g n (as_number c) x refl
argument_handed g n (parameters.Reference c) x fits = reference_handed g n c x fits
argument_handed g n (parameters.Container access form) x fits = plain_handed g n as_it_is x refl
argument_handed g n (parameters.Iterator c form) x fits = plain_handed g n as_it_is x refl

-- all arguments are
abbrev pub AllHanded : Scope → ℕ → List Way → Exprs → Type 0
AllHanded g n ws s.none = Unit {0}
AllHanded g n ws (s.with x xs) = IsHanded g n (first_way ws) x × AllHanded g (n + site_count g x) (other_ways ws) xs

first_is_plain_way : (ws : List Way) → list_all is_plain_way ws ≡ true → (is_plain_way (first_way ws) ≡ true) × (list_all is_plain_way (other_ways ws) ≡ true)
first_is_plain_way [] h = (refl, refl)
first_is_plain_way (w ∷ ws) h = and_parts (is_plain_way w) (list_all is_plain_way ws) h

pub all_plain_handed : (g : Scope) (n : ℕ) (ws : List Way) (xs : Exprs) → list_all is_plain_way ws ≡ true → AllHanded g n ws xs
all_plain_handed g n ws s.none h = tt
all_plain_handed g n ws (s.with x xs) h =
    let parts = first_is_plain_way ws h in
    (plain_handed g n (first_way ws) x parts.0, all_plain_handed g (n + site_count g x) (other_ways ws) xs parts.1)

pub letters_are_plain : (letters : List Letter) → list_all is_plain_way (ways letters) ≡ true
letters_are_plain [] = refl
letters_are_plain (letter ∷ rest) =
    list_all-append is_plain_way (letter_ways letter) (ways rest)
    ∙ and_from (list_all is_plain_way (letter_ways letter)) (list_all is_plain_way (ways rest)) (letter_is_plain letter) (letters_are_plain rest)

pub arguments_handed : (g : Scope) (n : ℕ) (ks : List ParameterKind) (xs : Exprs) → fit_parameters g ks xs ≡ true
    → AllHanded g n (map parameter_way ks) xs
arguments_handed g n ks s.none fits = tt
arguments_handed g n [] (s.with x xs) fits = all_plain_handed g n [] (s.with x xs) refl
arguments_handed g n (k ∷ ks) (s.with x xs) fits =
    let parts = and_parts (fits_parameter g k x) (fit_parameters g ks xs) fits in
    (argument_handed g n k x parts.0, arguments_handed g (n + site_count g x) ks xs parts.1)

-- two parts
pub parts_swap : (fs : List Function) (g : Scope) → Sound fs g → (n k : ℕ) (x y : Expr) → faults g n standing.Plain x ≡ []
    → faults g k standing.Plain y ≡ [] → (w v : Way) → IsHanded g n w x → IsHanded g k v y → clash g x y ≡ false
    → may_swap fs (handed w (type_of g x) (typed g n x)) (handed v (type_of g y) (typed g k y)) ≡ true
parts_swap fs g sound n k x y first second w v hands gives apart =
    let d = handed w (type_of g x) (typed g n x) in
    let e = handed v (type_of g y) (typed g k y) in
    let both = not-false (stands_beside g (deeds g x) y && stands_beside g (deeds g y) x) apart in
    let parts = and_parts (stands_beside g (deeds g x) y) (stands_beside g (deeds g y) x) both in
    and_from (bears fs d e) (bears fs e d)
    (beside_bears fs g d (deeds g x)
    (handed_does fs g (deeds g x) w (type_of g x) (typed g n x) (expression_does fs g sound n standing.Plain x first)) k y second e
    (λ calls still. gives (changed_in fs d) calls still) parts.0)
    (beside_bears fs g e (deeds g y)
    (handed_does fs g (deeds g y) v (type_of g y) (typed g k y) (expression_does fs g sound k standing.Plain y second)) n x first d
    (λ calls still. hands (changed_in fs e) calls still) parts.1)

-- a part and each of some arguments
one_swaps : (fs : List Function) (g : Scope) → Sound fs g → (n k : ℕ) (x : Expr) (ys : Exprs) → faults g n standing.Plain x ≡ []
    → faults_of_all g k standing.Plain ys ≡ [] → (w : Way) (vs : List Way) → IsHanded g n w x → AllHanded g k vs ys → clashes g x ys ≡ false
    → list_all (may_swap fs (handed w (type_of g x) (typed g n x))) (listed (operands g k vs ys)) ≡ true
unfolding operands
one_swaps fs g sound n k x s.none first none w vs hands all apart = refl
one_swaps fs g sound n k x (s.with y ys) first none w vs hands all apart =
    let parts = or_parts (clash g x y) (clashes g x ys) apart in
    let d = handed w (type_of g x) (typed g n x) in
    and_from (may_swap fs d (handed (first_way vs) (type_of g y) (typed g k y)))
    (list_all (may_swap fs d) (listed (operands g (k + site_count g y) (other_ways vs) ys)))
    (parts_swap fs g sound n k x y first (first_plain g k y ys none) w (first_way vs) hands all.0 parts.0)
    (one_swaps fs g sound n (k + site_count g y) x ys first (arguments_kept g k standing.Plain y ys none).1 w (other_ways vs) hands all.1 parts.1)

-- each two arguments
pub all_swap : (fs : List Function) (g : Scope) → Sound fs g → (n : ℕ) (ws : List Way) (xs : Exprs) → faults_of_all g n standing.Plain xs ≡ []
    → AllHanded g n ws xs → some_clash g xs ≡ false → may_all_swap fs (listed (operands g n ws xs)) ≡ true
unfolding operands
all_swap fs g sound n ws s.none none all apart = refl
all_swap fs g sound n ws (s.with x xs) none all apart =
    let parts = or_parts (clashes g x xs) (some_clash g xs) apart in
    let rest = (arguments_kept g n standing.Plain x xs none).1 in
    let es = listed (operands g (n + site_count g x) (other_ways ws) xs) in
    and_from (list_all (may_swap fs (handed (first_way ws) (type_of g x) (typed g n x))) es) (may_all_swap fs es)
    (one_swaps fs g sound n (n + site_count g x) x xs (first_plain g n x xs none) rest (first_way ws) (other_ways ws) all.0 all.1 parts.0)
    (all_swap fs g sound (n + site_count g x) (other_ways ws) xs rest all.1 parts.1)

-- those that aren't for elements alone are among all
one_more : (P : t.Expr → Bool) (ks : List ParameterKind) (e : t.Expr) (es : Operands) → list_all P (e ∷ listed es) ≡ true
    → (list_all P (listed es) ≡ true → list_all P (but_elements ks es) ≡ true) → list_all P (e ∷ but_elements ks es) ≡ true
one_more P ks e es h next =
    let parts = and_parts (P e) (list_all P (listed es)) h in and_from (P e) (list_all P (but_elements ks es)) parts.0 (next parts.1)

all_but : (P : t.Expr → Bool) (ks : List ParameterKind) (es : Operands) → list_all P (listed es) ≡ true → list_all P (but_elements ks es) ≡ true
all_but P [] es h = h
all_but P (parameters.Value c ∷ ks) t.none h = h
all_but P (parameters.Reference c ∷ ks) t.none h = h
all_but P (parameters.Iterator c form ∷ ks) t.none h = h
all_but P (parameters.Container a.Whole form ∷ ks) t.none h = h
all_but P (parameters.Container a.Const form ∷ ks) t.none h = h
all_but P (parameters.Container a.Elements form ∷ ks) t.none h = h
all_but P (parameters.Container a.Elements form ∷ ks) (t.with e es) h = all_but P ks es (and_parts (P e) (list_all P (listed es)) h).1
all_but P (parameters.Value c ∷ ks) (t.with e es) h = one_more P ks e es h (all_but P ks es)
all_but P (parameters.Reference c ∷ ks) (t.with e es) h = one_more P ks e es h (all_but P ks es)
all_but P (parameters.Iterator c form ∷ ks) (t.with e es) h = one_more P ks e es h (all_but P ks es)
all_but P (parameters.Container a.Whole form ∷ ks) (t.with e es) h = one_more P ks e es h (all_but P ks es)
all_but P (parameters.Container a.Const form ∷ ks) (t.with e es) h = one_more P ks e es h (all_but P ks es)

swap_more : (fs : List Function) (ks : List ParameterKind) (e : t.Expr) (es : Operands) → may_all_swap fs (e ∷ listed es) ≡ true
    → (may_all_swap fs (listed es) ≡ true → may_all_swap fs (but_elements ks es) ≡ true) → may_all_swap fs (e ∷ but_elements ks es) ≡ true
swap_more fs ks e es h next =
    let parts = and_parts (list_all (may_swap fs e) (listed es)) (may_all_swap fs (listed es)) h in
    and_from (list_all (may_swap fs e) (but_elements ks es)) (may_all_swap fs (but_elements ks es)) (all_but (may_swap fs e) ks es parts.0)
    (next parts.1)

pub but_swap : (fs : List Function) (ks : List ParameterKind) (es : Operands) → may_all_swap fs (listed es) ≡ true
    → may_all_swap fs (but_elements ks es) ≡ true
but_swap fs [] es h = h
but_swap fs (parameters.Value c ∷ ks) t.none h = h
but_swap fs (parameters.Reference c ∷ ks) t.none h = h
but_swap fs (parameters.Iterator c form ∷ ks) t.none h = h
but_swap fs (parameters.Container a.Whole form ∷ ks) t.none h = h
but_swap fs (parameters.Container a.Const form ∷ ks) t.none h = h
but_swap fs (parameters.Container a.Elements form ∷ ks) t.none h = h
but_swap fs (parameters.Container a.Elements form ∷ ks) (t.with e es) h =
    but_swap fs ks es (and_parts (list_all (may_swap fs e) (listed es)) (may_all_swap fs (listed es)) h).1
but_swap fs (parameters.Value c ∷ ks) (t.with e es) h = swap_more fs ks e es h (but_swap fs ks es)
but_swap fs (parameters.Reference c ∷ ks) (t.with e es) h = swap_more fs ks e es h (but_swap fs ks es)
but_swap fs (parameters.Iterator c form ∷ ks) (t.with e es) h = swap_more fs ks e es h (but_swap fs ks es)
but_swap fs (parameters.Container a.Whole form ∷ ks) (t.with e es) h = swap_more fs ks e es h (but_swap fs ks es)
but_swap fs (parameters.Container a.Const form ∷ ks) (t.with e es) h = swap_more fs ks e es h (but_swap fs ks es)
