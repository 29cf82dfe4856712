-- What a call means, from the types that are kept of its arguments.
use Rattle.std.proofs.Common.{◌≡◌, refl, ℕ, ◌<◌, Bool, false, ◌&&◌, ◌||◌, List, length, Option, Some, None, ap, sym, ◌∙◌, inl, inr}
use Rattle.std.proofs.lemmas.Bool.{cases_lt}
use Rattle.sl_base.specs.declared.form.Form.{Form}
use Rattle.sl_expr_types.specs.Few.{few, listed}
use Rattle.sl_expr_types.proofs.FewLaws.{listed-few, listed-many}
use Rattle.sl_candidates.proofs.FewArguments.{no_member_row, no_algorithm_row}
use Rattle.sl_typing.specs.declared.expr_type.ExprType.{ExprType}
use Rattle.sl_typing.specs.declared.expr_type.ExprType.TheVariants as types
use Rattle.sl_typing.specs.Arguments.{letters_seen, letters_write_const, letters_are_weak}
use Rattle.sl_typing.specs.Candidates.{Found, member_row, algorithm_row}
use Rattle.sl_typing.specs.Rules.{member_writes_const, algorithm_writes_const, algorithm_is_weak}
use Rattle.sl_typing.specs.Types.{is_const}

-- what is the same for all types that are more than a call has is the same from the types that are kept
by_few : {A : Type 0} (f : List ExprType → A) (many : A) (us : List ExprType) → ((vs : List ExprType) → 8 < length vs → f vs ≡ many)
    → f (listed (few us)) ≡ f us
by_few f many us long = elim (cases_lt 8 (length us)) as (λ _. f (listed (few us)) ≡ f us) [
  | inl h ↦ long (listed (few us)) (listed-many us h) ∙ sym (long us h)
  | inr h ↦ ap f (listed-few us h)
]

-- the same, where the types that are kept have a name
from_few : {A : Type 0} (f : List ExprType → A) (many : A) (us : List ExprType) (kept : Option (List ExprType)) → kept ≡ few us
    → ((vs : List ExprType) → 8 < length vs → f vs ≡ many)
    → f (listed kept) ≡ f us
from_few f many us kept e long = ap (λ o. f (listed o)) e ∙ by_few f many us long

pub member_row-few : (form : Form) (name : List ℕ) (us : List ExprType) (kept : Option (List ExprType)) → kept ≡ few us
    → member_row form name (listed kept) ≡ member_row form name us
member_row-few form name us kept e = from_few (member_row form name) None us kept e (no_member_row form name)

pub algorithm_row-few : (appends : Bool) (name : List ℕ) (us : List ExprType) (kept : Option (List ExprType)) → kept ≡ few us
    → algorithm_row appends name (listed kept) ≡ algorithm_row appends name us
algorithm_row-few appends name us kept e = from_few (algorithm_row appends name) None us kept e (no_algorithm_row appends name)

pub member_writes-few : (u : ExprType) (name : List ℕ) (us : List ExprType) (kept : Option (List ExprType)) → kept ≡ few us
    → member_writes_const u name (listed kept) ≡ member_writes_const u name us
member_writes-few (types.Container access form) name us kept e =
    from_few (member_writes_const (types.Container access form) name) false us kept e
    (λ vs h. ap (λ (o : Option Found). elim o as (λ _. Bool) [
      | None ↦ false
      | Some x ↦ (is_const access && x.row.changes) || letters_write_const x.row.letters vs
    ]) (no_member_row form name vs h))
member_writes-few u name us kept e = refl

pub algorithm_writes-few : (appends : Bool) (name : List ℕ) (us : List ExprType) (kept : Option (List ExprType)) → kept ≡ few us
    → algorithm_writes_const appends name (listed kept) ≡ algorithm_writes_const appends name us
algorithm_writes-few appends name us kept e =
    from_few (algorithm_writes_const appends name) false us kept e
    (λ vs h. ap (λ (o : Option Found). elim o as (λ _. Bool) [
      | None ↦ false
      | Some x ↦ letters_write_const (letters_seen appends x.row.letters) vs
    ]) (no_algorithm_row appends name vs h))

pub algorithm_weak-few : (appends : Bool) (name : List ℕ) (us : List ExprType) (kept : Option (List ExprType)) → kept ≡ few us
    → algorithm_is_weak appends name (listed kept) ≡ algorithm_is_weak appends name us
algorithm_weak-few appends name us kept e =
    from_few (algorithm_is_weak appends name) false us kept e
    (λ vs h. ap (λ (o : Option Found). elim o as (λ _. Bool) [
      | None ↦ false
      | Some x ↦ letters_are_weak (letters_seen appends x.row.letters) vs
    ]) (no_algorithm_row appends name vs h))
