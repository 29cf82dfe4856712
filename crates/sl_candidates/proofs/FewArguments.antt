-- No row takes more than eight arguments.
use Rattle.std.proofs.Common.{◌≡◌, ◌+◌, ◌<◌, ◌≤◌, ℕ, List, [], ◌∷◌, length, map, Some, None, refl, ap, ◌∙◌, cond, arith}
use Rattle.std.proofs.lemmas.Bool.{leb-true, false_from_ne_true}
use Rattle.std.specs.Prelude.{Bool, true, false, not, ◌&&◌, nat_le}
use Rattle.std.specs.List.{list_all, sum}
use Rattle.sl_base.specs.declared.form.Form.{Form}
use Rattle.sl_base.specs.declared.form.Form.TheVariants as f
use Rattle.sl_specs.specs.declared.call.Call.TheVariants as c
use Rattle.sl_specs.specs.Rows.{Row}
use Rattle.sl_specs.specs.Table.{table}
use Rattle.sl_typing.specs.declared.expr_type.ExprType.{ExprType}
use Rattle.sl_typing.specs.Arguments.{fewest, most, takes_list, takes_count, letters_take, letters_seen}
use Rattle.sl_typing.specs.Candidates.{first_from, first_row, is_called, is_row_of, member_row, algorithm_row, constructor_row}
use Rattle.sl_candidates.specs.Means.Places.{is_meant_member, is_meant_algorithm, is_meant_constructor}

-- a row takes at most eight
is_short : Row → Bool
is_short r = nat_le (sum (map most r.letters)) 8

-- each row does
table_is_short : list_all is_short table ≡ true
unfolding is_short table
table_is_short = refl

and_left : (a b : Bool) → (a && b) ≡ true → a ≡ true
and_left true b e = refl
and_left false b e = absurd cc

and_right : (a b : Bool) → (a && b) ≡ true → b ≡ true
and_right true b e = e
and_right false b e = absurd cc

and_false : (a b : Bool) → b ≡ false → (a && b) ≡ false
and_false true b e = e
and_false false b e = refl

false_and : (a b : Bool) → a ≡ false → (a && b) ≡ false
false_and true b e = absurd cc
false_and false b e = refl

-- more arguments than some number, which is at most eight
past : (most n : ℕ) → nat_le most 8 ≡ true → 8 < n → nat_le n most ≡ false
past most n short long = let low : most ≤ 8 = leb-true most 8 short in false_from_ne_true (nat_le n most) (λ e. omega (arith, leb-true n most e))

-- a row that takes at most eight doesn't take more
not_taken : (r : Row) (n : ℕ) → is_short r ≡ true → 8 < n → takes_count r.letters n ≡ false
unfolding is_short
not_taken r n short long = and_false (not (takes_list r.letters) && nat_le (sum (map fewest r.letters)) n) (nat_le n (sum (map most r.letters)))
    (past (sum (map most r.letters)) n short long)

-- what no row passes has no first row
no_first : (rows : List Row) (n : ℕ) (test : Row → Bool) → list_all is_short rows ≡ true → ((r : Row) → is_short r ≡ true → test r ≡ false)
    → first_from n test rows ≡ None
no_first [] n test short none = refl
no_first (r ∷ rows) n test short none =
    let here = none r (and_left (is_short r) (list_all is_short rows) short) in
    let later = no_first rows (n + 1) test (and_right (is_short r) (list_all is_short rows) short) none in
    ap (λ b. cond b (Some (record { number = n; row = r })) (first_from (n + 1) test rows)) here ∙ later

no_row : (test : Row → Bool) → ((r : Row) → is_short r ≡ true → test r ≡ false) → first_row test ≡ None
unfolding first_row
no_row test none = no_first table 0 test table_is_short none

-- a member call with more than eight arguments
pub no_member_row : (form : Form) (name : List ℕ) (us : List ExprType) → 8 < length us → member_row form name us ≡ None
no_member_row form name us long =
    no_row (is_meant_member form name us)
    (λ r short. false_and (is_called (Some form) name r && takes_count r.letters (length us)) (letters_take form r.letters us)
    (and_false (is_called (Some form) name r) (takes_count r.letters (length us)) (not_taken r (length us) short long)))

-- a call of an algorithm with more than eight arguments
pub no_algorithm_row : (appends : Bool) (name : List ℕ) (us : List ExprType) → 8 < length us → algorithm_row appends name us ≡ None
no_algorithm_row appends name us long =
    no_row (is_meant_algorithm appends name us)
    (λ r short. false_and (is_called None name r && takes_count r.letters (length us)) (letters_take f.Vector (letters_seen appends r.letters) us)
    (and_false (is_called None name r) (takes_count r.letters (length us)) (not_taken r (length us) short long)))

-- a container that is made from more than eight arguments in parentheses
pub no_constructor_row : (form : Form) (us : List ExprType) → 8 < length us → constructor_row form us ≡ None
no_constructor_row form us long =
    no_row (is_meant_constructor form us)
    (λ r short. false_and (is_row_of form c.Constructor r && takes_count r.letters (length us)) (letters_take form r.letters us)
    (and_false (is_row_of form c.Constructor r) (takes_count r.letters (length us)) (not_taken r (length us) short long)))
