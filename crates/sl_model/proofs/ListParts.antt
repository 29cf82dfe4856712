-- The parts between blanks: those of bytes that some more make numbers are numbers, or a 0 makes them so.
use Rattle.std.proofs.Common.{◌≡◌, ℕ, ◌+◌, ◌≤◌, ◌<◌, Bool, true, false, List, [], ◌∷◌, ◌++◌, length, filter, Option, count_by, cond, is_some}
use Rattle.std.proofs.Common.{refl, ap, ◌∙◌, subst, arith, ◌⊎◌, inl, inr, ⊎_elim, append-nil, append_assoc}
use Rattle.std.specs.List.{list_all, slice_split, onto_first}
use Rattle.std.proofs.lemmas.List.Splits.{length-slice_split}
use Rattle.std.proofs.lemmas.Bool.{and_from}
use Rattle.sl_base.specs.Bytes.{is_blank}
use Rattle.sl_model.specs.Reports.Lists.{is_filled}
use Rattle.sl_model.proofs.ListWords.{Completes}
use Rattle.sl_model.proofs.Passing.{first_of_both, second_of_both}

-- the parts between blanks
abbrev pub parts_of : List ℕ → List (List ℕ)
parts_of bytes = slice_split is_blank bytes

-- how many words are among parts
abbrev pub counted : List (List ℕ) → ℕ
counted parts = length (filter is_filled parts)

-- each word among them is a number
abbrev pub told : {A : Type 0} → (List ℕ → Option A) → List (List ℕ) → Bool
told number parts = list_all (λ w. is_some (number w)) (filter is_filled parts)

-- the words among these parts are numbers, and no more than those among others
abbrev pub Within : {A : Type 0} → (List ℕ → Option A) → List (List ℕ) → List (List ℕ) → Type 0
Within number parts others = (told number parts ≡ true) × (counted parts ≤ counted others)

-- of parts, or of those with a 0, that is so
abbrev pub Completed : {A : Type 0} → (List ℕ → Option A) → (parts longer whole : List (List ℕ)) → Type 0
Completed number parts longer whole = Within number parts whole ⊎ Within number longer whole

-- bytes before the first part
abbrev pub glue : List ℕ → List (List ℕ) → List (List ℕ)
glue w [] = []
glue w (part ∷ parts) = (w ++ part) ∷ parts

pub glue_none : (parts : List (List ℕ)) → glue [] parts ≡ parts
glue_none [] = refl
glue_none (part ∷ parts) = refl

parts_filled : (bytes : List ℕ) → 0 < length (parts_of bytes)
parts_filled bytes = let r : length (parts_of bytes) ≡ count_by is_blank bytes + 1 = length-slice_split is_blank bytes in omega arith

glue_first : (w : List ℕ) (b : ℕ) (parts : List (List ℕ)) → 0 < length parts → glue (w ++ b ∷ []) parts ≡ glue w (onto_first b parts)
glue_first w b [] h = absurd (omega (arith, h))
glue_first w b (part ∷ parts) h = ap (λ (x : List ℕ). x ∷ parts) (append_assoc w (b ∷ []) part)

told_rest : {A : Type 0} (number : List ℕ → Option A) (w : List ℕ) (parts : List (List ℕ)) → told number (w ∷ parts) ≡ true → told number parts ≡ true
told_rest number [] parts h = h
told_rest number (b ∷ w) parts h = second_of_both (is_some (number (b ∷ w))) (told number parts) h

-- one part more on both sides
within_more : {A : Type 0} (number : List ℕ → Option A) (w : List ℕ) (parts others : List (List ℕ)) → told number (w ∷ others) ≡ true
    → Within number parts others → Within number (w ∷ parts) (w ∷ others)
within_more number [] parts others h r = r
within_more number (b ∷ w) parts others h r = (
  and_from (is_some (number (b ∷ w))) (told number parts) (first_of_both (is_some (number (b ∷ w))) (told number others) h) r.0,
  omega (arith, r.1),
)

completed_more : {A : Type 0} (number : List ℕ → Option A) (w : List ℕ) (parts longer whole : List (List ℕ)) → told number (w ∷ whole) ≡ true
    → Completed number parts longer whole → Completed number (w ∷ parts) (w ∷ longer) (w ∷ whole)
completed_more number w parts longer whole h r =
    ⊎_elim (λ (a : Within number parts whole). inl (within_more number w parts whole h a))
    (λ (a : Within number longer whole). inr (within_more number w longer whole h a)) r

-- the same of equal parts
pub carried : {A : Type 0} (number : List ℕ → Option A) {parts longer whole parts' longer' whole' : List (List ℕ)} → parts ≡ parts' → longer ≡ longer'
    → whole ≡ whole' → Completed number parts longer whole → Completed number parts' longer' whole'
carried number {parts = parts} {longer = longer} {longer' = longer'} {whole' = whole'} e f g r =
    subst (λ (x : List (List ℕ)). Completed number x longer' whole') e (subst (λ (x : List (List ℕ)). Completed number parts x whole') f
    (subst (λ (x : List (List ℕ)). Completed number parts longer x) g r))

one_word : {A : Type 0} (number : List ℕ → Option A) (b : ℕ) (w : List ℕ) (whole : List (List ℕ)) → is_some (number (b ∷ w)) ≡ true
    → 0 < counted whole → Within number ((b ∷ w) ∷ []) whole
one_word number b w whole h few = (and_from (is_some (number (b ∷ w))) true h refl, omega (arith, few))

-- at the end of the bytes
at_their_end : {A : Type 0} (number : List ℕ → Option A) → Completes number → (w : List ℕ) (whole : List (List ℕ)) → 0 < length whole
    → told number (glue w whole) ≡ true → Completed number (glue w ([] ∷ [])) (glue w ((48 ∷ []) ∷ [])) (glue w whole)
at_their_end number completes w [] some h = absurd (omega (arith, some))
at_their_end number completes [] (part ∷ parts) some h = inl (refl, omega arith)
at_their_end number completes (b ∷ w) (part ∷ parts) some h =
    ⊎_elim
    (λ (a : is_some (number (b ∷ w)) ≡ true). inl (one_word number b (w ++ []) ((b ∷ (w ++ part)) ∷ parts)
    (ap (λ (x : List ℕ). is_some (number (b ∷ x))) (append-nil w) ∙ a) (omega arith)))
    (λ (a : is_some (number (b ∷ (w ++ 48 ∷ []))) ≡ true). inr (one_word number b (w ++ 48 ∷ []) ((b ∷ (w ++ part)) ∷ parts) a (omega arith)))
    (completes b w part (first_of_both (is_some (number (b ∷ (w ++ part)))) (told number parts) h))

-- the parts of bytes behind a first one, by whether that is a blank
abbrev behind : Bool → ℕ → List ℕ → List (List ℕ)
behind c b bytes = cond c ([] ∷ parts_of bytes) (onto_first b (parts_of bytes))

-- what is due of bytes with some more
abbrev Completes-at : {A : Type 0} → (List ℕ → Option A) → (bytes more w : List ℕ) → Type 0
Completes-at number bytes more w = told number (glue w (parts_of (bytes ++ more))) ≡ true
    → Completed number (glue w (parts_of bytes)) (glue w (parts_of (bytes ++ 48 ∷ []))) (glue w (parts_of (bytes ++ more)))

by_blank : {A : Type 0} (number : List ℕ → Option A) (c : Bool) (b : ℕ) (bytes more w : List ℕ) → ((w : List ℕ) → Completes-at number bytes more w)
    → told number (glue w (behind c b (bytes ++ more))) ≡ true
    → Completed number (glue w (behind c b bytes)) (glue w (behind c b (bytes ++ 48 ∷ []))) (glue w (behind c b (bytes ++ more)))
by_blank number true b bytes more w again h =
    completed_more number (w ++ []) (parts_of bytes) (parts_of (bytes ++ 48 ∷ [])) (parts_of (bytes ++ more)) h
    (carried number (glue_none (parts_of bytes)) (glue_none (parts_of (bytes ++ 48 ∷ []))) (glue_none (parts_of (bytes ++ more)))
    (again [] (ap (told number) (glue_none (parts_of (bytes ++ more))) ∙ told_rest number (w ++ []) (parts_of (bytes ++ more)) h)))
by_blank number false b bytes more w again h =
    carried number (glue_first w b (parts_of bytes) (parts_filled bytes))
    (glue_first w b (parts_of (bytes ++ 48 ∷ [])) (parts_filled (bytes ++ 48 ∷ [])))
    (glue_first w b (parts_of (bytes ++ more)) (parts_filled (bytes ++ more)))
    (again (w ++ b ∷ []) (ap (told number) (glue_first w b (parts_of (bytes ++ more)) (parts_filled (bytes ++ more))) ∙ h))

-- parts that bytes more make numbers are numbers, or become so by a 0
pub completed_parts : {A : Type 0} (number : List ℕ → Option A) → Completes number → (bytes more w : List ℕ) → Completes-at number bytes more w
completed_parts number completes [] more w h = at_their_end number completes w (parts_of more) (parts_filled more) h
completed_parts number completes (b ∷ bytes) more w h =
    by_blank number (is_blank b) b bytes more w (λ w. completed_parts number completes bytes more w) h
