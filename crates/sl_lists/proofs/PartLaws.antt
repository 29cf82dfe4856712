-- The parts between blanks, with one byte more at the end.
use Rattle.std.proofs.Common.{◌≡◌, ℕ, ◌+◌, ◌<◌, Bool, true, false, List, [], ◌∷◌, ◌++◌, length, cond, count_by, refl, ap, ◌∙◌, arith}
use Rattle.std.specs.List.{onto_first}
use Rattle.std.proofs.lemmas.List.Splits.{length-slice_split}
use Rattle.sl_base.specs.Bytes.{is_blank}
use Rattle.sl_model.proofs.ListParts.{parts_of}

-- a byte behind the last part
abbrev onto_last : ℕ → List (List ℕ) → List (List ℕ)
onto_last x [] = []
onto_last x (part ∷ []) = (part ++ x ∷ []) ∷ []
onto_last x (part ∷ next ∷ parts) = part ∷ onto_last x (next ∷ parts)

some_parts : (bytes : List ℕ) → 0 < length (parts_of bytes)
some_parts bytes = let r : length (parts_of bytes) ≡ count_by is_blank bytes + 1 = length-slice_split is_blank bytes in omega arith

-- the parts behind a first byte, by whether that is a blank
abbrev behind : Bool → ℕ → List (List ℕ) → List (List ℕ)
behind c y parts = cond c ([] ∷ parts) (onto_first y parts)

behind_blank : (c : Bool) (y : ℕ) (parts : List (List ℕ)) → 0 < length parts → behind c y (parts ++ [] ∷ []) ≡ behind c y parts ++ [] ∷ []
behind_blank true y parts some = refl
behind_blank false y [] some = absurd (omega (arith, some))
behind_blank false y (part ∷ parts) some = refl

behind_word : (c : Bool) (y x : ℕ) (parts : List (List ℕ)) → 0 < length parts → behind c y (onto_last x parts) ≡ onto_last x (behind c y parts)
behind_word c y x [] some = absurd (omega (arith, some))
behind_word true y x (part ∷ parts) some = refl
behind_word false y x (part ∷ []) some = refl
behind_word false y x (part ∷ next ∷ parts) some = refl

blank_by : (c : Bool) (x : ℕ) → c ≡ true → cond c ([] ∷ parts_of []) (onto_first x (parts_of [])) ≡ parts_of [] ++ [] ∷ []
blank_by true x e = refl
blank_by false x e = absurd (cc)

word_by : (c : Bool) (x : ℕ) → c ≡ false → cond c ([] ∷ parts_of []) (onto_first x (parts_of [])) ≡ onto_last x (parts_of [])
word_by true x e = absurd (cc)
word_by false x e = refl

split_blank : (bytes : List ℕ) (x : ℕ) → is_blank x ≡ true → parts_of (bytes ++ x ∷ []) ≡ parts_of bytes ++ [] ∷ []
split_blank [] x e = blank_by (is_blank x) x e
split_blank (y ∷ bytes) x e = ap (behind (is_blank y) y) (split_blank bytes x e) ∙ behind_blank (is_blank y) y (parts_of bytes) (some_parts bytes)

split_word : (bytes : List ℕ) (x : ℕ) → is_blank x ≡ false → parts_of (bytes ++ x ∷ []) ≡ onto_last x (parts_of bytes)
split_word [] x e = word_by (is_blank x) x e
split_word (y ∷ bytes) x e = ap (behind (is_blank y) y) (split_word bytes x e) ∙ behind_word (is_blank y) y x (parts_of bytes) (some_parts bytes)

last_is : (x : ℕ) (done : List (List ℕ)) (last : List ℕ) → onto_last x (done ++ last ∷ []) ≡ done ++ (last ++ x ∷ []) ∷ []
last_is x [] last = refl
last_is x (part ∷ []) last = refl
last_is x (part ∷ next ∷ done) last = ap (λ parts. part ∷ parts) (last_is x (next ∷ done) last)

-- a blank ends the last part
pub parts_blank : (bytes : List ℕ) (x : ℕ) (done : List (List ℕ)) (last : List ℕ) → is_blank x ≡ true → parts_of bytes ≡ done ++ last ∷ []
    → parts_of (bytes ++ x ∷ []) ≡ (done ++ last ∷ []) ++ [] ∷ []
parts_blank bytes x done last e h = split_blank bytes x e ∙ ap (λ parts. parts ++ [] ∷ []) h

-- any other byte goes on with it
pub parts_word : (bytes : List ℕ) (x : ℕ) (done : List (List ℕ)) (last : List ℕ) → is_blank x ≡ false → parts_of bytes ≡ done ++ last ∷ []
    → parts_of (bytes ++ x ∷ []) ≡ done ++ (last ++ x ∷ []) ∷ []
parts_word bytes x done last e h = split_word bytes x e ∙ ap (onto_last x) h ∙ last_is x done last
