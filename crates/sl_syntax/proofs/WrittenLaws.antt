-- Laws of the words of a tree.
use Rattle.std.proofs.Common.{◌≡◌, ℕ, ◌≤◌, zero, suc, map, List, [], ◌∷◌, ◌++◌, length, drop, flat_map, refl, sym, ap, ◌∙◌}
use Rattle.std.proofs.Math.Seq.{drop-length}
use Rattle.std.proofs.lemmas.List.{map-append, append-nil, drop_all}
use Rattle.sl_base.specs.declared.mark.Mark.TheVariants as m
use Rattle.sl_base.specs.declared.word.Word.TheVariants as w
use Rattle.sl_base.specs.declared.place.Place.{Place}
use Rattle.sl_base.specs.declared.word.Word.{Word}
use Rattle.sl_syntax.specs.Written.{Written, words_of, from_place}

pub words_of-append : (a b : List Written) → words_of (a ++ b) ≡ words_of a ++ words_of b
words_of-append a b = map-append (λ (x : Written). x.word) a b

pub ruleset appends = (words_of-append)

-- a further place changes no word
pub words_of-from_place : (p : Place) (xs : List Written) → words_of (from_place p xs) ≡ words_of xs
words_of-from_place p [] = refl
words_of-from_place p (x ∷ xs) = refl

-- the words of the parts of a list, with a comma between two
abbrev pub separated : {X : Type 0} → (X → List Word) → List X → List Word
separated f [] = []
separated f (x ∷ xs) = f x ++ flat_map (λ y. w.Mark m.Comma ∷ f y) xs

-- those from a position on, with the comma before it
abbrev pub separated_from : {X : Type 0} → (X → List Word) → ℕ → List X → List Word
separated_from f zero xs = separated f xs
separated_from f (suc k) xs = flat_map (λ y. w.Mark m.Comma ∷ f y) (drop (suc k) xs)

all_written : {X : Type 0} (f : X → List Word) (xs : List X) → separated_from f (length xs) xs ≡ []
all_written f [] = refl
all_written f (x ∷ xs) = ap (flat_map (λ y. w.Mark m.Comma ∷ f y)) (drop-length xs)

-- nothing is left to write
pub none_left_separated : {X : Type 0} (f : X → List Word) (xs : List X) (k : ℕ) (out whole : List Word) → k ≡ length xs
    → out ++ separated_from f k xs ≡ whole
    → out ≡ whole
none_left_separated f xs k out whole e h =
    let rest : separated_from f k xs ≡ [] = rw e (all_written f xs) in
    sym (append-nil out) ∙ ap (λ (l : List Word). out ++ l) (sym rest) ∙ h

pub words_of-flat_map : {X : Type 0} (f : X → List Written) (xs : List X) → words_of (flat_map f xs) ≡ flat_map (λ x. words_of (f x)) xs
words_of-flat_map f [] = refl
words_of-flat_map f (x ∷ xs) = words_of-append (f x) (flat_map f xs) ∙ ap (λ (l : List Word). words_of (f x) ++ l) (words_of-flat_map f xs)

pub words_of-flat_map-map : {X Y : Type 0} (f : Y → List Written) (g : X → Y) (xs : List X)
    → words_of (flat_map f (map g xs)) ≡ flat_map (λ x. words_of (f (g x))) xs
words_of-flat_map-map f g [] = refl
words_of-flat_map-map f g (x ∷ xs) =
    words_of-append (f (g x)) (flat_map f (map g xs)) ∙ ap (λ (l : List Word). words_of (f (g x)) ++ l) (words_of-flat_map-map f g xs)

-- nothing is left to write
pub none_left : {X : Type 0} (f : X → List Word) (xs : List X) (k : ℕ) (out whole : List Word) → length xs ≤ k → out ++ flat_map f (drop k xs) ≡ whole
    → out ≡ whole
none_left f xs k out whole le h = sym (append-nil out) ∙ ap (λ l. out ++ flat_map f l) (sym (drop_all k xs le)) ∙ h
