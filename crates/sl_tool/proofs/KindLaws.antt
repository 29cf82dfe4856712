-- Statements and their kinds.
use Rattle.std.proofs.Common.{◌≡◌, List, ◌∷◌, ◌++◌, length, refl, arith}
use Rattle.sl_base.specs.declared.mark.Mark.TheVariants.{RightBrace}
use Rattle.sl_base.specs.declared.word.Word.{Word}
use Rattle.sl_base.specs.declared.word.Word.TheVariants.{Name, Number, Mark}
use Rattle.sl_tool.specs.declared.reading.slots.Kind.{Kind}
use Rattle.sl_tool.specs.declared.reading.slots.Kind.TheVariants.{Vector, PushBack, Begin, Dereference}
use Rattle.sl_tool.specs.Subset.{Item, vector_item, push_back_item, begin_item, dereference_item, item_words, Scope, IsAllowed}
use Rattle.sl_tool.specs.Means.Reading.{BeginsWith}
use Rattle.sl_tool.specs.Means.Slots.{slots_of, BeginsKind, IsPossible}
use Rattle.sl_tool.proofs.FreshLaws.{fresh, some_name}
use Rattle.sl_tool.proofs.SlotLaws.{FitAll, HaveWords, fit_all_length}

abbrev pub kind_of : Item → Kind
kind_of (vector_item name) = Vector
kind_of (push_back_item vector number) = PushBack
kind_of (begin_item name vector) = Begin
kind_of (dereference_item name iterator) = Dereference

pub possible_of : (s : Scope) (i : Item) → IsAllowed s i → IsPossible s (kind_of i)
possible_of s (vector_item name) h = h.1
possible_of s (push_back_item vector number) h = (omega (arith, h.0.1), h.1)
possible_of s (begin_item name vector) h = (omega (arith, h.1.1), h.2)
possible_of s (dereference_item name iterator) h = (omega (arith, h.1.1), h.2)

-- the words of a statement that may stand here fit the slots of its kind
pub fits_kind : (s : Scope) (i : Item) (ws : List Word) → IsAllowed s i → FitAll s (slots_of (kind_of i)) (item_words i ++ ws)
fits_kind s (vector_item name) ws h = (refl, (refl, (refl, (refl, ((name, refl, h.0), (refl, tt))))))
fits_kind s (push_back_item vector number) ws h = ((vector, refl, h.0), (refl, (refl, (refl, ((number, refl), (refl, (refl, tt)))))))
fits_kind s (begin_item name vector) ws h = (refl, ((name, refl, h.0), (refl, ((vector, refl, h.1), (refl, (refl, (refl, (refl, (refl, tt)))))))))
fits_kind s (dereference_item name iterator) ws h = (refl, ((name, refl, h.0), (refl, (refl, ((iterator, refl, h.1), (refl, tt))))))

-- a statement that may stand here begins the words
abbrev pub BeginsItem : Scope → Kind → List Word → Type 0
BeginsItem s kind ws = (i : Item) × BeginsWith ws i × IsAllowed s i × (length (item_words i) ≡ length (slots_of kind))

vector_fits : (s : Scope) (ws : List Word) → IsPossible s Vector → FitAll s (slots_of Vector) ws → BeginsItem s Vector ws
vector_fits s (a ∷ b ∷ c ∷ d ∷ e ∷ f ∷ ws) possible (a_fits, (b_fits, (c_fits, (d_fits, ((name, is, new), (f_fits, rest)))))) =
    (vector_item name, cc, (new, possible), refl)
vector_fits s ws possible h = absurd (omega (arith, fit_all_length s (slots_of Vector) ws h))

push_back_fits : (s : Scope) (ws : List Word) → IsPossible s PushBack → FitAll s (slots_of PushBack) ws → BeginsItem s PushBack ws
push_back_fits s (a ∷ b ∷ c ∷ d ∷ e ∷ f ∷ g ∷ ws) possible
    ((vector, is, known), (b_fits, (c_fits, (d_fits, ((number, n_is), (f_fits, (g_fits, rest))))))) =
    (push_back_item vector number, cc, (known, possible.1), refl)
push_back_fits s ws possible h = absurd (omega (arith, fit_all_length s (slots_of PushBack) ws h))

begin_fits : (s : Scope) (ws : List Word) → IsPossible s Begin → FitAll s (slots_of Begin) ws → BeginsItem s Begin ws
begin_fits s (a ∷ b ∷ c ∷ d ∷ e ∷ f ∷ g ∷ h ∷ i ∷ ws) possible
    (a_fits, ((name, is, new), (c_fits, ((vector, v_is, known), (e_fits, (f_fits, (g_fits, (h_fits, (i_fits, rest))))))))) =
    (begin_item name vector, cc, (new, known, possible.1), refl)
begin_fits s ws possible h = absurd (omega (arith, fit_all_length s (slots_of Begin) ws h))

dereference_fits : (s : Scope) (ws : List Word) → IsPossible s Dereference → FitAll s (slots_of Dereference) ws → BeginsItem s Dereference ws
dereference_fits s (a ∷ b ∷ c ∷ d ∷ e ∷ f ∷ ws) possible (a_fits, ((name, is, new), (c_fits, (d_fits, ((iterator, i_is, known), (f_fits, rest)))))) =
    (dereference_item name iterator, cc, (new, known, possible.1), refl)
dereference_fits s ws possible h = absurd (omega (arith, fit_all_length s (slots_of Dereference) ws h))

-- words that fit all slots of a kind that is possible begin with a statement that may stand here
pub item_of_fit : (s : Scope) (kind : Kind) (ws : List Word) → IsPossible s kind → FitAll s (slots_of kind) ws → BeginsItem s kind ws
item_of_fit s Vector ws possible h = vector_fits s ws possible h
item_of_fit s PushBack ws possible h = push_back_fits s ws possible h
item_of_fit s Begin ws possible h = begin_fits s ws possible h
item_of_fit s Dereference ws possible h = dereference_fits s ws possible h

pub have_words : (s : Scope) (kind : Kind) → IsPossible s kind → HaveWords s (slots_of kind)
have_words s Vector h =
    let new = fresh s.names in
    ((_, refl), ((_, refl), ((_, refl), ((_, refl), ((Name new.0, (new.0, refl, new.1)), ((_, refl), tt))))))
have_words s PushBack h =
    let vector = some_name s.vectors h.0 in
    ((Name vector.0, (vector.0, refl, vector.1)), ((_, refl), ((_, refl), ((_, refl), ((Number 0, (0, refl)), ((_, refl), ((_, refl), tt)))))))
have_words s Begin h =
    let new = fresh s.names in
    let vector = some_name s.vectors h.0 in (
      (_, refl),
      (
        (Name new.0, (new.0, refl, new.1)),
        ((_, refl), ((Name vector.0, (vector.0, refl, vector.1)), ((_, refl), ((_, refl), ((_, refl), ((_, refl), ((_, refl), tt))))))),
      ),
    )
have_words s Dereference h =
    let new = fresh s.names in
    let iterator = some_name s.iterators h.0 in
    ((_, refl), ((Name new.0, (new.0, refl, new.1)), ((_, refl), ((_, refl), ((Name iterator.0, (iterator.0, refl, iterator.1)), ((_, refl), tt))))))

-- the first word of a statement tells its kind
pub first_word : (w : Word) (ws : List Word) (i : Item) → BeginsWith (w ∷ ws) i → BeginsKind (kind_of i) w
first_word w ws (vector_item name) h = cc
first_word w ws (push_back_item vector number) h = (vector, cc)
first_word w ws (begin_item name vector) h = cc
first_word w ws (dereference_item name iterator) h = cc

pub one_kind : (w : Word) (a b : Kind) → BeginsKind a w → BeginsKind b w → a ≡ b
one_kind w Vector Vector p q = refl
one_kind w Vector PushBack p q = let e = q.1 in absurd cc
one_kind w Vector Begin p q = absurd cc
one_kind w Vector Dereference p q = absurd cc
one_kind w PushBack Vector p q = let e = p.1 in absurd cc
one_kind w PushBack PushBack p q = refl
one_kind w PushBack Begin p q = let e = p.1 in absurd cc
one_kind w PushBack Dereference p q = let e = p.1 in absurd cc
one_kind w Begin Vector p q = absurd cc
one_kind w Begin PushBack p q = let e = q.1 in absurd cc
one_kind w Begin Begin p q = refl
one_kind w Begin Dereference p q = absurd cc
one_kind w Dereference Vector p q = absurd cc
one_kind w Dereference PushBack p q = let e = q.1 in absurd cc
one_kind w Dereference Begin p q = absurd cc
one_kind w Dereference Dereference p q = refl

pub not_brace : (w : Word) (kind : Kind) → BeginsKind kind w → w ≡ Mark RightBrace → ⊥
not_brace w Vector h e = absurd cc
not_brace w PushBack h e = let f = h.1 in absurd cc
not_brace w Begin h e = absurd cc
not_brace w Dereference h e = absurd cc
