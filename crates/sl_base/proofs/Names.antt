-- The first file of a name.
use Rattle.std.proofs.Common.{◌++◌, Vec, ◌≡◌, ◌≢◌, ℕ, zero, suc, ◌<◌, Bool, true, false, cond, List, [], ◌∷◌, length, get_or, set, Option, Some, None}
use Rattle.std.proofs.Common.{string_bytes, arith, refl, sym, ap, ◌∙◌}
use Rattle.std.proofs.Math.ListN.{length-set}
use Rattle.std.specs.Str.{bytes_eq}
use Rattle.std.proofs.lemmas.Slice.Eq.{bytes_eq-Decides}
use Rattle.std.specs.Prelude.{Contains, ◌==◌, ◌↔◌}
use Rattle.std.specs.List.{IsAnyAnswer}
use Rattle.std.proofs.lemmas.List.Elements.{contains_decides, Decides-contains}
use Rattle.std.specs.Bool.{Decides}
use Rattle.std.proofs.lemmas.Bool.Decides.{Decides-eqb}
use Rattle.std.proofs.Math.Seq.{map-set_same}
use Rattle.sl_base.specs.Memory.{MemFile, names_of, left_in, HasNameAt, IsPlace, IsBlamed, BlamesAlone}
use Rattle.sl_base.specs.declared.outside.blame.Blame.{Blame}
use Rattle.sl_base.specs.declared.outside.blame.Blame.TheVariants.{Nothing, Known, Unknown}
use Rattle.sl_base.specs.Outside.{NoFault, OthersKept}
use Rattle.std.specs.Io.KnownBytes.{Consumes, IsAtEnd}
use Rattle.std.proofs.KnownBytes.{Keeps-refl}
use Rattle.std.specs.declared.alloc.Global.{Global}

-- `bytes_eq` is false at two lists that aren't equal
differ : (xs ys : List ℕ) → (xs ≡ ys → ⊥) → bytes_eq xs ys ≡ false
differ xs ys h = elim (bytes_eq xs ys) as (λ b. bytes_eq xs ys ≡ b → b ≡ false)
    [ true ↦ λ e. absurd (h ((bytes_eq-Decides xs ys).0 e)) | false ↦ λ _. refl ] refl

pub left_in-none : (fs : List MemFile) (name : List ℕ) → ((k : ℕ) (d : MemFile) → k < length fs → string_bytes (get_or fs k d).0 ≡ name → ⊥)
    → left_in fs name ≡ None
left_in-none [] name h = refl
left_in-none (f ∷ fs) name h =
    rw (differ (string_bytes f.0) name (h 0 f (omega arith))) (left_in-none fs name (λ k d lt. h (suc k) d (omega arith)))

pub left_in-at : (fs : List MemFile) (name : List ℕ) (i : ℕ) (d : MemFile) → IsPlace fs name i → left_in fs name ≡ Some (get_or fs i d).1.items
left_in-at [] name i d p = absurd (omega (arith, p.within))
left_in-at (f ∷ fs) name zero d p = rw ((bytes_eq-Decides (string_bytes f.0) name).1 (p.named d)) refl
left_in-at (f ∷ fs) name (suc i) d p =
    rw (differ (string_bytes f.0) name (p.first 0 d (omega arith)))
    (left_in-at fs name i d (record { within = omega (arith, p.within); named = p.named; first = λ k e lt. p.first (suc k) e (omega arith) }))

-- after a write to the file at i, which keeps its name, that name has what was written
pub left_in-set : (fs : List MemFile) (name : List ℕ) (i : ℕ) (g : MemFile) → IsPlace fs name i → string_bytes g.0 ≡ name
    → left_in (set fs i g) name ≡ Some g.1.items
left_in-set [] name i g p e = absurd (omega (arith, p.within))
left_in-set (f ∷ fs) name zero g p e = rw ((bytes_eq-Decides (string_bytes g.0) name).1 e) refl
left_in-set (f ∷ fs) name (suc i) g p e =
    rw (differ (string_bytes f.0) name (p.first 0 g (omega arith)))
    (left_in-set fs name i g (record { within = omega (arith, p.within); named = p.named; first = λ k d lt. p.first (suc k) d (omega arith) }) e)

-- and every other name has what it had
pub left_in-set_other : (fs : List MemFile) (name other : List ℕ) (i : ℕ) (g : MemFile) → IsPlace fs name i → string_bytes g.0 ≡ name → other ≢ name
    → left_in (set fs i g) other ≡ left_in fs other
left_in-set_other [] name other i g p e ne = absurd (omega (arith, p.within))
left_in-set_other (f ∷ fs) name other zero g p e ne =
    rw (differ (string_bytes g.0) other (λ q. ne (sym q ∙ e)), differ (string_bytes f.0) other (λ q. ne (sym q ∙ p.named f))) refl
left_in-set_other (f ∷ fs) name other (suc i) g p e ne =
    ap (λ (rest : Option (List ℕ)). cond (bytes_eq (string_bytes f.0) other) (Some f.1.items) rest)
    (left_in-set_other fs name other i g
    (record { within = omega (arith, p.within); named = p.named; first = λ k d lt. p.first (suc k) d (omega arith) }) e ne)

-- the name of what was read at the place
named_there : (fs : List MemFile) (name : List ℕ) (i : ℕ) (f : MemFile) → IsPlace fs name i → f ≡ get_or fs i f → string_bytes f.0 ≡ name
named_there fs name i f p e = ap (λ (x : MemFile). string_bytes x.0) e ∙ p.named f

-- a read at the place of a name takes the front of that name's bytes
pub Consumes-there : (fs : List MemFile) (name : List ℕ) (i : ℕ) (f : MemFile) (bytes : Vec ℕ Global) (front : List ℕ) → IsPlace fs name i
    → f ≡ get_or fs i f → f.1.items ≡ front ++ bytes.items → Consumes (left_in fs name) (left_in (set fs i (f.0, bytes)) name) front
Consumes-there fs name i f bytes front p e q =
    rw (left_in-at fs name i f p, left_in-set fs name i (f.0, bytes) p (named_there fs name i f p e)) (ap (λ (x : MemFile). x.1.items) (sym e) ∙ q)

pub IsAtEnd-there : (fs : List MemFile) (name : List ℕ) (i : ℕ) (f : MemFile) (bytes : Vec ℕ Global) → IsPlace fs name i → f ≡ get_or fs i f
    → bytes.items ≡ [] → IsAtEnd (left_in (set fs i (f.0, bytes)) name)
IsAtEnd-there fs name i f bytes p e q = rw (left_in-set fs name i (f.0, bytes) p (named_there fs name i f p e)) q

pub OthersKept-there : (fs : List MemFile) (name : List ℕ) (i : ℕ) (f : MemFile) (bytes : Vec ℕ Global) → IsPlace fs name i → f ≡ get_or fs i f
    → OthersKept (left_in fs) (left_in (set fs i (f.0, bytes))) name
OthersKept-there fs name i f bytes p e other ne =
    rw (left_in-set_other fs name other i (f.0, bytes) p (named_there fs name i f p e) ne) (Keeps-refl (left_in fs other))

-- two names of one file are the same
same_name : (fs : List MemFile) (i : ℕ) (a b : List ℕ) → i < length fs → HasNameAt fs i a → HasNameAt fs i b → a ≡ b
same_name [] i a b lt h k = absurd (omega arith)
same_name (f ∷ fs) i a b lt h k = sym (h f) ∙ k f

-- a file that is there is told
pub left_in-there : (fs : List MemFile) (name : List ℕ) (i : ℕ) → IsPlace fs name i → left_in fs name ≡ None → ⊥
left_in-there [] name i p e = omega (arith, p.within)
left_in-there (f ∷ fs) name i p e = let q = left_in-at (f ∷ fs) name i f p in absurd cc

-- the blame on the file at the place of a name is on that name alone
pub blames_file : (fs gs : List MemFile) (blame : Blame) (name : List ℕ) (i : ℕ) → gs ≡ fs → blame ≡ Known i → IsPlace fs name i
    → BlamesAlone (left_in gs) (IsBlamed gs blame) name
blames_file fs gs blame name i e b p = rw (e, b) (λ other h.
    let same : other ≡ name = same_name fs i other name h.0 h.1 p.named in
    (λ none. ap (left_in fs) same ∙ none, λ _. same))

-- the test of a list of call numbers
pub listed : (fails : List ℕ) (call : ℕ) (r : Bool) → IsAnyAnswer (λ y t. (y == call) ≡ t) fails r → Decides r (Contains fails call)
listed fails call r h = Decides-contains fails call r (contains_decides (λ a b. a == b) Decides-eqb fails call r h)

-- a read keeps the names
pub names_of-there : (fs : List MemFile) (i : ℕ) (f : MemFile) (bytes : Vec ℕ Global) → f ≡ get_or fs i f
    → names_of (set fs i (f.0, bytes)) ≡ names_of fs
names_of-there fs i f bytes e = map-set_same (λ (x : MemFile). string_bytes x.0) fs i (f.0, bytes) f (ap (λ (x : MemFile). string_bytes x.0) e)

-- ## A read changes no blame

-- what a file is written over with has the name that was there
abbrev KeepsName : List MemFile → ℕ → MemFile → Type 0
KeepsName fs i g = string_bytes g.0 ≡ string_bytes (get_or fs i g).0

-- each file keeps its name
same_names : (fs : List MemFile) (i k : ℕ) (g d : MemFile) → KeepsName fs i g → string_bytes (get_or (set fs i g) k d).0 ≡ string_bytes
    (get_or fs k d).0
same_names [] i k g d e = refl
same_names (f ∷ fs) zero zero g d e = e
same_names (f ∷ fs) zero (suc k) g d e = refl
same_names (f ∷ fs) (suc i) zero g d e = refl
same_names (f ∷ fs) (suc i) (suc k) g d e = same_names fs i k g d e

-- a name is there, or it isn't, whatever was left of it
same_absent : (b : Bool) (x y : List ℕ) (p q : Option (List ℕ)) → (p ≡ None) ↔ (q ≡ None) → (cond b (Some x) p ≡ None) ↔ (cond b (Some y) q ≡ None)
same_absent true x y p q h = (λ e. absurd cc, λ e. absurd cc)
same_absent false x y p q h = h

absent-there : (fs : List MemFile) (i : ℕ) (g : MemFile) (name : List ℕ) → KeepsName fs i g → (left_in (set fs i g) name ≡ None) ↔
    (left_in fs name ≡ None)
absent-there [] i g name e = (λ h. h, λ h. h)
absent-there (f ∷ fs) zero g name e =
    rw e (same_absent (bytes_eq (string_bytes f.0) name) g.1.items f.1.items (left_in fs name) (left_in fs name) (λ h. h, λ h. h))
absent-there (f ∷ fs) (suc i) g name e =
    same_absent (bytes_eq (string_bytes f.0) name) f.1.items f.1.items (left_in (set fs i g) name) (left_in fs name) (absent-there fs i g name e)

blame-there : (fs : List MemFile) (i : ℕ) (g : MemFile) (blame : Blame) (name : List ℕ) → KeepsName fs i g → IsBlamed (set fs i g) blame name ↔
    IsBlamed fs blame name
blame-there fs i g Nothing name e = (λ h. h, λ h. h)
blame-there fs i g (Known k) name e = (
  λ h. ((let lt = h.0 in omega (arith, length-set {A = MemFile})), λ d. sym (same_names fs i k g d e) ∙ h.1 d),
  λ h. ((let lt = h.0 in omega (arith, length-set {A = MemFile})), λ d. same_names fs i k g d e ∙ h.1 d),
)
blame-there fs i g Unknown name e = absent-there fs i g name e

-- a read at a place tells no fault
pub NoFault-there : (n : ℕ) (fs : List MemFile) (i : ℕ) (f : MemFile) (bytes : Vec ℕ Global) (blame : Blame) → f ≡ get_or fs i f
    → NoFault n n (IsBlamed fs blame) (IsBlamed (set fs i (f.0, bytes)) blame)
NoFault-there n fs i f bytes blame e = record {
  count = refl;
  blame = λ name. blame-there fs i (f.0, bytes) blame name (kept fs i f (f.0, bytes) e refl);
}
  where
    kept : (fs : List MemFile) (i : ℕ) (f g : MemFile) → f ≡ get_or fs i f → string_bytes g.0 ≡ string_bytes f.0 → KeepsName fs i g
    kept [] i f g e q = refl
    kept (x ∷ xs) zero f g e q = q ∙ ap (λ (y : MemFile). string_bytes y.0) e
    kept (x ∷ xs) (suc i) f g e q = kept xs i f g e q

-- what is left of the file at the place of a name, where something is told of it
pub left_in-told : (fs : List MemFile) (name : List ℕ) (i : ℕ) (f : MemFile) (x : List ℕ) → IsPlace fs name i → f ≡ get_or fs i f
    → left_in fs name ≡ Some x → f.1.items ≡ x
left_in-told fs name i f x p e h = let at = left_in-at fs name i f p in let q : f.1.items ≡ (get_or fs i f).1.items =
    ap (λ (y : MemFile). y.1.items) e in cc
