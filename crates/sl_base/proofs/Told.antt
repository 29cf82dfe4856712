-- One more read or write of told bytes.
use Rattle.std.proofs.Common.{◌≡◌, ℕ, ◌+◌, ◌-◌, ◌≤◌, List, ◌++◌, length, take, drop, Option, Result, Ok, Err, OnErr, ◌∙◌, arith, length-drop}
use Rattle.std.proofs.Common.{length-append, length-take}
use Rattle.std.specs.Io.KnownBytes.{Appends, Consumes}
use Rattle.std.proofs.KnownBytes.{Appends-trans, Keeps-refl, Keeps-trans, Consumes-trans}
use Rattle.sl_base.specs.Outside.{NoFault, OthersKept, AllKept, IsReadInPart}
use Rattle.std.proofs.Math.Seq.{take-add, take_all}

pub Appends-next : (a b c : Option (List ℕ)) (bytes : List ℕ) (done n : ℕ) → Appends a b (take done bytes)
    → Appends b c (take n (take (length bytes - done) (drop done bytes))) → Appends a c (take (done + n) bytes)
Appends-next a b c bytes done n before next =
    let whole : take (length bytes - done) (drop done bytes) ≡ drop done bytes = take_all (length bytes - done) (drop done bytes)
    (omega (arith, length-drop done bytes)) in
    rw take-add (Appends-trans a b c (take done bytes) (take n (drop done bytes)) before (rw whole at next))

pub OthersKept-refl : (f : List ℕ → Option (List ℕ)) (name : List ℕ) → OthersKept f f name
OthersKept-refl f name other ne = Keeps-refl (f other)

pub OthersKept-trans : (f g h : List ℕ → Option (List ℕ)) (name : List ℕ) → OthersKept f g name → OthersKept g h name → OthersKept f h name
OthersKept-trans f g h name p q other ne = Keeps-trans (f other) (g other) (h other) (p other ne) (q other ne)

pub OthersKept-all : (f g h : List ℕ → Option (List ℕ)) (name : List ℕ) → OthersKept f g name → AllKept g h → OthersKept f h name
OthersKept-all f g h name p q = OthersKept-trans f g h name p (λ other _. q other)

-- after one more read a first part is read
pub IsReadInPart-next : (limit : ℕ) (a b c : Option (List ℕ)) (front buf : List ℕ) (n : ℕ) → Consumes a b front → Consumes b c (take n buf)
    → length front + n ≤ limit + 1 → IsReadInPart limit a c
IsReadInPart-next limit a b c front buf n p q short =
    (front ++ take n buf, omega (arith, length-append front (take n buf), length-take n buf), Consumes-trans a b c front (take n buf) p q)

-- nothing failed so far, and nothing failed after that
pub NoFault-trans : (a b c : ℕ) (p q r : List ℕ → Type 0) → NoFault a b p q → NoFault b c q r → NoFault a c p r
NoFault-trans a b c p q r h k = record {
  count = k.count ∙ h.count;
  blame = λ name. (λ x. (h.blame name).0 ((k.blame name).0 x), λ x. (k.blame name).1 ((h.blame name).1 x));
}

-- what holds whatever a call returned holds where it failed
pub OnErr-any : {T E P : Type 0} (r : Result T E) → P → OnErr r P
OnErr-any (Ok x) p = tt
OnErr-any (Err e) p = p
