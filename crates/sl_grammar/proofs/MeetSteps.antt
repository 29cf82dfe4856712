-- A reader meets the grammar: what it reads is the words of something that fits, and where it stops at a fault, the words before it begin such.
use Rattle.std.proofs.Common.{length, ◌≡◌, ℕ, ◌≤◌, Bool, true, false, cond, List, [], ◌∷◌, ◌++◌, drop, Ok, Err, refl, subst}
use Rattle.std.specs.Prelude.{⊤}
use Rattle.sl_base.specs.declared.mark.Mark.{Mark}
use Rattle.sl_base.specs.declared.place.Place.{Place}
use Rattle.sl_base.specs.declared.token.Token.{Token}
use Rattle.sl_base.specs.declared.word.Word.{Word}
use Rattle.sl_base.specs.declared.word.Word.TheVariants as w
use Rattle.sl_syntax.specs.declared.tree.identifier.Identifier.{Identifier}
use Rattle.sl_syntax.specs.Written as s
use Rattle.sl_syntax.specs.Written.{Written, from_place, named}
use Rattle.sl_grammar.specs.declared.fault.Fault.TheVariants.{Memory, Grammar}
use Rattle.sl_grammar.specs.Means.Steps.{Outcome, Reader, Tall, refusal, and_then, kind_at, here, is_mark, mark, identifier_by, identifier}
use Rattle.sl_grammar.proofs.SoundSteps.{Parts, seen}
use Rattle.sl_grammar.proofs.Spelling.{Spelled, ◌⨾◌}
use Rattle.sl_grammar.proofs.ViableSteps.{Begun, Stops, Viable, at_once, begun, viable, ◌⨠◌}

abbrev Meets : {A : Type 0} → (A → List Written) → (A → Type 0) → List Token → Outcome A → Type 0
Meets written Fits ts (Ok y) = Spelled (written y.0) ts y.1 × Fits y.0
Meets written Fits ts (Err (Grammar n)) = Viable Fits written ts n
Meets written Fits ts (Err Memory) = ⊤

-- what came of these tokens
pub record Met {A : Type 0} (written : A → List Written) (Fits : A → Type 0) (ts : List Token) (o : Outcome A) : Type 0 where
  pub meets : Meets written Fits ts o

pub took : {A : Type 0} {written : A → List Written} {Fits : A → Type 0} {ts : List Token} {o : Outcome A} {y : A × List Token}
    → Met written Fits ts o → o ≡ Ok y → Spelled (written y.0) ts y.1 × Fits y.0
took {written} {Fits} {ts} m e = (subst (Met written Fits ts) e m).meets

pub stuck : {A : Type 0} {written : A → List Written} {Fits : A → Type 0} {ts : List Token} {o : Outcome A} {n : ℕ}
    → Met written Fits ts o → o ≡ Err (Grammar n) → Viable Fits written ts n
stuck {written} {Fits} {ts} m e = (subst (Met written Fits ts) e m).meets

-- it is read
pub reads : {A : Type 0} {written : A → List Written} {Fits : A → Type 0} {ts us : List Token} (x : A) → Spelled (written x) ts us → Fits x
    → Met written Fits ts (Ok (x, us))
reads x spelled fits = record { meets = (spelled, fits) }

-- a fault: the words before it begin this
pub stops : {A : Type 0} {written : A → List Written} {Fits : A → Type 0} {ts : List Token} {n : ℕ} (x : A) → Fits x → Begun (written x) ts n
    → Met written Fits ts (Err (Grammar n))
stops x fits b = record { meets = viable x fits b }

-- a fault at the first word
pub stops_first : {A : Type 0} {written : A → List Written} {Fits : A → Type 0} {ts : List Token} (x : A) → Fits x
    → Met written Fits ts (Err (refusal ts))
stops_first {ts} x fits = stops x fits (at_once _ ts _ refl)

-- words that are there, and others that are missing behind them
pub missing : {xs : List Written} {ts us : List Token} → Spelled xs ts us → (ys : List Written) → Begun (xs ++ ys) ts (length us)
missing {us} a ys = a ⨠ at_once ys us _ refl

-- One step and what follows it, with a name for what is read.
pub step : {A B : Type 0} {w : A → List Written} {F : A → Type 0} {ts : List Token} {v : B → List Written} {G : B → Type 0} {ss : List Token}
    (o : Outcome A) (f : A → Reader B) → Met w F ts o → ((n : ℕ) → Viable F w ts n → Met v G ss (Err (Grammar n)))
    → ((a : A) (us : List Token) → Spelled (w a) ts us → F a → Met v G ss (f a us)) → Met v G ss (and_then o f)
step (Ok p) f m stop go = go p.0 p.1 m.meets.0 m.meets.1
step (Err (Grammar n)) f m stop go = stop n m.meets
step (Err Memory) f m stop go = record { meets = tt }

-- behind words that are there
pub behind_words : {A : Type 0} {w : A → List Written} {F : A → Type 0} {front : List Written} {ts us : List Token} (o : Outcome A)
    → Spelled front ts us → Met w F us o → Met (λ x. front ++ w x) F ts o
behind_words (Ok y) a m = reads y.0 (a ⨾ m.meets.0) m.meets.1
behind_words (Err (Grammar n)) a m =
    let v = m.meets in
    stops v.tree v.fits (a ⨠ begun v)
behind_words (Err Memory) a m = record { meets = tt }

-- a choice by a test
pub pick : {A : Type 0} (b : Bool) (o q : Outcome A) (P : Outcome A → Type 0) → (b ≡ true → P o) → (b ≡ false → P q) → P (cond b o q)
pick true o q P then other = then refl
pick false o q P then other = other refl

tested_step : {A B : Type 0} (b : Bool) (y : A × List Token) (ts : List Token) (f : A → Reader B) (P : Outcome B → Type 0)
    → P (Err (refusal ts)) → (b ≡ true → P (f y.0 y.1)) → P (and_then (cond b (Ok y) (Err (refusal ts))) f)
tested_step true y ts f P stop go = go refl
tested_step false y ts f P stop go = stop

-- behind a mark
pub past_mark : {B : Type 0} {v : B → List Written} {G : B → Type 0} {ss : List Token} (x : Mark) (ts : List Token) (f : Place → Reader B)
    → Met v G ss (Err (refusal ts)) → ((p : Place) (us : List Token) → Spelled (s.mark x ∷ []) ts us → Met v G ss (f p us))
    → Met v G ss (and_then (mark x ts) f)
unfolding mark
past_mark {v} {G} {ss} x ts f stop go =
    tested_step (is_mark x (kind_at ts)) (here ts, drop 1 ts) ts f (Met v G ss) stop (λ sees. go (here ts) (drop 1 ts) (seen x ts sees))

named_step : {B : Type 0} (x : Word) (t : Token) (ts : List Token) (f : Identifier → Reader B) (P : Outcome B → Type 0) → t.word ≡ x
    → P (Err (refusal (t ∷ ts))) → ((y : Identifier) (us : List Token) → Spelled (named y ∷ []) (t ∷ ts) us → P (f y us))
    → P (and_then (identifier_by t.place x (t ∷ ts)) f)
named_step (w.Name n) t ts f P e stop go = go (record { name = n; place = t.place }) ts (record { spells = ((e, (refl, tt)), refl) })
named_step _ t ts f P e stop go = stop

-- behind a name
pub past_name : {B : Type 0} {v : B → List Written} {G : B → Type 0} {ss : List Token} (ts : List Token) (f : Identifier → Reader B)
    → Met v G ss (Err (refusal ts)) → ((x : Identifier) (us : List Token) → Spelled (named x ∷ []) ts us → Met v G ss (f x us))
    → Met v G ss (and_then (identifier ts) f)
unfolding identifier
past_name [] f stop go = stop
past_name {v} {G} {ss} (t ∷ ts) f stop go = named_step t.word t ts f (Met v G ss) refl stop go

-- it fits, its height is the number beside it, and it is low enough
abbrev pub Measured : {A : Type 0} → (A → Type 0) → (A → ℕ) → ℕ → Tall A → Type 0
Measured Fits height depth_left p = Fits p.0 × (p.1 ≡ height p.0) × (p.1 ≤ depth_left)

abbrev pub MetTall : {A : Type 0} → (A → List Written) → (A → Type 0) → (A → ℕ) → ℕ → List Token → Outcome (Tall A) → Type 0
MetTall {A} written Fits height depth_left ts o = Met (λ (p : Tall A). written p.0) (Measured Fits height depth_left) ts o

module _ {A : Type 0} (written : A → List Written) (Fits : A → Type 0) (height : A → ℕ) (depth_left : ℕ) where
  -- a fault: the words before it begin this, with its height
  pub stops_in : {ts : List Token} {n : ℕ} (x : A) → Fits x → height x ≤ depth_left → Begun (written x) ts n
      → MetTall written Fits height depth_left ts (Err (Grammar n))
  stops_in x fits low b = stops (x, height x) (fits, refl, low) b

  module _ (item : Reader (Tall A)) where
    pub met : Parts written Fits height depth_left item → Stops written Fits height depth_left item → (ts : List Token)
        → MetTall written Fits height depth_left ts (item ts)
    met parts stop ts = by-outcome (item ts) refl
      where
        by-outcome : (o : Outcome (Tall A)) → item ts ≡ o → MetTall written Fits height depth_left ts o
        by-outcome (Ok y) e =
            let found = parts ts y e in
            reads y.0 found.spelled (found.fits, found.size, found.low)
        by-outcome (Err (Grammar n)) e =
            let v = stop ts n e in
            stops_in v.tree v.fits.0 v.fits.1 (begun v)
        by-outcome (Err Memory) e = record { meets = tt }

    pub parts_of : ((ts : List Token) → MetTall written Fits height depth_left ts (item ts)) → Parts written Fits height depth_left item
    parts_of m ts y e =
        let found = took (m ts) e in
        record { spelled = found.0; fits = found.1.0; size = found.1.1; low = found.1.2 }

    pub stops_of : ((ts : List Token) → MetTall written Fits height depth_left ts (item ts)) → Stops written Fits height depth_left item
    stops_of m ts n e =
        let v = stuck (m ts) e in
        viable v.tree.0 (v.fits.0, subst (λ h. h ≤ depth_left) v.fits.1 v.fits.2) (begun v)
