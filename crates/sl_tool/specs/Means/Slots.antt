-- Statements as rows of slots, and how many words fit them. A means of the reader: proofs/StopLaws ties it to the subset.
use Rattle.std.specs.Prelude.{◌≡◌, ℕ, zero, suc, ◌+◌, ◌<◌, List, [], ◌∷◌, length, Contains, codes}
use Rattle.sl_base.specs.declared.limits.TheConstants.{CONTAINERS, ITERATORS, SCALARS, SITES}
use Rattle.sl_base.specs.declared.mark.Mark.TheVariants.{LeftParenthesis, RightParenthesis, LeftBrace, Less, Greater, Equal, Star, Semicolon, Dot}
use Rattle.sl_base.specs.declared.word.Word.{Word}
use Rattle.sl_base.specs.declared.word.Word.TheVariants.{Name, Lib, Key, Number, Mark}
use Rattle.sl_tool.specs.declared.reading.slots.Slot.{Slot}
use Rattle.sl_tool.specs.declared.reading.slots.Slot.TheVariants.{VectorLib, IntKey, AutoKey, MainName, PushBackName, BeginName, ThisMark, NewName}
use Rattle.sl_tool.specs.declared.reading.slots.Slot.TheVariants.{VectorName, IteratorName, AnyNumber}
use Rattle.sl_tool.specs.declared.reading.slots.Kind.{Kind}
use Rattle.sl_tool.specs.declared.reading.slots.Kind.TheVariants.{Vector, PushBack, Begin, Dereference}
use Rattle.sl_tool.specs.Subset.{Scope, IsNew}

-- the word may stand there
abbrev pub Fits : Scope → Slot → Word → Type 0
Fits s VectorLib w = w ≡ Lib (codes "vector")
Fits s IntKey w = w ≡ Key (codes "int")
Fits s AutoKey w = w ≡ Key (codes "auto")
Fits s MainName w = w ≡ Name (codes "main")
Fits s PushBackName w = w ≡ Name (codes "push_back")
Fits s BeginName w = w ≡ Name (codes "begin")
Fits s (ThisMark mark) w = w ≡ Mark mark
Fits s NewName w = (name : List ℕ) × (w ≡ Name name) × IsNew s name
Fits s VectorName w = (name : List ℕ) × (w ≡ Name name) × Contains s.vectors name
Fits s IteratorName w = (name : List ℕ) × (w ≡ Name name) × Contains s.iterators name
Fits s AnyNumber w = (number : ℕ) × (w ≡ Number number)

-- so many words fit one by one, and no more
abbrev pub Fit : Scope → List Slot → List Word → ℕ → Type 0
Fit s [] ws zero = Unit {0}
Fit s [] ws (suc k) = ⊥
Fit s (x ∷ xs) [] zero = Unit {0}
Fit s (x ∷ xs) [] (suc k) = ⊥
Fit s (x ∷ xs) (w ∷ ws) zero = Fits s x w → ⊥
Fit s (x ∷ xs) (w ∷ ws) (suc k) = Fits s x w × Fit s xs ws k

-- `int main() {`
abbrev pub head_slots : List Slot
head_slots = IntKey ∷ MainName ∷ ThisMark LeftParenthesis ∷ ThisMark RightParenthesis ∷ ThisMark LeftBrace ∷ []

abbrev pub slots_of : Kind → List Slot
slots_of Vector = VectorLib ∷ ThisMark Less ∷ IntKey ∷ ThisMark Greater ∷ NewName ∷ ThisMark Semicolon ∷ []
slots_of PushBack = VectorName ∷ ThisMark Dot ∷ PushBackName ∷ ThisMark LeftParenthesis ∷ AnyNumber ∷ ThisMark RightParenthesis
    ∷ ThisMark Semicolon ∷ []
slots_of Begin = AutoKey ∷ NewName ∷ ThisMark Equal ∷ VectorName ∷ ThisMark Dot ∷ BeginName ∷ ThisMark LeftParenthesis ∷ ThisMark RightParenthesis
    ∷ ThisMark Semicolon ∷ []
slots_of Dereference = IntKey ∷ NewName ∷ ThisMark Equal ∷ ThisMark Star ∷ IteratorName ∷ ThisMark Semicolon ∷ []

-- a statement of the kind begins with a word like this
abbrev pub BeginsKind : Kind → Word → Type 0
BeginsKind Vector w = w ≡ Lib (codes "vector")
BeginsKind PushBack w = (name : List ℕ) × (w ≡ Name name)
BeginsKind Begin w = w ≡ Key (codes "auto")
BeginsKind Dereference w = w ≡ Key (codes "int")

-- some statement of the kind may stand here
abbrev pub IsPossible : Scope → Kind → Type 0
IsPossible s Vector = length s.vectors < CONTAINERS
IsPossible s PushBack = (0 < length s.vectors) × (s.pushes + 1 < SITES)
IsPossible s Begin = (0 < length s.vectors) × (length s.iterators < ITERATORS)
IsPossible s Dereference = (0 < length s.iterators) × (length s.numbers < SCALARS)
