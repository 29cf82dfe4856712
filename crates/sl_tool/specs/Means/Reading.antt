-- What the reader of texts knows on its way.
use Rattle.std.specs.Prelude.{◌≡◌, ℕ, ◌+◌, ◌≤◌, ◌<◌, List, [], ◌∷◌, ◌++◌, length, drop, flat_map, Option, MatchOption, if◌then◌else◌}
use Rattle.std.specs.List.{list_any}
use Rattle.sl_base.specs.declared.limits.TheConstants.{CONTAINERS, ITERATORS, SCALARS, SITES, STATEMENTS}
use Rattle.sl_base.specs.declared.mark.Mark.TheVariants.{RightBrace}
use Rattle.sl_base.specs.declared.place.Place.{Place}
use Rattle.sl_base.specs.declared.token.Token.{Token}
use Rattle.sl_base.specs.declared.word.Word.{Word}
use Rattle.sl_base.specs.declared.word.Word.TheVariants.{Mark}
use Rattle.sl_syntax.specs.declared.subset.Text.{Text}
use Rattle.sl_syntax.specs.SubsetView.{is_vector}
use Rattle.sl_tool.specs.declared.reading.reader.Reader.{Reader}
use Rattle.sl_tool.specs.declared.reading.read.Read.{Read}
use Rattle.sl_tool.specs.declared.reading.read.Read.TheVariants.{Whole, Stops as ReadStops}
use Rattle.sl_syntax.specs.Begins.{Stops}
use Rattle.sl_tool.specs.Subset.{IsInSubset}
use Rattle.sl_syntax.specs.Begins.{words_in}
use Rattle.sl_tool.specs.Subset.{head_words, Item, push_back_item, item_words, Scope, no_scope, IsAllowed, after_item, after_items, AllAllowed}
use Rattle.sl_tool.specs.Subset.{typed_item, typed_items, push_places, place_in}

-- the words begin with those of the statement
abbrev pub BeginsWith : List Word → Item → Type 0
BeginsWith words i = words ≡ item_words i ++ drop (length (item_words i)) words

-- nothing is read
abbrev pub no_reader : Reader
no_reader = record { vectors = []; iterators = []; numbers = []; names = []; stmts = []; sites = [] }

-- what is declared behind what is read
abbrev pub scope_of : Reader → Scope
scope_of r = record { vectors = r.vectors; iterators = r.iterators; numbers = r.numbers; names = r.names; pushes = length r.sites }

-- no more is declared than the limits allow
pub record IsSmall (s : Scope) : Type 0 where
  pub vectors : length s.vectors ≤ CONTAINERS
  pub iterators : length s.iterators ≤ ITERATORS
  pub numbers : length s.numbers ≤ SCALARS
  pub names : length s.names ≤ length s.vectors + length s.iterators + length s.numbers
  pub pushes : s.pushes < SITES

-- the places of the calls of `push_back` in the statement whose tokens begin these
abbrev pub item_places : List Token → Item → List Place
item_places tokens (push_back_item vector number) = place_in tokens 2 ∷ []
item_places tokens i = []

-- the statement, which may stand here, is read behind the others
pub record Adds (old new : Reader) (tokens : List Token) (i : Item) : Type 0 where
  pub allowed : IsAllowed (scope_of old) i
  pub scope : scope_of new ≡ after_item (scope_of old) i
  pub stmts : new.stmts ≡ old.stmts ++ typed_item (scope_of old) tokens i ∷ []
  pub sites : new.sites ≡ old.sites ++ item_places tokens i

-- so many tokens are read as the statement; or it may not stand here, and nothing is read
abbrev pub IsTaken : Reader → Reader → List Token → Item → Option ℕ → Type 0
IsTaken old new tokens i taken =
    MatchOption taken ((IsAllowed (scope_of old) i → ⊥) × (new ≡ old))
    (λ n. (n ≡ length (item_words i)) × Adds old new tokens i)

-- The statement whose tokens begin these is taken. None where no statement begins them, or it may not stand here; then nothing is read.
abbrev pub TakesItem : Reader → Reader → List Token → Option ℕ → Type 0
TakesItem old new tokens taken =
    MatchOption taken (((i : Item) → BeginsWith (words_in tokens) i → IsAllowed (scope_of old) i → ⊥) × (new ≡ old))
    (λ n. (i : Item) × BeginsWith (words_in tokens) i × (n ≡ length (item_words i)) × Adds old new tokens i)

-- the text that is read, up to this brace
abbrev pub text_of : Reader → Place → Text
text_of r close = record {
  stmts = r.stmts;
  close = close;
  sites = r.sites ++ (if list_any is_vector r.stmts then close ∷ [] else []);
  names = r.names;
}

-- the tokens are these statements and a closing brace, where this is declared and there may be so many
pub record AreItems (s : Scope) (tokens : List Token) (room : ℕ) (items : List Item) : Type 0 where
  pub words : words_in tokens ≡ flat_map item_words items ++ Mark RightBrace ∷ []
  pub allowed : AllAllowed s items
  pub few : length items ≤ room

-- the words are some statements and a closing brace, where this is declared and there may be so many
pub record IsBody (s : Scope) (room : ℕ) (words : List Word) : Type 0 where
  pub items : List Item
  pub are_items : words ≡ flat_map item_words items ++ Mark RightBrace ∷ []
  pub allowed : AllAllowed s items
  pub few : length items ≤ room

-- Where words stop of which no statement is read: one may follow, they aren't the closing brace alone, and no statement begins them that may
-- stand here.
abbrev pub StopsIn : Scope → List Word → ℕ → Type 0
StopsIn s words k =
    (room : ℕ) → 0 < room → (words ≡ Mark RightBrace ∷ [] → ⊥) → ((i : Item) → BeginsWith words i → IsAllowed s i → ⊥) → Stops (IsBody s room) words k

-- Where words stop that don't begin with `int main() {`.
abbrev pub StopsInHead : List Word → ℕ → Type 0
StopsInHead words k = ((rest : List Word) → words ≡ head_words ++ rest → ⊥) → Stops IsInSubset words k

-- what is read, by whether it is all
abbrev pub MatchRead : {T : Type 0} → Read T → (T → Type 0) → (ℕ → Type 0) → Type 0
MatchRead (Whole x) whole stops = whole x
MatchRead (ReadStops k) whole stops = stops k

-- the tokens of the body are read whole
pub record IsRead (body : List Token) (r : Reader) : Type 0 where
  pub items : List Item
  pub are_items : AreItems no_scope body STATEMENTS items
  pub stmts : r.stmts ≡ typed_items no_scope body items
  pub sites : r.sites ≡ push_places body items
  pub names : r.names ≡ (after_items no_scope items).names
