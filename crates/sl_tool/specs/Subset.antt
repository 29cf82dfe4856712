-- The texts that the tool checks so far: `int main()` with vectors of int, `push_back` of a number, `begin`, and `*` of an iterator.
-- A name is new in each declaration, and what is used is declared before ([basic.scope.block], [basic.lookup]).
use Rattle.std.specs.Prelude.{◌≡◌, ℕ, ◌+◌, ◌-◌, ◌≤◌, ◌<◌, List, [], ◌∷◌, ◌++◌, length, map, drop, flat_map, slice_index_or, Contains, codes}
use Rattle.std.specs.Prelude.{if◌then◌else◌}
use Rattle.std.specs.List.{position_or_len, list_any}
use Rattle.std.specs.Str.{bytes_eq}
use Rattle.sl_base.specs.declared.limits.TheConstants.{CONTAINERS, ITERATORS, SCALARS, SITES, STATEMENTS}
use Rattle.sl_base.specs.declared.mark.Mark.TheVariants.{LeftParenthesis, RightParenthesis, LeftBrace, RightBrace, Less, Greater, Equal, Star}
use Rattle.sl_base.specs.declared.mark.Mark.TheVariants.{Semicolon, Dot}
use Rattle.sl_base.specs.declared.place.Place.{Place}
use Rattle.sl_base.specs.declared.token.Token.{Token}
use Rattle.sl_base.specs.declared.word.Word.{Word}
use Rattle.sl_base.specs.declared.word.Word.TheVariants.{Name, Lib, Key, Number, Mark}
use Rattle.sl_base.specs.Tokens.{Tokens}
use Rattle.sl_syntax.specs.declared.subset.Stmt.{Stmt}
use Rattle.sl_syntax.specs.declared.subset.Stmt.TheVariants.{Vector, PushBack, Begin, Dereference}
use Rattle.sl_syntax.specs.declared.subset.Text.{Text}
use Rattle.sl_syntax.specs.Begins.{words_in}
use Rattle.sl_syntax.specs.SubsetView.{is_vector}

-- a statement by its names and its number
pub data Item : Type 0 where
  -- `std::vector<int> name;`
  vector_item : List ℕ → Item
  -- `vector.push_back(number);`
  push_back_item : List ℕ → ℕ → Item
  -- `auto name = vector.begin();`
  begin_item : List ℕ → List ℕ → Item
  -- `int name = *iterator;`
  dereference_item : List ℕ → List ℕ → Item

abbrev pub item_words : Item → List Word
item_words (vector_item name) = Lib (codes "vector") ∷ Mark Less ∷ Key (codes "int") ∷ Mark Greater ∷ Name name ∷ Mark Semicolon ∷ []
item_words (push_back_item vector number) =
    Name vector ∷ Mark Dot ∷ Name (codes "push_back") ∷ Mark LeftParenthesis ∷ Number number ∷ Mark RightParenthesis ∷ Mark Semicolon ∷ []
item_words (begin_item name vector) =
    Key (codes "auto") ∷ Name name ∷ Mark Equal
    ∷ Name vector ∷ Mark Dot ∷ Name (codes "begin") ∷ Mark LeftParenthesis ∷ Mark RightParenthesis ∷ Mark Semicolon ∷ []
item_words (dereference_item name iterator) = Key (codes "int") ∷ Name name ∷ Mark Equal ∷ Mark Star ∷ Name iterator ∷ Mark Semicolon ∷ []

-- `int main() {`
abbrev pub head_words : List Word
head_words = Key (codes "int") ∷ Name (codes "main") ∷ Mark LeftParenthesis ∷ Mark RightParenthesis ∷ Mark LeftBrace ∷ []

-- the words of a text with these statements
abbrev pub text_words : List Item → List Word
text_words items = head_words ++ (flat_map item_words items ++ Mark RightBrace ∷ [])

-- what is declared so far, in its order: the names of vectors, of iterators, of numbers, and of all of them; and how many calls of
-- `push_back` there are
pub record Scope : Type 0 where
  pub vectors : List (List ℕ)
  pub iterators : List (List ℕ)
  pub numbers : List (List ℕ)
  pub names : List (List ℕ)
  pub pushes : ℕ

abbrev pub no_scope : Scope
no_scope = record { vectors = []; iterators = []; numbers = []; names = []; pushes = 0 }

-- a name isn't declared yet
abbrev pub IsNew : Scope → List ℕ → Type 0
IsNew s name = Contains s.names name → ⊥

-- the statement may stand here
abbrev pub IsAllowed : Scope → Item → Type 0
IsAllowed s (vector_item name) = IsNew s name × (length s.vectors < CONTAINERS)
IsAllowed s (push_back_item vector number) = Contains s.vectors vector × (s.pushes + 1 < SITES)
IsAllowed s (begin_item name vector) = IsNew s name × Contains s.vectors vector × (length s.iterators < ITERATORS)
IsAllowed s (dereference_item name iterator) = IsNew s name × Contains s.iterators iterator × (length s.numbers < SCALARS)

-- what is declared behind a statement
abbrev pub after_item : Scope → Item → Scope
after_item s (vector_item name) = record s { vectors = s.vectors ++ name ∷ []; names = s.names ++ name ∷ [] }
after_item s (push_back_item vector number) = record s { pushes = s.pushes + 1 }
after_item s (begin_item name vector) = record s { iterators = s.iterators ++ name ∷ []; names = s.names ++ name ∷ [] }
after_item s (dereference_item name iterator) = record s { numbers = s.numbers ++ name ∷ []; names = s.names ++ name ∷ [] }

-- each statement may stand where it does
abbrev pub AllAllowed : Scope → List Item → Type 0
AllAllowed s [] = Unit {0}
AllAllowed s (i ∷ is) = IsAllowed s i × AllAllowed (after_item s i) is

-- the number of a name among these
abbrev pub number_of_name : List (List ℕ) → List ℕ → ℕ
number_of_name names name = position_or_len (λ n. bytes_eq n name) names

-- the place of the token k, and where there is none the first of a text
abbrev pub place_in : List Token → ℕ → Place
place_in tokens k = slice_index_or (map (λ (t : Token). t.place) tokens) k (record { line = 1; col = 1 })

-- the statement whose tokens begin these, in numbers
abbrev pub typed_item : Scope → List Token → Item → Stmt
typed_item s tokens (vector_item name) = Vector (place_in tokens 0) (place_in tokens 4)
typed_item s tokens (push_back_item vector number) =
    PushBack (place_in tokens 2) (number_of_name s.vectors vector) (number_of_name s.names vector) s.pushes number
typed_item s tokens (begin_item name vector) =
    Begin (place_in tokens 5) (number_of_name s.vectors vector) (number_of_name s.names vector) (place_in tokens 1)
typed_item s tokens (dereference_item name iterator) =
    Dereference (place_in tokens 3) (number_of_name s.iterators iterator) (number_of_name s.names iterator) (place_in tokens 1)

-- the statements whose tokens begin these, in numbers
abbrev pub typed_items : Scope → List Token → List Item → List Stmt
typed_items s tokens [] = []
typed_items s tokens (i ∷ is) = typed_item s tokens i ∷ typed_items (after_item s i) (drop (length (item_words i)) tokens) is

-- the places of the calls of `push_back` whose tokens begin these
abbrev pub push_places : List Token → List Item → List Place
push_places tokens [] = []
push_places tokens (push_back_item vector number ∷ is) =
    place_in tokens 2 ∷ push_places (drop (length (item_words (push_back_item vector number))) tokens) is
push_places tokens (i ∷ is) = push_places (drop (length (item_words i)) tokens) is

-- what is declared behind statements
abbrev pub after_items : Scope → List Item → Scope
after_items s [] = s
after_items s (i ∷ is) = after_items (after_item s i) is

-- the typed text of these statements, whose tokens these are: the closing brace is the last site, where it ends a vector
abbrev pub typed_text : List Token → List Item → Text
typed_text tokens items =
    let body : List Token = drop (length head_words) tokens in
    let stmts : List Stmt = typed_items no_scope body items in
    let close : Place = place_in tokens (length tokens - 1) in
    record {
      stmts = stmts;
      close = close;
      sites = push_places body items ++ (if list_any is_vector stmts then close ∷ [] else []);
      names = (after_items no_scope items).names;
    }

-- these tokens are a text of the subset, and this is the text in numbers
pub record ReadsAs (tokens : List Token) (p : Text) : Type 0 where
  pub items : List Item
  pub words : words_in tokens ≡ text_words items
  pub allowed : AllAllowed no_scope items
  pub few : length items ≤ STATEMENTS
  pub typed : p ≡ typed_text tokens items

-- the text has tokens, and they are a text of the subset, which is this in numbers
abbrev pub IsBuilt : List ℕ → Text → Type 0
IsBuilt text p = (tokens : List Token) × Tokens text tokens × ReadsAs tokens p

-- the words are a text of the subset
pub record IsInSubset (words : List Word) : Type 0 where
  pub items : List Item
  pub are_items : words ≡ text_words items
  pub allowed : AllAllowed no_scope items
  pub few : length items ≤ STATEMENTS

-- this is a text of the subset in numbers
abbrev pub IsOfText : Text → Type 0
IsOfText p = (text : List ℕ) × IsBuilt text p
