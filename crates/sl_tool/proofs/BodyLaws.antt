-- Where the reader stands in a body.
use Rattle.std.proofs.Common.{◌≡◌, ℕ, ◌+◌, ◌-◌, ◌≤◌, ◌<◌, List, [], ◌∷◌, ◌++◌, length, drop, refl, sym, ap, ◌∙◌, subst, append_assoc, append-nil}
use Rattle.std.proofs.Common.{length-append, length-drop, take, Some, arith}
use Rattle.std.proofs.lemmas.List.{drop-map, take_all}
use Rattle.std.proofs.Math.ListN.{length-map}
use Rattle.std.proofs.Math.Seq.{drop-append_seam}
use Rattle.std.specs.List.{flat_map}
use Rattle.sl_base.specs.declared.limits.TheConstants.{STATEMENTS}
use Rattle.sl_base.specs.declared.mark.Mark.TheVariants.{RightBrace}
use Rattle.sl_base.specs.declared.token.Token.{Token}
use Rattle.sl_base.specs.declared.word.Word.{Word}
use Rattle.sl_base.specs.declared.word.Word.TheVariants.{Mark}
use Rattle.sl_syntax.specs.declared.subset.Stmt.{Stmt}
use Rattle.sl_tool.specs.declared.reading.reader.Reader.{Reader}
use Rattle.sl_syntax.specs.Begins.{words_in}
use Rattle.sl_tool.specs.Subset.{Item, vector_item, push_back_item, begin_item, dereference_item, item_words, Scope, no_scope, IsAllowed, after_item}
use Rattle.sl_tool.specs.Subset.{after_items, typed_item, typed_items, push_places}
use Rattle.sl_tool.proofs.Uses.{UsesDeclared}
use Rattle.sl_tool.specs.Means.Reading.{BeginsWith, IsSmall, no_reader, scope_of, item_places, Adds, TakesItem, AreItems, IsBody, IsRead}
use Rattle.sl_syntax.specs.Begins.{Stops}
use Rattle.sl_tool.proofs.ItemLaws.{begins_with}
use Rattle.sl_tool.proofs.StopHereLaws.{stops_behind}
use Rattle.sl_tool.proofs.NameLaws.{number_below}

-- The whole body is read where statements follow that end it.
pub record Reads (body rest : List Token) (r : Reader) (is : List Item) : Type 0 where
  pub items : List Item
  pub are_items : AreItems no_scope body STATEMENTS items
  pub stmts : r.stmts ++ typed_items (scope_of r) rest is ≡ typed_items no_scope body items
  pub sites : r.sites ++ push_places rest is ≡ push_places body items
  pub scope : after_items (scope_of r) is ≡ after_items no_scope items

-- The reader has this rest before it, and room for so many statements.
pub record StandsAt (body rest : List Token) (room : ℕ) (r : Reader) : Type 0 where
  pub small : IsSmall (scope_of r)
  pub ends : (is : List Item) → AreItems (scope_of r) rest room is → Reads body rest r is
  pub stops : (k : ℕ) → Stops (IsBody (scope_of r) room) (words_in rest) k → Stops (IsBody no_scope STATEMENTS) (words_in body)
      (length body - length rest + k)
  pub inside : length rest ≤ length body

begins_at : (body : List Token) (k : ℕ) → length body - length body + k ≡ k
begins_at body k = omega arith

pub starts : (body : List Token) → StandsAt body body STATEMENTS no_reader
starts body = record {
  small = record { vectors = omega arith; iterators = omega arith; numbers = omega arith; names = omega arith; pushes = omega arith };
  ends = λ is h. record { items = is; are_items = h; stmts = refl; sites = refl; scope = refl };
  stops = λ k h. rw (begins_at body k) h;
  inside = omega arith;
}

-- the limits hold behind a statement that may stand there
small_after : (s : Scope) (i : Item) → IsAllowed s i → IsSmall s → IsSmall (after_item s i)
small_after s (vector_item name) allowed small =
    let vectors = length-append s.vectors (name ∷ []) in
    let names = length-append s.names (name ∷ []) in
    record { vectors = omega arith; iterators = small.iterators; numbers = small.numbers; names = omega arith; pushes = small.pushes }
small_after s (push_back_item vector number) allowed small =
    record { vectors = small.vectors; iterators = small.iterators; numbers = small.numbers; names = small.names; pushes = allowed.1 }
small_after s (begin_item name vector) allowed small =
    let iterators = length-append s.iterators (name ∷ []) in
    let names = length-append s.names (name ∷ []) in
    record { vectors = small.vectors; iterators = omega arith; numbers = small.numbers; names = omega arith; pushes = small.pushes }
small_after s (dereference_item name iterator) allowed small =
    let numbers = length-append s.numbers (name ∷ []) in
    let names = length-append s.names (name ∷ []) in
    record { vectors = small.vectors; iterators = small.iterators; numbers = omega arith; names = omega arith; pushes = small.pushes }

-- the statement that begins the tokens, and those behind it
followed : (s : Scope) (tokens : List Token) (room : ℕ) (i : Item) (is : List Item) → BeginsWith (words_in tokens) i → IsAllowed s i → 0 < room
    → AreItems (after_item s i) (drop (length (item_words i)) tokens) (room - 1) is → AreItems s tokens room (i ∷ is)
followed s tokens room i is begins allowed some h = record {
  words = begins
      ∙ ap (λ l. item_words i ++ l) (drop-map (λ (t : Token). t.word) (length (item_words i)) tokens ∙ h.words)
      ∙ sym (append_assoc (item_words i) (flat_map item_words is) (Mark RightBrace ∷ []));
  allowed = (allowed, h.allowed);
  few = omega arith;
}

-- the words behind the first statement
words_behind : (tokens : List Token) (i : Item) (ws : List Word) → words_in tokens ≡ item_words i ++ ws
    → words_in (drop (length (item_words i)) tokens) ≡ ws
words_behind tokens i ws e =
    sym (drop-map (λ (t : Token). t.word) (length (item_words i)) tokens)
    ∙ ap (λ l. drop (length (item_words i)) l) e
    ∙ drop-append_seam (item_words i) ws

pub behind : (s : Scope) (tokens : List Token) (room : ℕ) (i : Item) (is : List Item) → AreItems s tokens room (i ∷ is)
    → AreItems (after_item s i) (drop (length (item_words i)) tokens) (room - 1) is
behind s tokens room i is h = record {
  words = words_behind tokens i _ (h.words ∙ append_assoc (item_words i) (flat_map item_words is) (Mark RightBrace ∷ []));
  allowed = h.allowed.1;
  few = omega (arith, h.few);
}

first_begins : (s : Scope) (tokens : List Token) (room : ℕ) (i : Item) (is : List Item) → AreItems s tokens room (i ∷ is)
    → BeginsWith (words_in tokens) i
first_begins s tokens room i is h = begins_with (words_in tokens) _ i
    (h.words ∙ append_assoc (item_words i) (flat_map item_words is) (Mark RightBrace ∷ []))

push_places-cons : (tokens : List Token) (i : Item) (is : List Item) → push_places tokens (i ∷ is) ≡ item_places tokens i
    ++ push_places (drop (length (item_words i)) tokens) is
push_places-cons tokens (vector_item name) is = refl
push_places-cons tokens (push_back_item vector number) is = refl
push_places-cons tokens (begin_item name vector) is = refl
push_places-cons tokens (dereference_item name iterator) is = refl

-- a statement uses what is declared
pub uses_declared : (s : Scope) (tokens : List Token) (i : Item) (ss : List Stmt) → IsAllowed s i → UsesDeclared (length (after_item s i).vectors)
    (length (after_item s i).iterators) ss → UsesDeclared (length s.vectors) (length s.iterators) (typed_item s tokens i ∷ ss)
uses_declared s tokens (vector_item name) ss allowed h = rw length-append at h
uses_declared s tokens (push_back_item vector number) ss allowed h = (number_below s.vectors vector allowed.0, h)
uses_declared s tokens (begin_item name vector) ss allowed h = (number_below s.vectors vector allowed.1, rw length-append at h)
uses_declared s tokens (dereference_item name iterator) ss allowed h = (number_below s.iterators iterator allowed.1, h)

item_inside : (tokens : List Token) (i : Item) → BeginsWith (words_in tokens) i → length (item_words i) ≤ length tokens
item_inside tokens i begins =
    let same : length (words_in tokens) ≡ length tokens = length-map tokens (λ (t : Token). t.word) in
    let parts = length-append (item_words i) (drop (length (item_words i)) (words_in tokens)) in
    let whole : length (words_in tokens) ≡ length (item_words i ++ drop (length (item_words i)) (words_in tokens)) = ap length begins in
    omega arith

-- One statement further. What it adds is known of the whole body too.
module _ (body rest : List Token) (room : ℕ) (old new : Reader) (i : Item) (at : StandsAt body rest room old) (begins : BeginsWith (words_in rest) i)
    (adds : Adds old new rest i) (some : 0 < room) where
  reads_more : (is : List Item) → AreItems (scope_of new) (drop (length (item_words i)) rest) (room - 1) is
      → Reads body (drop (length (item_words i)) rest) new is
  reads_more is h =
      let tokens = drop (length (item_words i)) rest in
      let all = at.ends (i ∷ is)
      (followed (scope_of old) rest room i is begins adds.allowed some (subst (λ s. AreItems s tokens (room - 1) is) adds.scope h)) in
      record {
        items = all.items;
        are_items = all.are_items;
        stmts = ap (λ s. new.stmts ++ typed_items s tokens is) adds.scope
            ∙ ap (λ l. l ++ typed_items (after_item (scope_of old) i) tokens is) adds.stmts
            ∙ append_assoc old.stmts (typed_item (scope_of old) rest i ∷ []) (typed_items (after_item (scope_of old) i) tokens is)
            ∙ all.stmts;
        sites = ap (λ l. l ++ push_places tokens is) adds.sites
            ∙ append_assoc old.sites (item_places rest i) (push_places tokens is)
            ∙ ap (λ l. old.sites ++ l) (sym (push_places-cons rest i is))
            ∙ all.sites;
        scope = ap (λ s. after_items s is) adds.scope ∙ all.scope;
      }

  stops_more : (k : ℕ) → Stops (IsBody (scope_of new) (room - 1)) (words_in (drop (length (item_words i)) rest)) k
      → Stops (IsBody no_scope STATEMENTS) (words_in body) (length body - length (drop (length (item_words i)) rest) + k)
  stops_more k h =
      let n = length (item_words i) in
      let here = stops_behind (scope_of old) room i (words_in (drop n rest)) k adds.allowed some
      (subst (λ s. Stops (IsBody s (room - 1)) (words_in (drop n rest)) k) adds.scope h) in
      let words : item_words i ++ words_in (drop n rest) ≡ words_in rest =
      ap (λ l. item_words i ++ l) (sym (drop-map (λ (t : Token). t.word) n rest)) ∙ sym begins in
      let long = item_inside rest i begins in
      let count : length body - length rest + (n + k) ≡ length body - length (drop n rest) + k = omega (arith, length-drop n rest, at.inside) in
      rw count at (at.stops (n + k) (subst (λ l. Stops (IsBody (scope_of old) room) l (n + k)) words here))

  pub moves : StandsAt body (drop (length (item_words i)) rest) (room - 1) new
  moves = record {
    small = subst IsSmall (sym adds.scope) (small_after (scope_of old) i adds.allowed at.small);
    ends = reads_more;
    stops = stops_more;
    inside = omega (arith, length-drop (length (item_words i)) rest, at.inside);
  }

-- at the closing brace the body is read
pub read_at_end : (body rest : List Token) (room : ℕ) (r : Reader) → StandsAt body rest room r → words_in rest ≡ Mark RightBrace ∷ [] → IsRead body r
read_at_end body rest room r at e =
    let all = at.ends [] (record { words = e; allowed = tt; few = omega arith }) in
    record {
      items = all.items;
      are_items = all.are_items;
      stmts = sym (append-nil r.stmts) ∙ all.stmts;
      sites = sym (append-nil r.sites) ∙ all.sites;
      names = ap (λ (s : Scope). s.names) all.scope;
    }

-- one statement further, where the reader has taken one
pub takes_on : (body rest : List Token) (room n : ℕ) (old new : Reader) → StandsAt body rest room old → TakesItem old new rest (Some n) → 0 < room
    → StandsAt body (take (length rest - n) (drop n rest)) (room - 1) new
takes_on body rest room n old new at (i, begins, many, adds) some =
    let whole = take_all (length rest - n) (drop n rest) (omega (arith, length-drop n rest)) in
    rw (whole, many) (moves body rest room old new i at begins adds some)
