-- What is read as a block is the words of items that follow the grammar.
use Rattle.std.proofs.Common.{◌≡◌, ℕ, ◌+◌, ◌-◌, ◌<◌, true, false, List, [], ◌∷◌, ◌++◌, Ok, refl, ap, arith, append_assoc}
use Rattle.std.specs.Prelude.{nat_lt, ◌&&◌}
use Rattle.std.proofs.lemmas.Bool.{ltb-true}
use Rattle.sl_base.specs.declared.mark.Mark.TheVariants as m
use Rattle.sl_base.specs.declared.place.Place.{Place}
use Rattle.sl_base.specs.declared.token.Token.{Token}
use Rattle.sl_syntax.specs.declared.token_kind.TokenKind.{TokenKind}
use Rattle.sl_syntax.specs.declared.token_kind.TokenKind.TheVariants as k
use Rattle.sl_syntax.specs.Depth.{declaration_height, cond_height, stmt_height, item_height, items_height}
use Rattle.sl_syntax.specs.Shaped.{IsDeclaration, IsCond, IsStmt, IsItem, AreItems, ends_open}
use Rattle.sl_syntax.specs.Tree as t
use Rattle.sl_syntax.specs.Tree.{Declaration, Cond, Stmt, Item, Items}
use Rattle.sl_syntax.specs.Written as s
use Rattle.sl_syntax.specs.Written.{Written, declaration_written, cond_written, tested, stmt_written, item_written}
use Rattle.sl_grammar.specs.Means.Declarations.{scalar_declaration, auto_declaration, container_declaration, begins_reference}
use Rattle.sl_grammar.specs.Means.Declarations.{reference_declaration}
use Rattle.sl_grammar.specs.Means.Effects as effects
use Rattle.sl_grammar.specs.Means.Statements.{is_else, is_item, declared, item_by, item, braced, condition}
use Rattle.sl_grammar.specs.Means.Steps.{Reader, Tall, kind_at, mark, all_behind}
use Rattle.sl_grammar.proofs.KindLaws.{both}
use Rattle.sl_grammar.proofs.MeetHeads.{reference-met}
use Rattle.sl_grammar.proofs.MeetSteps.{parts_of}
use Rattle.sl_grammar.proofs.Rows.{items-written, items-height, are_items}
use Rattle.sl_grammar.proofs.SoundDeclarations.{scalar-part, auto-part, container-part}
use Rattle.sl_grammar.proofs.SoundEffects.{cond-part}
use Rattle.sl_grammar.proofs.SoundSteps.{Took, bound, chosen, guarded, answered, mark_took, mark_plain, mark_here, Part, Parts, behind}
use Rattle.sl_grammar.proofs.Spelling.{◌⨾◌, respelled}

-- What is read as a statement: where it ends in an `if` that has no `else`, none follows.
pub record FoundStmt (depth_left : ℕ) (ts : List Token) (p : Tall Stmt) (rest : List Token) : Type 0 where
  pub part : Part stmt_written IsStmt stmt_height depth_left ts p rest
  pub closed : ends_open p.0 ≡ true → is_else (kind_at rest) ≡ false

-- what a reader of statements answers is such
abbrev pub Finds : Reader (Tall Stmt) → ℕ → Type 0
Finds inner depth_left = (ts : List Token) (y : Took Stmt) → inner ts ≡ Ok y → FoundStmt depth_left ts y.0 y.1

-- a block by its parts
abbrev pub block_written : Place × Items × Place → List Written
block_written b = stmt_written (t.block b.0 b.1 b.2)

abbrev pub IsBlock : Place × Items × Place → Type 0
IsBlock b = AreItems b.1

abbrev pub block_height : Place × Items × Place → ℕ
block_height b = items_height b.1 + 1

-- `(c)`
abbrev pub condition_written : Cond → List Written
condition_written c = s.mark m.LeftParenthesis ∷ (cond_written c ++ s.mark m.RightParenthesis ∷ [])

pub tested-written : (c : Cond) (rest : List Written) → condition_written c ++ rest ≡ tested c rest
tested-written c rest = ap (λ (l : List Written). s.mark m.LeftParenthesis ∷ l) (append_assoc (cond_written c) (s.mark m.RightParenthesis ∷ []) rest)

-- what is read from these tokens
abbrev pub ItemAt : ℕ → List Token → Took Item → Type 0
ItemAt depth_left ts y = Part item_written IsItem item_height depth_left ts y.0 y.1

module _ (inner : Reader (Tall Stmt)) (depth_left : ℕ) (f : Finds inner depth_left) where
  declared-part : (declaration : Reader (Tall Declaration)) (ts : List Token) (y : Took Item) → 1 < depth_left
      → ((x : Took Declaration) → declaration ts ≡ Ok x → Part declaration_written IsDeclaration declaration_height (depth_left - 2 + 1) ts x.0 x.1)
      → declared depth_left declaration ts ≡ Ok y → ItemAt depth_left ts y
  declared-part declaration ts y high part h =
      let P : Took Item → Type 0 = ItemAt depth_left ts in
      bound (declaration ts) _ y P h (λ x read h1.
      bound (mark m.Semicolon x.1) _ y P h1 (λ v closed h2.
      let found = part x read in
      answered _ y P h2 (record {
        spelled = found.spelled ⨾ mark_plain m.Semicolon x.1 v closed;
        fits = found.fits;
        size = omega (arith, found.size);
        low = omega (arith, found.low, high);
      })))

  states-part : (ts : List Token) (y : Took Item) → item_by depth_left inner k.End ts ≡ Ok y → ItemAt depth_left ts y
  states-part ts y h =
      let P : Took Item → Type 0 = ItemAt depth_left ts in
      bound (inner ts) _ y P h (λ x read h1.
      let found = f ts x read in
      answered _ y P h1 (record { spelled = found.part.spelled; fits = found.part.fits; size = found.part.size; low = found.part.low }))

  item-by : (kind : TokenKind) (ts : List Token) (y : Took Item) → kind_at ts ≡ kind → item_by depth_left inner kind ts ≡ Ok y
      → ItemAt depth_left ts y
  item-by (k.Scalar scalar) ts y e h =
      guarded (nat_lt 1 depth_left) _ _ y (ItemAt depth_left ts) h (λ high h1.
      declared-part (scalar_declaration (depth_left - 2) scalar) ts y (ltb-true 1 depth_left high)
      (λ x read. scalar-part (depth_left - 2) scalar ts x e read) h1)
  item-by k.Auto ts y e h =
      guarded (nat_lt 1 depth_left) _ _ y (ItemAt depth_left ts) h (λ high h1.
      declared-part (auto_declaration (depth_left - 2)) ts y (ltb-true 1 depth_left high) (λ x read. auto-part (depth_left - 2) ts x e read) h1)
  item-by (k.Container form) ts y e h =
      guarded (nat_lt 1 depth_left) _ _ y (ItemAt depth_left ts) h (λ high h1.
      declared-part (container_declaration (depth_left - 2) form) ts y (ltb-true 1 depth_left high)
      (λ x read. container-part (depth_left - 2) form ts x e read) h1)
  item-by _ ts y e h = states-part ts y h

  pub item-part : Parts item_written IsItem item_height depth_left (item depth_left inner)
  unfolding item
  item-part ts y h =
      chosen (nat_lt 2 depth_left && begins_reference ts) _ _ _ (ItemAt depth_left ts y) h
      (λ begins h1.
      let deep : 2 < depth_left = ltb-true 2 depth_left (both (nat_lt 2 depth_left) (begins_reference ts) begins).0 in
      let refers = reference_declaration (depth_left - 2) in
      declared-part refers ts y (omega (arith, deep))
      (parts_of declaration_written IsDeclaration declaration_height (depth_left - 2 + 1) refers (reference-met (depth_left - 2) (omega (arith, deep))) ts)
      h1)
      (λ other h1. item-by (kind_at ts) ts y refl h1)

  pub braced-part : Parts block_written IsBlock block_height (depth_left + 1) (braced inner depth_left)
  unfolding braced
  braced-part ts y h =
      let P : Took (Place × Items × Place) → Type 0 = λ z. Part block_written IsBlock block_height (depth_left + 1) ts z.0 z.1 in
      bound (mark m.LeftBrace ts) _ y P h (λ u opened h1.
      bound (all_behind is_item (item depth_left inner) ([], 0) u.1) _ y P h1 (λ xs read h2.
      bound (mark m.RightBrace xs.1) _ y P h2 (λ v closed h3.
      let found = behind item_written IsItem item_height depth_left is_item (item depth_left inner) item-part ([], 0) u.1 xs read in
      answered _ y P h3 (record {
        spelled = rw found.all (mark_here m.LeftBrace ts u opened
            ⨾ (respelled (items-written found.items) found.spelled ⨾ mark_took m.RightBrace xs.1 v closed));
        fits = rw found.all (are_items found.items found.each);
        size = rw found.all (omega (arith, found.size, items-height found.items));
        low = omega (arith, found.size, found.low);
      }))))

  pub condition-part : Parts condition_written IsCond cond_height depth_left (condition inner depth_left)
  unfolding condition
  condition-part ts y h =
      let P : Took Cond → Type 0 = λ z. Part condition_written IsCond cond_height depth_left ts z.0 z.1 in
      bound (mark m.LeftParenthesis ts) _ y P h (λ u opened h1.
      bound (effects.cond depth_left u.1) _ y P h1 (λ x read h2.
      bound (mark m.RightParenthesis x.1) _ y P h2 (λ v closed h3.
      let found = cond-part depth_left u.1 x read in
      answered _ y P h3 (record {
        spelled = mark_plain m.LeftParenthesis ts u opened ⨾ (found.spelled ⨾ mark_plain m.RightParenthesis x.1 v closed);
        fits = found.fits;
        size = found.size;
        low = found.low;
      }))))
