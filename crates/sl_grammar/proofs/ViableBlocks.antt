-- The words before a fault in a block begin one.
use Rattle.std.proofs.Common.{Err, List, Ok, [], arith, length, refl, ℕ, ◌+◌, ◌-◌, ◌<◌, ◌∷◌, ◌≡◌, ◌≤◌}
use Rattle.std.proofs.lemmas.Bool.{ltb-true}
use Rattle.std.specs.Prelude.{flat_map, nat_lt, ◌&&◌}
use Rattle.sl_base.specs.declared.mark.Mark.TheVariants as m
use Rattle.sl_base.specs.declared.place.Place.{Place}
use Rattle.sl_base.specs.declared.token.Token.{Token}
use Rattle.sl_base.specs.declared.word.Word.TheVariants as w
use Rattle.sl_syntax.specs.declared.token_kind.TokenKind.{TokenKind}
use Rattle.sl_syntax.specs.declared.token_kind.TokenKind.TheVariants as k
use Rattle.sl_syntax.specs.Blank.{nowhere}
use Rattle.sl_syntax.specs.Depth.{cond_height, declaration_height, item_height, stmt_height}
use Rattle.sl_syntax.specs.Shaped.{IsCond, IsDeclaration, IsItem, IsStmt}
use Rattle.sl_syntax.specs.Tree as t
use Rattle.sl_syntax.specs.Tree.{Cond, Declaration, Item, Items, Stmt, items_from}
use Rattle.sl_syntax.specs.Written as s
use Rattle.sl_syntax.specs.Written.{Written, at, declaration_written, item_written, stmt_written}
use Rattle.sl_grammar.specs.declared.fault.Fault.TheVariants.{Grammar}
use Rattle.sl_grammar.specs.Means.Declarations.{auto_declaration, begins_reference, container_declaration, reference_declaration, scalar_declaration}
use Rattle.sl_grammar.specs.Means.Effects as effects
use Rattle.sl_grammar.specs.Means.Statements.{braced, condition, declared, is_item, item, item_by}
use Rattle.sl_grammar.specs.Means.Steps.{Reader, Tall, all_behind, here, kind_at, mark}
use Rattle.sl_grammar.proofs.KindLaws.{both}
use Rattle.sl_grammar.proofs.MeetHeads.{reference-met}
use Rattle.sl_grammar.proofs.MeetSteps.{parts_of, stops_of}
use Rattle.sl_grammar.proofs.Rows.{items-written, items-height, are_items}
use Rattle.sl_grammar.proofs.SoundBlocks.{Finds, IsBlock, block_height, block_written, condition_written, item-part}
use Rattle.sl_grammar.proofs.SoundDeclarations.{auto-part, container-part, scalar-part}
use Rattle.sl_grammar.proofs.SoundEffects.{cond-part}
use Rattle.sl_grammar.proofs.SoundSteps.{Part, Took, behind, chosen, mark_here, mark_plain}
use Rattle.sl_grammar.proofs.Spelling.{respelled}
use Rattle.sl_grammar.proofs.ViableDeclarations.{LowDeclaration, auto-begun, container-begun, scalar-begun}
use Rattle.sl_grammar.proofs.ViableEffects.{cond-viable}
use Rattle.sl_grammar.proofs.ViableSteps.{Begun, Low, Stops, Viable, at_once, begun, faulted, mark_fault, no_fault, rewritten, some_expr, tested}
use Rattle.sl_grammar.proofs.ViableSteps.{unfinished, viable, ◌⨠◌, row-viable}

-- a statement that follows the grammar and is at most so high
abbrev pub LowStmt : ℕ → Stmt → Type 0
LowStmt depth_left x = IsStmt x × (stmt_height x ≤ depth_left)

-- What a reader of statements stops in: no word stands before the fault, or a statement begins.
abbrev pub Faults : Reader (Tall Stmt) → ℕ → Type 1
Faults inner depth_left = (ts : List Token) (n : ℕ) (P : Type 0) → inner ts ≡ Err (Grammar n) → (length ts ≡ n → P)
    → (Viable (LowStmt depth_left) stmt_written ts n → P) → P

-- a statement, for one that is missing
abbrev pub some_stmt : Stmt
some_stmt = t.break nowhere

-- Where there is some depth left, a statement may stand where none begins.
pub inner-stops : (inner : Reader (Tall Stmt)) (depth_left : ℕ) → Faults inner depth_left → 0 < depth_left
    → Stops stmt_written IsStmt stmt_height depth_left inner
inner-stops inner depth_left g high ts n h =
    let P : Type 0 = Viable (LowStmt depth_left) stmt_written ts n in
    g ts n P h (λ e. viable some_stmt (tt, omega (arith, high)) (at_once _ ts n e)) (λ v. v)

module _ (inner : Reader (Tall Stmt)) (depth_left : ℕ) (f : Finds inner depth_left) (g : Faults inner depth_left) where
  -- items that begin
  abbrev BegunItems : List Token → ℕ → Type 0
  BegunItems ts n = Viable (Low IsItem item_height depth_left) (flat_map item_written) ts n

  no_item : (ts : List Token) (n : ℕ) → length ts ≡ n → BegunItems ts n
  no_item ts n e = viable [] (tt, omega arith) (at_once [] ts n e)

  an_item : (ts : List Token) (n : ℕ) (x : Item) → IsItem x → item_height x ≤ depth_left → Begun (item_written x) ts n → BegunItems ts n
  an_item ts n x fits low b = viable (x ∷ []) ((fits, tt), omega (arith, low)) (unfinished b [])

  -- a declaration that begins is an item that begins
  declares-begun : (ts : List Token) (n : ℕ) → 1 < depth_left → Viable (LowDeclaration (depth_left - 2 + 1)) declaration_written ts n
      → BegunItems ts n
  declares-begun ts n high v =
      an_item ts n (t.declares v.tree) v.fits.0 (omega (arith, v.fits.1, high)) (unfinished (begun v) (s.mark m.Semicolon ∷ []))

  declared-begun : (declaration : Reader (Tall Declaration)) (ts : List Token) (n : ℕ) → 1 < depth_left
      → ((x : Took Declaration) → declaration ts ≡ Ok x → Part declaration_written IsDeclaration declaration_height (depth_left - 2 + 1) ts x.0 x.1)
      → (declaration ts ≡ Err (Grammar n) → BegunItems ts n) → declared depth_left declaration ts ≡ Err (Grammar n) → BegunItems ts n
  declared-begun declaration ts n high part first h =
      let P : Type 0 = BegunItems ts n in
      faulted (declaration ts) _ n P h first (λ x read h1.
      let found = part x read in
      faulted (mark m.Semicolon x.1) _ n P h1
      (λ h2. an_item ts n (t.declares x.0.0) found.fits (omega (arith, found.size, found.low, high))
      (found.spelled ⨠ at_once _ x.1 n (mark_fault m.Semicolon x.1 n h2)))
      (λ v closed h2. no_fault _ n P h2))

  states-begun : (ts : List Token) (n : ℕ) → item_by depth_left inner k.End ts ≡ Err (Grammar n) → BegunItems ts n
  states-begun ts n h =
      let P : Type 0 = BegunItems ts n in
      faulted (inner ts) _ n P h
      (λ h1. g ts n P h1 (λ e. no_item ts n e) (λ v. an_item ts n (t.states v.tree) v.fits.0 v.fits.1 (begun v)))
      (λ x read h1. no_fault _ n P h1)

  item-by : (kind : TokenKind) (ts : List Token) (n : ℕ) → kind_at ts ≡ kind → item_by depth_left inner kind ts ≡ Err (Grammar n) → BegunItems ts n
  item-by (k.Scalar scalar) ts n e h =
      tested (nat_lt 1 depth_left) _ (length ts) n (BegunItems ts n) h
      (λ high h1.
      let above : 1 < depth_left = ltb-true 1 depth_left high in
      declared-begun (scalar_declaration (depth_left - 2) scalar) ts n above (λ x read. scalar-part (depth_left - 2) scalar ts x e read)
      (λ h2. declares-begun ts n above (scalar-begun (depth_left - 2) scalar ts n e h2)) h1)
      (λ _ same. no_item ts n same)
  item-by k.Auto ts n e h =
      tested (nat_lt 1 depth_left) _ (length ts) n (BegunItems ts n) h
      (λ high h1.
      let above : 1 < depth_left = ltb-true 1 depth_left high in
      declared-begun (auto_declaration (depth_left - 2)) ts n above (λ x read. auto-part (depth_left - 2) ts x e read)
      (λ h2. declares-begun ts n above (auto-begun (depth_left - 2) ts n e h2)) h1)
      (λ _ same. no_item ts n same)
  item-by (k.Container form) ts n e h =
      tested (nat_lt 1 depth_left) _ (length ts) n (BegunItems ts n) h
      (λ high h1.
      let above : 1 < depth_left = ltb-true 1 depth_left high in
      declared-begun (container_declaration (depth_left - 2) form) ts n above (λ x read. container-part (depth_left - 2) form ts x e read)
      (λ h2. container-begun (depth_left - 2) form ts n (BegunItems ts n) e h2 (λ same. no_item ts n same) (λ v. declares-begun ts n above v)) h1)
      (λ _ same. no_item ts n same)
  item-by _ ts n e h = states-begun ts n h

  item-begun : (ts : List Token) (n : ℕ) → item depth_left inner ts ≡ Err (Grammar n) → BegunItems ts n
  unfolding item
  item-begun ts n h =
      chosen (nat_lt 2 depth_left && begins_reference ts) _ _ _ (BegunItems ts n) h
      (λ begins h1.
      let deep : 2 < depth_left = ltb-true 2 depth_left (both (nat_lt 2 depth_left) (begins_reference ts) begins).0 in
      let above : 1 < depth_left = omega (arith, deep) in
      let refers = reference_declaration (depth_left - 2) in
      let meets = reference-met (depth_left - 2) (omega (arith, deep)) in
      declared-begun refers ts n above
      (parts_of declaration_written IsDeclaration declaration_height (depth_left - 2 + 1) refers meets ts)
      (λ h2. declares-begun ts n above (stops_of declaration_written IsDeclaration declaration_height (depth_left - 2 + 1) refers meets ts n h2)) h1)
      (λ other h1. item-by (kind_at ts) ts n refl h1)

  -- a block that is no higher
  abbrev pub LowBlock : Place × Items × Place → Type 0
  LowBlock b = IsBlock b × (block_height b ≤ depth_left + 1)

  pub braced-begun : (ts : List Token) (n : ℕ) → braced inner depth_left ts ≡ Err (Grammar n) → Viable LowBlock block_written ts n
  unfolding braced
  braced-begun ts n h =
      let P : Type 0 = Viable LowBlock block_written ts n in
      let close : List Written = at nowhere (w.Mark m.RightBrace) ∷ [] in
      faulted (mark m.LeftBrace ts) _ n P h
      (λ h1. viable (here ts, t.no_more, nowhere) (tt, omega arith) (at_once _ ts n (mark_fault m.LeftBrace ts n h1)))
      (λ u opened h1.
      let open_brace = mark_here m.LeftBrace ts u opened in
      faulted (all_behind is_item (item depth_left inner) ([], 0) u.1) _ n P h1
      -- where no item begins, the block may end
      (λ h2.
      let v = row-viable item_written IsItem item_height depth_left is_item (item depth_left inner) (item-part inner depth_left f) item-begun
      ([], 0) u.1 n h2 in
      viable (here ts, items_from v.tree, nowhere) (are_items v.tree v.fits.0, omega (arith, v.fits.1, items-height v.tree))
      (open_brace ⨠ unfinished (rewritten (items-written v.tree) (begun v)) close))
      (λ xs read h2.
      let found = behind item_written IsItem item_height depth_left is_item (item depth_left inner) (item-part inner depth_left f)
      ([], 0) u.1 xs read in
      faulted (mark m.RightBrace xs.1) _ n P h2
      (λ h3. viable (here ts, items_from found.items, nowhere)
      (are_items found.items found.each, omega (arith, found.low, items-height found.items))
      (open_brace ⨠ (respelled (items-written found.items) found.spelled ⨠ at_once close xs.1 n (mark_fault m.RightBrace xs.1 n h3))))
      (λ v closed h3. no_fault _ n P h3)))

  pub condition-begun : Stops condition_written IsCond cond_height depth_left (condition inner depth_left)
  unfolding condition
  condition-begun ts n h =
      let P : Type 0 = Viable (λ (x : Cond). IsCond x × (cond_height x ≤ depth_left)) condition_written ts n in
      faulted (mark m.LeftParenthesis ts) _ n P h
      (λ h1. viable (t.tests some_expr) (tt, omega arith) (at_once _ ts n (mark_fault m.LeftParenthesis ts n h1)))
      (λ u opened h1.
      let first = mark_plain m.LeftParenthesis ts u opened in
      faulted (effects.cond depth_left u.1) _ n P h1
      (λ h2.
      let v = cond-viable depth_left u.1 n h2 in
      viable v.tree v.fits (first ⨠ unfinished (begun v) (s.mark m.RightParenthesis ∷ [])))
      (λ x read h2.
      let found = cond-part depth_left u.1 x read in
      faulted (mark m.RightParenthesis x.1) _ n P h2
      (λ h3. viable x.0.0 (found.fits, omega (arith, found.size, found.low))
      (first ⨠ (found.spelled ⨠ at_once _ x.1 n (mark_fault m.RightParenthesis x.1 n h3))))
      (λ v closed h3. no_fault _ n P h3)))
