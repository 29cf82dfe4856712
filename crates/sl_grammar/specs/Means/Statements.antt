-- How statements, blocks, functions and programs are read. A statement that holds another needs depth for two nodes before its first word.
use Rattle.std.specs.Prelude.{ℕ, zero, suc, ◌+◌, ◌-◌, ◌&&◌, max, not, nat_lt, Bool, true, false, [], ◌∷◌, Option, Some, None, if◌then◌else◌, Ok}
use Rattle.sl_base.specs.declared.limits.TheConstants.{TREE_DEPTH}
use Rattle.sl_base.specs.declared.mark.Mark.TheVariants as m
use Rattle.sl_base.specs.declared.place.Place.{Place}
use Rattle.sl_base.specs.declared.scalar.Scalar.{Scalar}
use Rattle.sl_base.specs.declared.scalar.Scalar.TheVariants as c
use Rattle.sl_syntax.specs.declared.token_kind.TokenKind.{TokenKind}
use Rattle.sl_syntax.specs.declared.token_kind.TokenKind.TheVariants as k
use Rattle.sl_syntax.specs.declared.tree.element.Element.{Element}
use Rattle.sl_syntax.specs.declared.tree.element.Element.TheVariants as l
use Rattle.sl_syntax.specs.declared.tree.element.ElementType.{ElementType}
use Rattle.sl_syntax.specs.declared.tree.element.ElementType.TheVariants as y
use Rattle.sl_syntax.specs.declared.tree.identifier.Identifier.{Identifier}
use Rattle.sl_syntax.specs.Depth.{element_height}
use Rattle.sl_syntax.specs.Tree as t
use Rattle.sl_syntax.specs.Tree.{Expr, Effect, Cond, Declaration, First, Stmt, Item, Items, items_from, Function, Program}
use Rattle.sl_grammar.specs.Means.Declarations.{scalar_declaration, auto_declaration, container_declaration, params, reference_head}
use Rattle.sl_grammar.specs.Means.Declarations.{begins_reference, reference_declaration, result}
use Rattle.sl_grammar.specs.Means.Effects.{effect, cond}
use Rattle.sl_grammar.specs.Means.Expressions.{expr}
use Rattle.sl_grammar.specs.Means.Steps.{Reader, Tall, and_then, ◌>>=◌, ◌>>◌, pure, refuse, only, skip, kind_at, here, is_mark, mark, identifier}
use Rattle.sl_grammar.specs.Means.Steps.{all_behind}

abbrev pub is_else : TokenKind → Bool
is_else k.Else = true
is_else _ = false

abbrev pub is_end : TokenKind → Bool
is_end k.End = true
is_end _ = false

-- another item of the block follows
abbrev pub is_item : TokenKind → Bool
is_item kind = not (is_mark m.RightBrace kind)

-- another function follows
abbrev pub is_more : TokenKind → Bool
is_more kind = not (is_end kind)

-- A type that a `for` declares its variable of, where None is `auto`: it may be that of a range-for's.
abbrev pub ranges : Option Scalar → Bool
ranges None = true
ranges (Some c.Int) = true
ranges (Some _) = false

-- the type of a range-for's variable, where it may be one
abbrev pub element_of : Option Scalar → ElementType
element_of None = y.Auto
element_of (Some s) = y.Int

-- the first part of a `for` that declares a variable of this type, whose first token stands at this place
abbrev pub first_of : Option Scalar → Place → Identifier → Expr → First
first_of None place x v = t.first_auto place x v
first_of (Some s) place x v = t.first_scalar place s x v

-- an item that may be so high
module _ (depth_left : ℕ) where
  abbrev pub declared : Reader (Tall Declaration) → Reader (Tall Item)
  declared declaration = do
    d ← declaration
    mark m.Semicolon
    pure (t.declares d.0, d.1 + 1)

  abbrev pub item_by : Reader (Tall Stmt) → TokenKind → Reader (Tall Item)
  item_by stmt (k.Scalar s) = only (nat_lt 1 depth_left) (declared (scalar_declaration (depth_left - 2) s))
  item_by stmt k.Auto = only (nat_lt 1 depth_left) (declared (auto_declaration (depth_left - 2)))
  item_by stmt (k.Container f) = only (nat_lt 1 depth_left) (declared (container_declaration (depth_left - 2) f))
  item_by stmt _ = stmt >>= (λ s. pure (t.states s.0, s.1))

  -- a reference has three nodes on a way at least: the declaration with its `;`, the declaration and its type
  unfoldable pub item : Reader (Tall Stmt) → Reader (Tall Item)
  item stmt = λ ts.
      if nat_lt 2 depth_left && begins_reference ts then declared (reference_declaration (depth_left - 2)) ts
      else item_by stmt (kind_at ts) ts

-- The reader of statements one node deeper, and how many nodes may still stand on a way in what is read below.
module _ (inner : Reader (Tall Stmt)) (depth_left : ℕ) where
  -- a block: the place of its first brace, its items and the place of its last brace
  unfoldable pub braced : Reader (Tall (Place × Items × Place))
  braced = λ ts. (do
    mark m.LeftBrace
    xs ← all_behind is_item (item depth_left inner) ([], 0)
    close ← mark m.RightBrace
    pure ((here ts, items_from xs.0, close), xs.1 + 1)) ts

  abbrev pub block : Reader (Tall Stmt)
  block = braced >>= (λ b. pure (t.block b.0.0 b.0.1 b.0.2, b.1))

  -- `(c)`
  unfoldable pub condition : Reader (Tall Cond)
  condition = do
    mark m.LeftParenthesis
    c ← cond depth_left
    mark m.RightParenthesis
    pure c

  unfoldable pub otherwise : Place → Tall Cond → Tall Stmt → Reader (Tall Stmt)
  otherwise place c x = λ ts.
      if is_else (kind_at ts) then (do
        skip
        y ← inner
        pure (t.choice_else place c.0 x.0 y.0, max c.1 (max x.1 y.1) + 1)) ts
      else Ok ((t.choice place c.0 x.0, max c.1 x.1 + 1), ts)

  unfoldable pub choice : Reader (Tall Stmt)
  choice = λ ts. only (nat_lt 0 depth_left) (do
    skip
    c ← condition
    x ← inner
    otherwise (here ts) c x) ts

  unfoldable pub loop : Reader (Tall Stmt)
  loop = λ ts. only (nat_lt 0 depth_left) (do
    skip
    c ← condition
    x ← inner
    pure (t.while (here ts) c.0 x.0, max c.1 x.1 + 1)) ts

  unfoldable pub optional_cond : Reader (Tall (Option Cond))
  optional_cond = λ ts. if is_mark m.Semicolon (kind_at ts) then Ok ((None, 0), ts) else and_then (cond depth_left ts) (λ c. pure (Some c.0, c.1))

  unfoldable pub optional_effect : Reader (Tall (Option Effect))
  optional_effect =
      λ ts. if is_mark m.RightParenthesis (kind_at ts) then Ok ((None, 0), ts) else and_then (effect depth_left ts) (λ e. pure (Some e.0, e.1))

  -- a `for` behind its first part
  unfoldable pub for_behind : Place → Tall (Option First) → Reader (Tall Stmt)
  for_behind place first = do
    mark m.Semicolon
    c ← optional_cond
    mark m.Semicolon
    e ← optional_effect
    mark m.RightParenthesis
    x ← inner
    pure (t.for place first.0 c.0 e.0 x.0, max first.1 (max c.1 (max e.1 x.1)) + 1)

  -- a range-for behind its variable
  unfoldable pub range_behind : Place → Element → Identifier → Reader (Tall Stmt)
  range_behind place element x = do
    mark m.Colon
    v ← identifier
    mark m.RightParenthesis
    body ← inner
    pure (t.range_for place element x v body.0, max (element_height element) body.1 + 1)

  -- a range-for from the type of a reference on
  unfoldable pub reference_range : Place → Reader (Tall Stmt)
  reference_range place = do
    head ← reference_head
    x ← identifier
    range_behind place (l.Reference head) x

  unfoldable pub valued_first : Place → Place → Option Scalar → Identifier → Reader (Tall Stmt)
  valued_first place at type x = do
    mark m.Equal
    v ← expr depth_left 1
    for_behind place (Some (first_of type at x v.0), v.1 + 1)

  -- a `for` behind the variable that its head declares
  unfoldable pub variable_behind : Place → Place → Option Scalar → Identifier → Reader (Tall Stmt)
  variable_behind place at type x = λ ts.
      if ranges type && is_mark m.Colon (kind_at ts) then range_behind place (l.Value (element_of type)) x ts
      else valued_first place at type x ts

  unfoldable pub declared_first : Place → Option Scalar → Reader (Tall Stmt)
  declared_first place type = λ ts. (do
    skip
    x ← identifier
    variable_behind place (here ts) type x) ts

  abbrev pub for_by : Place → TokenKind → Reader (Tall Stmt)
  for_by place (k.Scalar s) = declared_first place (Some s)
  for_by place k.Auto = declared_first place None
  for_by place (k.Mark m.Semicolon) = for_behind place (None, 0)
  for_by place _ = effect depth_left >>= (λ e. for_behind place (Some (t.first_effect e.0), e.1))

  -- a `for` behind its parenthesis
  unfoldable pub for_head : Place → Reader (Tall Stmt)
  for_head place = λ ts. if begins_reference ts then reference_range place ts else for_by place (kind_at ts) ts

  unfoldable pub for_loop : Reader (Tall Stmt)
  for_loop = λ ts. only (nat_lt 0 depth_left) (do
    skip
    mark m.LeftParenthesis
    for_head (here ts)) ts

  abbrev pub returned : Place → Reader (Tall Stmt)
  returned place = λ ts.
      if is_mark m.Semicolon (kind_at ts) then (do
        skip
        pure (t.gives_back place None, 1)) ts
      else (do
        v ← expr (depth_left + 1) 1
        mark m.Semicolon
        pure (t.gives_back place (Some v.0), v.1 + 1)) ts

  unfoldable pub return_stmt : Reader (Tall Stmt)
  return_stmt = λ ts. (skip >> returned (here ts)) ts

  unfoldable pub effect_stmt : Reader (Tall Stmt)
  effect_stmt = λ ts. (do
    e ← effect depth_left
    mark m.Semicolon
    pure (t.does (here ts) e.0, e.1 + 1)) ts

  -- one word and its `;`
  unfoldable pub word_stmt : (Place → Stmt) → Reader (Tall Stmt)
  word_stmt stmt = λ ts. (do
    skip
    mark m.Semicolon
    pure (stmt (here ts), 1)) ts

  abbrev pub stmt_by : TokenKind → Reader (Tall Stmt)
  stmt_by (k.Mark m.LeftBrace) = block
  stmt_by k.If = choice
  stmt_by k.While = loop
  stmt_by k.For = for_loop
  stmt_by k.Break = word_stmt t.break
  stmt_by k.Continue = word_stmt t.continue
  stmt_by k.Return = return_stmt
  stmt_by _ = effect_stmt

-- a statement that is at most so high
unfoldable pub stmt : ℕ → Reader (Tall Stmt)
stmt zero = refuse
stmt (suc depth_left) = λ ts. stmt_by (stmt depth_left) depth_left (kind_at ts) ts

-- a function of a depth of at most 64: itself, its block, and what stands in that
unfoldable pub function : Reader (Tall Function)
function = λ ts. (do
  given ← result
  f ← identifier
  mark m.LeftParenthesis
  ps ← params
  mark m.RightParenthesis
  b ← braced (stmt (TREE_DEPTH - 2)) (TREE_DEPTH - 2)
  pure (
    record { place = here ts; result = given.0; name = f; params = ps.0; opens = b.0.0; items = b.0.1; closes = b.0.2 },
    max given.1 (max ps.1 b.1) + 1,
  )) ts

-- all the tokens as a program
unfoldable pub program : Reader (Tall Program)
program = function >>= (λ f. all_behind is_more function (f.0 ∷ [], f.1))
