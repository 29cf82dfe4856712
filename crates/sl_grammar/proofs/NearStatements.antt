-- The readers of statements, functions and programs do the same up to a point.
use Rattle.std.proofs.Common.{◌≡◌, ℕ, zero, suc, ◌+◌, ◌-◌, ◌≤◌, max, nat_lt, true, ◌&&◌, if◌then◌else◌, List, [], ◌∷◌, length, drop}
use Rattle.std.proofs.Common.{Option, Some, None, Ok, Err, refl, ap, subst, arith}
use Rattle.std.proofs.lemmas.Bool.{false≢true, lt-ltb, ltb-true}
use Rattle.sl_base.specs.declared.limits.TheConstants.{TREE_DEPTH}
use Rattle.sl_base.specs.declared.mark.Mark.TheVariants as m
use Rattle.sl_base.specs.declared.place.Place.{Place}
use Rattle.sl_base.specs.declared.scalar.Scalar.{Scalar}
use Rattle.sl_base.specs.declared.scalar.Scalar.TheVariants as c
use Rattle.sl_base.specs.declared.token.Token.{Token}
use Rattle.sl_syntax.specs.declared.token_kind.TokenKind.{TokenKind}
use Rattle.sl_syntax.specs.declared.token_kind.TokenKind.TheVariants as k
use Rattle.sl_syntax.specs.declared.tree.element.Element.{Element}
use Rattle.sl_syntax.specs.declared.tree.element.Element.TheVariants as l
use Rattle.sl_syntax.specs.declared.tree.element.ReferenceHead.{ReferenceHead}
use Rattle.sl_syntax.specs.declared.tree.identifier.Identifier.{Identifier}
use Rattle.sl_syntax.specs.Depth.{element_height}
use Rattle.sl_syntax.specs.TokenKinds.{kind_of}
use Rattle.sl_syntax.specs.Tree as t
use Rattle.sl_syntax.specs.Tree.{Cond, Declaration, First, Item, Stmt}
use Rattle.sl_grammar.specs.declared.fault.Fault.TheVariants.{Memory}
use Rattle.sl_grammar.specs.Means.Declarations.{scalar_declaration, auto_declaration, container_declaration, reference_declaration, reference_head}
use Rattle.sl_grammar.specs.Means.Statements.{is_else, is_item, is_more, ranges, element_of, declared, item_by, item, braced, block, condition}
use Rattle.sl_grammar.specs.Means.Statements.{otherwise, choice, loop, optional_cond, optional_effect, for_behind, range_behind, valued_first}
use Rattle.sl_grammar.specs.Means.Statements.{variable_behind, reference_range, declared_first, for_by, for_head, for_loop, returned, return_stmt}
use Rattle.sl_grammar.specs.Means.Statements.{effect_stmt, word_stmt, stmt_by, stmt, function, program}
use Rattle.sl_grammar.specs.Means.Expressions.{expr}
use Rattle.sl_grammar.specs.Means.Steps.{Reader, Tall, ◌>>=◌, ◌>>◌, pure, here, is_mark, mark, kind_at, identifier}
use Rattle.sl_grammar.proofs.NearDeclarations.{scalar_declaration-near, auto_declaration-near, container_declaration-near, scalar-left, auto-left}
use Rattle.sl_grammar.proofs.NearEffects.{effect-near, cond-near}
use Rattle.sl_grammar.proofs.NearExpressions.{expr-near}
use Rattle.sl_grammar.proofs.NearHeads.{reference_head-near, reference_declaration-near, result-near, begins_element, head-left, reference-left}
use Rattle.sl_grammar.proofs.NearHeads.{by_reference-near}
use Rattle.sl_grammar.proofs.NearParams.{params-near}
use Rattle.sl_grammar.proofs.NearSteps.{Same, Agree, left_over, Within, left-within, bind-left, Twins, Level, plain, tall, yields, refuses, loose, skipped}
use Rattle.sl_grammar.proofs.NearSteps.{taken, chosen, known, either, by_test, under, mark-near, identifier-near, repeat-near}

module _ (depth_left : ℕ) where
  abbrev valued : Place → Reader (Tall Stmt)
  valued place = do
    v ← expr (depth_left + 1) 1
    mark m.Semicolon
    pure (t.gives_back place (Some v.0), v.1 + 1)

  abbrev returned_by : Place → TokenKind → Reader (Tall Stmt)
  returned_by place kind = λ s. if is_mark m.Semicolon kind then Ok ((t.gives_back place None, 1), drop 1 s) else valued place s

-- what is read behind the type of a reference, and behind that of another variable, in the head of a `for`
module _ (inner : Reader (Tall Stmt)) (depth_left : ℕ) where
  abbrev range_from : Place → ReferenceHead → Reader (Tall Stmt)
  range_from place head = identifier >>= range_behind inner depth_left place (l.Reference head)

  abbrev first_from : Place → Place → Option Scalar → Reader (Tall Stmt)
  first_from place at type = identifier >>= variable_behind inner depth_left place at type

-- the `;` behind a declaration
abbrev ended : Tall Declaration → Reader (Tall Item)
ended d = do
  mark m.Semicolon
  pure (t.declares d.0, d.1 + 1)

ended-near : {b : ℕ} (d d' : Declaration) (i : ℕ) → Twins b 1 Level (ended (d, i)) (ended (d', i))
ended-near d d' i s s' = plain (mark-near m.Semicolon s s') (λ _ _ _ _. yields refl)

-- A word that may begin the type of a reference is taken, whether it does or not.
module _ (depth_left : ℕ) where
  declared-left : (declaration : Reader (Tall Declaration)) (x : Token) (ts : List Token) → left_over (declaration (x ∷ ts)) ≤ length ts
      → left_over (declared depth_left declaration (x ∷ ts)) ≤ length ts
  declared-left declaration x ts low =
      omega (arith, low, bind-left 1 (declaration (x ∷ ts)) ended (λ d u. (ended-near {b = 0} d.0 d.0 d.1 u u).within))

  refers-left : (x : Token) (ts : List Token) → begins_element (kind_of x.word) ≡ true
      → left_over (declared depth_left (reference_declaration (depth_left - 2)) (x ∷ ts)) ≤ length ts
  refers-left x ts begins = declared-left (reference_declaration (depth_left - 2)) x ts (reference-left (depth_left - 2) x ts begins)

  item-left : (stmt : Reader (Tall Stmt)) (kind : TokenKind) (x : Token) (ts : List Token) → nat_lt 2 depth_left ≡ true → kind_of x.word ≡ kind
      → begins_element kind ≡ true → left_over (item_by depth_left stmt kind (x ∷ ts)) ≤ length ts
  item-left stmt (k.Scalar c.Int) x ts test e begins =
      rw (lt-ltb 1 depth_left (omega (arith, ltb-true 2 depth_left test)))
      (declared-left (scalar_declaration (depth_left - 2) c.Int) x ts (scalar-left (depth_left - 2) c.Int x ts))
  item-left stmt (k.Scalar _) x ts test e begins = absurd (false≢true begins)
  item-left stmt k.Auto x ts test e begins =
      rw (lt-ltb 1 depth_left (omega (arith, ltb-true 2 depth_left test)))
      (declared-left (auto_declaration (depth_left - 2)) x ts (auto-left (depth_left - 2) x ts))
  item-left stmt _ x ts test e begins = absurd (false≢true begins)

module _ {b : ℕ} where
  module _ (depth_left : ℕ) where
    declared-near : (declaration : Reader (Tall Declaration)) → Twins b 1 Level declaration declaration
        → Twins b 1 Level (declared depth_left declaration) (declared depth_left declaration)
    declared-near declaration h s s' = tall _ _ (h s s') (λ d d' i. ended-near d d' i)

    module _ (stmt : Reader (Tall Stmt)) (h : Twins b 1 Level stmt stmt) where
      item_by-near : (kind : TokenKind) → Twins b 1 Level (item_by depth_left stmt kind) (item_by depth_left stmt kind)
      item_by-near (k.Scalar c) s s' = under (nat_lt 1 depth_left) (declared-near (scalar_declaration (depth_left - 2) c)
          (scalar_declaration-near (depth_left - 2) c) s s')
      item_by-near k.Auto s s' =
          under (nat_lt 1 depth_left) (declared-near (auto_declaration (depth_left - 2)) (auto_declaration-near (depth_left - 2)) s s')
      item_by-near (k.Container f) s s' = under (nat_lt 1 depth_left) (declared-near (container_declaration (depth_left - 2) f)
          (container_declaration-near (depth_left - 2) f) s s')
      item_by-near _ s s' = tall _ _ (h s s') (λ _ _ _ _ _. yields refl)

      item-near : Twins b 1 Level (item depth_left stmt) (item depth_left stmt)
      unfolding item
      item-near = by_reference-near (nat_lt 2 depth_left) (declared depth_left (reference_declaration (depth_left - 2)))
          (declared depth_left (reference_declaration (depth_left - 2)))
          (λ s. item_by depth_left stmt (kind_at s) s) (λ s. item_by depth_left stmt (kind_at s) s)
          (declared-near (reference_declaration (depth_left - 2)) (reference_declaration-near (depth_left - 2)))
          (chosen (item_by depth_left stmt) (item_by depth_left stmt) item_by-near)
          (λ x ts test begins. (refers-left depth_left x ts begins, item-left depth_left stmt (kind_of x.word) x ts test refl begins))

  module _ (inner : Reader (Tall Stmt)) (depth_left : ℕ) (h : Twins b 1 Level inner inner) where
    braced-near : Twins b 1 Level (braced inner depth_left) (braced inner depth_left)
    unfolding braced
    braced-near s s' = plain (mark-near m.LeftBrace s s') (λ _ _ s s'. tall _ _
        (repeat-near is_item (item depth_left inner) (item-near depth_left inner h) [] [] 0 s s')
        (λ _ _ _ s s'. plain (mark-near m.RightBrace s s') (λ _ _ _ _. yields refl)))

    block-near : Twins b 1 Level (block inner depth_left) (block inner depth_left)
    block-near s s' = tall _ _ (braced-near s s') (λ _ _ _ _ _. yields refl)

    condition-near : Twins b 1 Level (condition inner depth_left) (condition inner depth_left)
    unfolding condition
    condition-near s s' = plain (mark-near m.LeftParenthesis s s') (λ _ _ s s'. tall _ _ (cond-near depth_left s s')
        (λ _ _ _ s s'. plain (mark-near m.RightParenthesis s s') (λ _ _ _ _. yields refl)))

    otherwise-near : (place place' : Place) (c c' : Cond) (i : ℕ) (x x' : Stmt) (j : ℕ)
        → Twins b 0 Level (otherwise inner depth_left place (c, i) (x, j)) (otherwise inner depth_left place' (c', i) (x', j))
    unfolding otherwise
    otherwise-near place place' c c' i x x' j s s' = by_test is_else (skipped (loose (tall _ _ (h _ _) (λ _ _ _ _ _. yields refl)))) (yields refl)

    choice-near : Twins b 1 Level (choice inner depth_left) (choice inner depth_left)
    unfolding choice
    choice-near s s' =
        under (nat_lt 0 depth_left) (skipped (tall _ _ (condition-near _ _) (λ c c' i s s'. tall _ _ (h s s') (otherwise-near _ _ c c' i))))

    loop-near : Twins b 1 Level (loop inner depth_left) (loop inner depth_left)
    unfolding loop
    loop-near s s' =
        under (nat_lt 0 depth_left) (skipped (tall _ _ (condition-near _ _) (λ _ _ _ s s'. tall _ _ (h s s') (λ _ _ _ _ _. yields refl))))

    optional_cond-near : Twins b 0 Level (optional_cond inner depth_left) (optional_cond inner depth_left)
    unfolding optional_cond
    optional_cond-near s s' = by_test (is_mark m.Semicolon) (yields refl) (loose (tall _ _ (cond-near depth_left s s') (λ _ _ _ _ _. yields refl)))

    optional_effect-near : Twins b 0 Level (optional_effect inner depth_left) (optional_effect inner depth_left)
    unfolding optional_effect
    optional_effect-near s s' = by_test (is_mark m.RightParenthesis) (yields refl)
        (loose (tall _ _ (effect-near depth_left s s') (λ _ _ _ _ _. yields refl)))

    for_behind-near : (place place' : Place) (x y : Option First) (z : ℕ)
        → Twins b 1 Level (for_behind inner depth_left place (x, z)) (for_behind inner depth_left place' (y, z))
    unfolding for_behind
    for_behind-near place place' x y z s s' = plain (mark-near m.Semicolon s s') (λ _ _ s s'. tall _ _ (optional_cond-near s s')
        (λ _ _ _ s s'. plain (mark-near m.Semicolon s s') (λ _ _ s s'. tall _ _ (optional_effect-near s s')
        (λ _ _ _ s s'. plain (mark-near m.RightParenthesis s s') (λ _ _ s s'. tall _ _ (h s s') (λ _ _ _ _ _. yields refl))))))

    range_behind-near : (place place' : Place) (e e' : Element) (x y : Identifier) → element_height e ≡ element_height e'
        → Twins b 1 Level (range_behind inner depth_left place e x) (range_behind inner depth_left place' e' y)
    unfolding range_behind
    range_behind-near place place' e e' x y same s s' = plain (mark-near m.Colon s s') (λ _ _ s s'. plain (identifier-near s s')
        (λ _ _ s s'. plain (mark-near m.RightParenthesis s s') (λ _ _ s s'. tall _ _ (h s s')
        (λ _ _ i _ _. yields (ap (λ z. max z i + 1) same)))))

    range_from-near : (place place' : Place) (head head' : ReferenceHead)
        → Twins b 1 Level (range_from inner depth_left place head) (range_from inner depth_left place' head')
    range_from-near place place' head head' s s' =
        plain (identifier-near s s') (λ x y. range_behind-near place place' (l.Reference head) (l.Reference head') x y refl)

    reference_range-near : (place place' : Place)
        → Twins b 1 Level (reference_range inner depth_left place) (reference_range inner depth_left place')
    unfolding reference_range
    reference_range-near place place' s s' = plain (reference_head-near s s') (range_from-near place place')

    valued_first-near : (place place' at at' : Place) (type : Option Scalar) (x y : Identifier)
        → Twins b 1 Level (valued_first inner depth_left place at type x) (valued_first inner depth_left place' at' type y)
    unfolding valued_first
    valued_first-near place place' at at' type x y s s' = plain (mark-near m.Equal s s')
        (λ _ _ s s'. tall _ _ (expr-near depth_left 1 s s') (λ _ _ z s s'. for_behind-near place place' _ _ (z + 1) s s'))

    variable_behind-near : (place place' at at' : Place) (type : Option Scalar) (x y : Identifier)
        → Twins b 1 Level (variable_behind inner depth_left place at type x) (variable_behind inner depth_left place' at' type y)
    unfolding variable_behind
    variable_behind-near place place' at at' type x y s s' = by_test (λ v. ranges type && is_mark m.Colon v)
        (range_behind-near place place' (l.Value (element_of type)) (l.Value (element_of type)) x y refl s s') (valued_first-near place place' at at' type x y s s')

    first_from-near : (place place' at at' : Place) (type : Option Scalar)
        → Twins b 1 Level (first_from inner depth_left place at type) (first_from inner depth_left place' at' type)
    first_from-near place place' at at' type s s' =
        plain (identifier-near s s') (λ x y s s'. loose (variable_behind-near place place' at at' type x y s s'))

    declared_first-near : (place place' : Place) (type : Option Scalar)
        → Twins b 1 Level (declared_first inner depth_left place type) (declared_first inner depth_left place' type)
    unfolding declared_first
    declared_first-near place place' type s s' = skipped (first_from-near place place' _ _ type _ _)

    for_by-near : (place place' : Place) (kind : TokenKind)
        → Twins b 1 Level (for_by inner depth_left place kind) (for_by inner depth_left place' kind)
    for_by-near place place' (k.Scalar c) s s' = declared_first-near place place' (Some c) s s'
    for_by-near place place' k.Auto s s' = declared_first-near place place' None s s'
    for_by-near place place' (k.Mark m.Semicolon) s s' = for_behind-near place place' None None 0 s s'
    for_by-near place place' _ s s' = tall _ _ (effect-near depth_left s s') (λ x y z s s'. for_behind-near place place' (Some (t.first_effect x))
        (Some (t.first_effect y)) z s s')

    -- a word that may begin the type of a reference is taken, whether it does or not
    range-left : (place : Place) (x : Token) (ts : List Token) → begins_element (kind_of x.word) ≡ true
        → left_over (reference_range inner depth_left place (x ∷ ts)) ≤ length ts
    unfolding reference_range
    range-left place x ts begins =
        omega (
          arith,
          head-left x ts begins,
          bind-left 1 (reference_head (x ∷ ts)) (range_from inner depth_left place)
              (λ head u. (range_from-near place place head head u u).within),
        )

    for-left : (place : Place) (kind : TokenKind) (x : Token) (ts : List Token) → begins_element kind ≡ true
        → left_over (for_by inner depth_left place kind (x ∷ ts)) ≤ length ts
    unfolding declared_first
    for-left place (k.Scalar c.Int) x ts begins = left-within 1 (length ts) (first_from inner depth_left place x.place (Some c.Int) ts)
        (first_from-near place place x.place x.place (Some c.Int) ts ts).within
    for-left place (k.Scalar _) x ts begins = absurd (false≢true begins)
    for-left place k.Auto x ts begins = left-within 1 (length ts) (first_from inner depth_left place x.place None ts)
        (first_from-near place place x.place x.place None ts ts).within
    for-left place _ x ts begins = absurd (false≢true begins)

    for_head-near : (place place' : Place) → Twins b 1 Level (for_head inner depth_left place) (for_head inner depth_left place')
    unfolding for_head
    for_head-near place place' = by_reference-near true (reference_range inner depth_left place) (reference_range inner depth_left place')
        (λ s. for_by inner depth_left place (kind_at s) s) (λ s. for_by inner depth_left place' (kind_at s) s) (reference_range-near place place')
        (chosen (for_by inner depth_left place) (for_by inner depth_left place') (for_by-near place place'))
        (λ x ts test begins. (range-left place x ts begins, for-left place (kind_of x.word) x ts begins))

    for_loop-near : Twins b 1 Level (for_loop inner depth_left) (for_loop inner depth_left)
    unfolding for_loop
    for_loop-near s s' = under (nat_lt 0 depth_left) (skipped (plain (mark-near m.LeftParenthesis _ _)
        (λ _ _ u u'. for_head-near (here s) (here s') u u')))

    valued-near : (place place' : Place) → Twins b 1 Level (valued depth_left place) (valued depth_left place')
    valued-near place place' s s' =
        tall _ _ (expr-near (depth_left + 1) 1 s s') (λ _ _ _ s s'. plain (mark-near m.Semicolon s s') (λ _ _ _ _. yields refl))

    returned-near : (place place' : Place) → Twins b 1 Level (returned inner depth_left place) (returned inner depth_left place')
    returned-near place place' s s' = known (returned_by depth_left place) (returned_by depth_left place') (valued-near place place')
        (λ v u u' l l'. either (is_mark m.Semicolon v) (taken l l' refl) (valued-near place place' u u')) s s'

    return_stmt-near : Twins b 1 Level (return_stmt inner depth_left) (return_stmt inner depth_left)
    unfolding return_stmt
    return_stmt-near s s' = skipped (returned-near _ _ _ _)

    effect_stmt-near : Twins b 1 Level (effect_stmt inner depth_left) (effect_stmt inner depth_left)
    unfolding effect_stmt
    effect_stmt-near s s' = tall _ _ (effect-near depth_left s s') (λ _ _ _ s s'. plain (mark-near m.Semicolon s s') (λ _ _ _ _. yields refl))

    word_stmt-near : (f : Place → Stmt) → Twins b 1 Level (word_stmt inner depth_left f) (word_stmt inner depth_left f)
    unfolding word_stmt
    word_stmt-near f s s' = skipped (plain (mark-near m.Semicolon _ _) (λ _ _ _ _. yields refl))

    stmt_by-near : (kind : TokenKind) → Twins b 1 Level (stmt_by inner depth_left kind) (stmt_by inner depth_left kind)
    stmt_by-near (k.Mark m.LeftBrace) s s' = block-near s s'
    stmt_by-near k.If s s' = choice-near s s'
    stmt_by-near k.While s s' = loop-near s s'
    stmt_by-near k.For s s' = for_loop-near s s'
    stmt_by-near k.Break s s' = word_stmt-near t.break s s'
    stmt_by-near k.Continue s s' = word_stmt-near t.continue s s'
    stmt_by-near k.Return s s' = return_stmt-near s s'
    stmt_by-near _ s s' = effect_stmt-near s s'

  stmt-near : (n : ℕ) → Twins b 1 Level (stmt n) (stmt n)
  unfolding stmt
  stmt-near zero s s' = refuses
  stmt-near (suc depth_left) s s' =
      chosen (stmt_by (stmt depth_left) depth_left) (stmt_by (stmt depth_left) depth_left)
      (stmt_by-near (stmt depth_left) depth_left (stmt-near depth_left)) s s'

  function-near : Twins b 1 Level function function
  unfolding function
  function-near s s' = tall _ _ (result-near s s') (λ _ _ _ s s'. plain (identifier-near s s')
      (λ _ _ s s'. plain (mark-near m.LeftParenthesis s s') (λ _ _ s s'. tall _ _ (params-near s s')
      (λ _ _ _ s s'. plain (mark-near m.RightParenthesis s s') (λ _ _ s s'. tall _ _
      (braced-near (stmt (TREE_DEPTH - 2)) (TREE_DEPTH - 2) (stmt-near (TREE_DEPTH - 2)) s s') (λ _ _ _ _ _. yields refl))))))

  pub program-near : Twins b 1 Level program program
  unfolding program
  program-near s s' = tall _ _ (function-near s s') (λ x y z s s'. repeat-near is_more function function-near (x ∷ []) (y ∷ []) z s s')

-- Two texts of the same words, as long as at least b tokens are left in the first, are read alike up to there.
pub near_program : (b : ℕ) (s s' : List Token) → Same b s s' → Agree b (λ x y. x.1 ≡ y.1) (program s) (program s')
near_program b s s' e = (program-near s s').agrees e

pub program-shrinks : (s : List Token) → left_over (program s) ≤ length s
program-shrinks s = left-within 1 (length s) (program s) (program-near {b = 0} s s).within

pub never_memory : (s : List Token) → program s ≡ Err Memory → ⊥
never_memory s e = subst (Within 1 (length s)) e (program-near {b = 0} s s).within
