-- The literals of a program, as numbers, in the order of the text.
--
-- Restates ISO/IEC 14882:2017, [lex.icon] and [lex.bool]: `true` is 1 and `false` is 0 as a number ([conv.prom]).
use Rattle.std.specs.Prelude.{List, [], ◌∷◌, ◌++◌, flat_map, ℤ, pos, Option, Some, None}
use Rattle.sl_syntax.specs.Tree as s
use Rattle.sl_syntax.specs.Tree.{Expr, Exprs, Initializer, Declaration, Out, Effect, Cond, First, Stmt, Item, Items, Function, Program}
use Rattle.sl_typing.specs.Numbering.{truth_number}

unfoldable mutual
  pub literals : Expr → List ℤ
  literals (s.number at n) = pos n ∷ []
  literals (s.truth at x) = truth_number x ∷ []
  literals (s.name x) = []
  literals (s.call f xs) = literals_of_all xs
  literals (s.library_call f xs) = literals_of_all xs
  literals (s.parentheses at x) = literals x
  literals (s.prefix op at x) = literals x
  literals (s.binary x op at y) = literals x ++ literals y
  literals (s.postfix x op at) = literals x
  literals (s.index x at y) = literals x ++ literals y
  literals (s.member_call x f xs) = literals x ++ literals_of_all xs
  literals (s.member x selector at f) = literals x

  -- those of expressions
  pub literals_of_all : Exprs → List ℤ
  literals_of_all s.none = []
  literals_of_all (s.with x xs) = literals x ++ literals_of_all xs

-- those of an initialiser, which may be missing
abbrev pub literals_of_value : Option Expr → List ℤ
literals_of_value None = []
literals_of_value (Some e) = literals e

-- those of what a container is made from
abbrev pub literals_of_initializer : Initializer → List ℤ
literals_of_initializer s.absent = []
literals_of_initializer (s.copies x) = []
literals_of_initializer (s.braces equal xs) = literals_of_all xs
literals_of_initializer (s.arguments xs) = literals_of_all xs

-- those of a declaration
abbrev pub literals_of_declaration : Declaration → List ℤ
literals_of_declaration (s.declares_scalar at type x value) = literals_of_value value
literals_of_declaration (s.declares_auto at x e) = literals e
literals_of_declaration (s.declares_reference head x e) = literals e
literals_of_declaration (s.declares_container ct x value) = literals_of_initializer value

-- those of an item of a print
abbrev pub literals_of_out : Out → List ℤ
literals_of_out (s.value e) = literals e
literals_of_out x = []

-- those of an effect
abbrev pub literals_of_effect : Effect → List ℤ
literals_of_effect (s.reads r) = []
literals_of_effect (s.prints at xs) = flat_map literals_of_out xs
literals_of_effect (s.evaluates e) = literals e
literals_of_effect (s.assigns x op at y) = literals x ++ literals y

-- those of a condition
abbrev pub literals_of_cond : Cond → List ℤ
literals_of_cond (s.tests e) = literals e
literals_of_cond k = []

-- those of the first part of a `for`
abbrev pub literals_of_first : Option First → List ℤ
literals_of_first None = []
literals_of_first (Some (s.first_scalar at type x e)) = literals e
literals_of_first (Some (s.first_auto at x e)) = literals e
literals_of_first (Some (s.first_effect w)) = literals_of_effect w

-- those of its condition
abbrev pub literals_of_test : Option Cond → List ℤ
literals_of_test None = []
literals_of_test (Some k) = literals_of_cond k

-- those of its last part
abbrev pub literals_of_last : Option Effect → List ℤ
literals_of_last None = []
literals_of_last (Some w) = literals_of_effect w

unfoldable mutual
  -- those of a statement
  pub literals_of_stmt : Stmt → List ℤ
  literals_of_stmt (s.block at items close) = literals_of_items items
  literals_of_stmt (s.choice at k a) = literals_of_cond k ++ literals_of_stmt a
  literals_of_stmt (s.choice_else at k a b) = literals_of_cond k ++ (literals_of_stmt a ++ literals_of_stmt b)
  literals_of_stmt (s.while at k a) = literals_of_cond k ++ literals_of_stmt a
  literals_of_stmt (s.for at first k last a) = literals_of_first first ++ (literals_of_test k ++ (literals_of_last last ++ literals_of_stmt a))
  literals_of_stmt (s.range_for at how x over a) = literals_of_stmt a
  literals_of_stmt (s.break at) = []
  literals_of_stmt (s.continue at) = []
  literals_of_stmt (s.gives_back at value) = literals_of_value value
  literals_of_stmt (s.does at w) = literals_of_effect w

  -- those of an item of a block
  pub literals_of_item : Item → List ℤ
  literals_of_item (s.declares d) = literals_of_declaration d
  literals_of_item (s.states a) = literals_of_stmt a

  -- those of items
  pub literals_of_items : Items → List ℤ
  literals_of_items s.no_more = []
  literals_of_items (s.followed i rest) = literals_of_item i ++ literals_of_items rest

-- the literals of a program
abbrev pub literals_of_program : Program → List ℤ
literals_of_program p = flat_map (λ (f : Function). literals_of_items f.items) p
