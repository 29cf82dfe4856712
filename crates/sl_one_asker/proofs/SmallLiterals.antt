-- No more literals of a program are greater than a token may be than words of it are.
use Rattle.std.proofs.Common.{arith, ◌≡◌, ℤ, ◌≤◌, true, false, List, [], ◌∷◌, ◌++◌, Option, Some, None}
use Rattle.std.specs.Prelude.{flat_map, codes}
use Rattle.sl_base.specs.declared.mark.Mark.TheVariants as m
use Rattle.sl_base.specs.declared.token.Token.{Token}
use Rattle.sl_base.specs.declared.word.Word.TheVariants as w
use Rattle.sl_syntax.specs.Placed.{Placed}
use Rattle.sl_syntax.specs.Tree as s
use Rattle.sl_syntax.specs.Tree.{Expr, Exprs, Initializer, Declaration, Out, Effect, Cond, First, Stmt, Item, Items, Function, Program}
use Rattle.sl_syntax.specs.Written.{Written, mark, plain, named, at, binary_mark, selector_mark, postfix_mark, assignment_mark, written}
use Rattle.sl_syntax.specs.Written.{list_written, rest_written, initializer_written, value_written, out_written, declaration_written, effect_written}
use Rattle.sl_syntax.specs.Written.{cond_written, first_written, option_written, tested, stmt_written, item_written, items_written, function_written}
use Rattle.sl_syntax.specs.Written.{program_written, reference_written, container_written, element_written}
use Rattle.sl_typing.specs.Literals.{literals, literals_of_all, literals_of_value, literals_of_initializer, literals_of_declaration, literals_of_out}
use Rattle.sl_typing.specs.Literals.{literals_of_effect, literals_of_cond, literals_of_first, literals_of_test, literals_of_last, literals_of_stmt}
use Rattle.sl_typing.specs.Literals.{literals_of_item, literals_of_items, literals_of_program}
use Rattle.sl_well_typed.specs.Small.{has_small_literals}
use Rattle.sl_one_asker.specs.SmallNumbers.{HaveSmallNumbers}
use Rattle.sl_one_asker.proofs.Totals.{total-append, before, total_rest, total_tested, total_for, total_items}
use Rattle.sl_one_asker.proofs.LargeNumbers.{large, large_among, large_in, large_words, large_words-from_place, no_mark_is_large}
use Rattle.sl_one_asker.proofs.LargeNumbers.{truth_is_small, none_is_large, all_small}

mutual
  unfolding literals literals_of_all

  -- an expression
  expression_large : (e : Expr) → large_among (literals e) ≤ large_words (written e)
  expression_large (s.number place n) = omega arith
  expression_large (s.truth place x) = let none = truth_is_small x in omega arith
  expression_large (s.name x) = omega arith
  expression_large (s.call f xs) =
      let most = list_large xs in let all = before large_in (list_written xs) (mark m.RightParenthesis ∷ []) in omega arith
  expression_large (s.library_call f xs) =
      let most = list_large xs in let all = before large_in (list_written xs) (mark m.RightParenthesis ∷ []) in omega arith
  expression_large (s.parentheses place x) =
      let most = expression_large x in let all = before large_in (written x) (mark m.RightParenthesis ∷ []) in omega arith
  expression_large (s.prefix op place x) = let most = expression_large x in omega arith
  expression_large (s.binary x op place y) =
      let both = total-append large (literals x) (literals y) in
      let left = expression_large x in
      let right = expression_large y in
      let all = total-append large_in (written x) (at place (w.Mark (binary_mark op)) ∷ written y) in
      omega arith
  expression_large (s.postfix x op place) =
      let most = expression_large x in let all = before large_in (written x) (at place (w.Mark (postfix_mark op)) ∷ []) in omega arith
  expression_large (s.index x place y) =
      let both = total-append large (literals x) (literals y) in
      let left = expression_large x in
      let right = expression_large y in
      let inner = before large_in (written y) (mark m.RightBracket ∷ []) in
      let all = total-append large_in (written x) (at place (w.Mark m.LeftBracket) ∷ (written y ++ mark m.RightBracket ∷ [])) in
      omega arith
  expression_large (s.member_call x f xs) =
      let both = total-append large (literals x) (literals_of_all xs) in
      let left = expression_large x in
      let right = list_large xs in
      let inner = before large_in (list_written xs) (mark m.RightParenthesis ∷ []) in
      let all = total-append large_in (written x)
      (mark m.Dot ∷ named f ∷ mark m.LeftParenthesis ∷ (list_written xs ++ mark m.RightParenthesis ∷ [])) in
      omega arith
  expression_large (s.member x selector place f) =
      let most = expression_large x in
      let all = before large_in (written x) (at place (w.Mark (selector_mark selector)) ∷ named f ∷ []) in
      omega arith

  -- expressions
  list_large : (xs : Exprs) → large_among (literals_of_all xs) ≤ large_words (list_written xs)
  list_large s.none = omega arith
  list_large (s.with x xs) =
      let both = total-append large (literals x) (literals_of_all xs) in
      let first = expression_large x in
      let others = list_large xs in
      let same = total_rest large_in no_mark_is_large xs in
      let all = total-append large_in (written x) (rest_written xs) in
      omega arith

-- the items of a print
outs_large : (xs : List Out) → large_among (flat_map literals_of_out xs) ≤ large_words (flat_map (λ x. mark m.ShiftLeft ∷ out_written x) xs)
outs_large [] = omega arith
outs_large (s.text place bytes ∷ xs) = let rest = outs_large xs in omega arith
outs_large (s.end_line place ∷ xs) = let rest = outs_large xs in omega arith
outs_large (s.value e ∷ xs) =
    let both = total-append large (literals e) (flat_map literals_of_out xs) in
    let first = expression_large e in
    let rest = outs_large xs in
    let all = total-append large_in (written e) (flat_map (λ x. mark m.ShiftLeft ∷ out_written x) xs) in
    omega arith

-- an effect, and a condition
effect_large : (x : Effect) → large_among (literals_of_effect x) ≤ large_words (effect_written x)
effect_large (s.reads r) = omega arith
effect_large (s.prints place xs) = let most = outs_large xs in omega arith
effect_large (s.evaluates e) = expression_large e
effect_large (s.assigns x op place y) =
    let both = total-append large (literals x) (literals y) in
    let left = expression_large x in
    let right = expression_large y in
    let all = total-append large_in (written x) (at place (w.Mark (assignment_mark op)) ∷ written y) in
    omega arith

cond_large : (k : Cond) → large_among (literals_of_cond k) ≤ large_words (cond_written k)
cond_large (s.tests_read r) = omega arith
cond_large (s.tests_no_read place r) = omega arith
cond_large (s.tests e) = expression_large e

-- a declaration
initializer_large : (made : Initializer) → large_among (literals_of_initializer made) ≤ large_words (initializer_written made)
initializer_large s.absent = omega arith
initializer_large (s.copies x) = omega arith
initializer_large (s.braces true xs) =
    let most = list_large xs in let all = before large_in (list_written xs) (mark m.RightBrace ∷ []) in omega arith
initializer_large (s.braces false xs) =
    let most = list_large xs in let all = before large_in (list_written xs) (mark m.RightBrace ∷ []) in omega arith
initializer_large (s.arguments xs) =
    let most = list_large xs in let all = before large_in (list_written xs) (mark m.RightParenthesis ∷ []) in omega arith

declaration_large : (d : Declaration) → large_among (literals_of_declaration d) ≤ large_words (declaration_written d)
declaration_large (s.declares_scalar place type x None) = omega arith
declaration_large (s.declares_scalar place type x (Some e)) = let most = expression_large e in omega arith
declaration_large (s.declares_auto place x e) = let most = expression_large e in omega arith
declaration_large (s.declares_reference head x e) =
    let most = expression_large e in
    let all = total-append large_in (reference_written head) (named x ∷ value_written e) in
    omega arith
declaration_large (s.declares_container ct x made) =
    let most = initializer_large made in
    let all = total-append large_in (container_written ct) (named x ∷ initializer_written made) in
    omega arith

-- what may be left out
value_large : (value : Option Expr) → large_among (literals_of_value value) ≤ large_words (option_written written value)
value_large None = omega arith
value_large (Some e) = expression_large e

first_large : (first : Option First) → large_among (literals_of_first first) ≤ large_words (option_written first_written first)
first_large None = omega arith
first_large (Some (s.first_scalar place type x e)) = let most = expression_large e in omega arith
first_large (Some (s.first_auto place x e)) = let most = expression_large e in omega arith
first_large (Some (s.first_effect x)) = effect_large x

test_large : (k : Option Cond) → large_among (literals_of_test k) ≤ large_words (option_written cond_written k)
test_large None = omega arith
test_large (Some k) = cond_large k

last_large : (x : Option Effect) → large_among (literals_of_last x) ≤ large_words (option_written effect_written x)
last_large None = omega arith
last_large (Some x) = effect_large x

-- the head of a `for`, and what follows
for_large : (first : Option First) (k : Option Cond) (last : Option Effect) (zs : List ℤ) (rest : List Written)
    → large_among zs ≤ large_words rest
    → large_among (literals_of_first first ++ (literals_of_test k ++ (literals_of_last last ++ zs)))
    ≤ large_words (option_written first_written first ++ mark m.Semicolon
    ∷ (option_written cond_written k ++ mark m.Semicolon ∷ (option_written effect_written last ++ mark m.RightParenthesis ∷ rest)))
for_large first k last zs rest most =
    let all = total_for large_in no_mark_is_large first k last rest in
    let both = total-append large (literals_of_first first) (literals_of_test k ++ (literals_of_last last ++ zs)) in
    let two = total-append large (literals_of_test k) (literals_of_last last ++ zs) in
    let one = total-append large (literals_of_last last) zs in
    let h1 = first_large first in
    let h2 = test_large k in
    let h3 = last_large last in
    omega arith

-- a condition in parentheses, and what follows
tested_large : (k : Cond) (zs : List ℤ) (rest : List Written) → large_among zs ≤ large_words rest
    → large_among (literals_of_cond k ++ zs) ≤ large_words (tested k rest)
tested_large k zs rest most =
    let both = total-append large (literals_of_cond k) zs in
    let tests = cond_large k in
    let all = total_tested large_in no_mark_is_large k rest in
    omega arith

mutual
  unfolding literals_of_stmt literals_of_item literals_of_items

  -- a statement
  stmt_large : (a : Stmt) → large_among (literals_of_stmt a) ≤ large_words (stmt_written a)
  stmt_large (s.block opens items closes) =
      let most = items_large items in
      let all = before large_in (items_written items) (at closes (w.Mark m.RightBrace) ∷ []) in
      omega arith
  stmt_large (s.choice place k a) =
      let most = tested_large k (literals_of_stmt a) (stmt_written a) (stmt_large a) in omega arith
  stmt_large (s.choice_else place k a b) =
      let both = total-append large (literals_of_stmt a) (literals_of_stmt b) in
      let first = stmt_large a in
      let others = stmt_large b in
      let all = total-append large_in (stmt_written a) (plain (w.Key (codes "else")) ∷ stmt_written b) in
      let most = tested_large k (literals_of_stmt a ++ literals_of_stmt b)
      (stmt_written a ++ plain (w.Key (codes "else")) ∷ stmt_written b) (omega arith) in
      omega arith
  stmt_large (s.while place k a) =
      let most = tested_large k (literals_of_stmt a) (stmt_written a) (stmt_large a) in omega arith
  stmt_large (s.for place first k last a) =
      let most = for_large first k last (literals_of_stmt a) (stmt_written a) (stmt_large a) in omega arith
  stmt_large (s.range_for place how x over a) =
      let most = stmt_large a in
      let all = total-append large_in (element_written how)
      (named x ∷ mark m.Colon ∷ named over ∷ mark m.RightParenthesis ∷ stmt_written a) in
      omega arith
  stmt_large (s.break place) = omega arith
  stmt_large (s.continue place) = omega arith
  stmt_large (s.gives_back place value) =
      let most = value_large value in let all = before large_in (option_written written value) (mark m.Semicolon ∷ []) in omega arith
  stmt_large (s.does place x) =
      let most = effect_large x in
      let all = before large_in (effect_written x) (mark m.Semicolon ∷ []) in
      let same = large_words-from_place place (effect_written x ++ mark m.Semicolon ∷ []) in
      omega arith

  -- an item of a block
  item_large : (i : Item) → large_among (literals_of_item i) ≤ large_words (item_written i)
  item_large (s.declares d) =
      let most = declaration_large d in let all = before large_in (declaration_written d) (mark m.Semicolon ∷ []) in omega arith
  item_large (s.states a) = stmt_large a

  -- items
  items_large : (items : Items) → large_among (literals_of_items items) ≤ large_words (items_written items)
  items_large s.no_more = omega arith
  items_large (s.followed i rest) =
      let both = total-append large (literals_of_item i) (literals_of_items rest) in
      let first = item_large i in
      let others = items_large rest in
      let all = total-append large_in (item_written i) (items_written rest) in
      omega arith

-- a function
function_large : (f : Function) → large_among (literals_of_items f.items) ≤ large_words (function_written f)
function_large f = let most = items_large f.items in let all = total_items large_in f in omega arith

-- a program
program_large : (p : Program) → large_among (literals_of_program p) ≤ large_words (program_written p)
program_large [] = omega arith
program_large (f ∷ fs) =
    let both = total-append large (literals_of_items f.items) (literals_of_program fs) in
    let first = function_large f in
    let others = program_large fs in
    let all = total-append large_in (function_written f) (program_written fs) in
    omega arith

-- so no literal of a program is, where no token is
pub program_has_small_literals : (p : Program) (tokens : List Token) → Placed p tokens → HaveSmallNumbers tokens → has_small_literals p ≡ true
program_has_small_literals p tokens placed small =
    let none = none_is_large (program_written p) tokens [] placed small in
    let most = program_large p in
    let no_literal : large_among (literals_of_program p) ≡ 0 = omega arith in
    all_small (literals_of_program p) no_literal
