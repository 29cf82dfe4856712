-- Totals over lists, and over the words of a tree where marks count for nothing.
use Rattle.std.proofs.Common.{arith, ◌≡◌, ℕ, ◌+◌, ◌≤◌, List, [], ◌∷◌, ◌++◌, Option, refl}
use Rattle.sl_base.specs.declared.mark.Mark.{Mark}
use Rattle.sl_base.specs.declared.mark.Mark.TheVariants as m
use Rattle.sl_base.specs.declared.word.Word.TheVariants as w
use Rattle.sl_syntax.specs.Tree as s
use Rattle.sl_syntax.specs.Tree.{Exprs, Effect, Cond, First, Function}
use Rattle.sl_syntax.specs.Written.{Written, mark, named, at, from_place, list_written, rest_written, effect_written, cond_written, first_written}
use Rattle.sl_syntax.specs.Written.{option_written, tested, items_written, params_written, result_written, function_written}

-- what these count for together
abbrev pub total : {X : Type 0} → (X → ℕ) → List X → ℕ
total f [] = 0
total f (x ∷ xs) = f x + total f xs

pub total-append : {X : Type 0} (f : X → ℕ) (xs ys : List X) → total f (xs ++ ys) ≡ total f xs + total f ys
total-append f [] ys = omega arith
total-append f (x ∷ xs) ys = let more = total-append f xs ys in omega arith

-- what stands before other things counts for no more than all of them
pub before : {X : Type 0} (f : X → ℕ) (xs ys : List X) → total f xs ≤ total f (xs ++ ys)
before f xs ys = let all = total-append f xs ys in omega arith

-- marks count for nothing
abbrev pub SkipsMarks : (Written → ℕ) → Type 0
SkipsMarks f = (x : Mark) → f (mark x) ≡ 0

-- so neither does a comma before expressions
pub total_rest : (f : Written → ℕ) → SkipsMarks f → (xs : Exprs) → total f (rest_written xs) ≡ total f (list_written xs)
total_rest f skips s.none = refl
total_rest f skips (s.with x xs) = let none = skips m.Comma in omega arith

-- a condition in parentheses, and what follows
pub total_tested : (f : Written → ℕ) → SkipsMarks f → (k : Cond) (rest : List Written)
    → total f (tested k rest) ≡ total f (cond_written k) + total f rest
total_tested f skips k rest =
    let open_mark = skips m.LeftParenthesis in
    let close_mark = skips m.RightParenthesis in
    let all = total-append f (cond_written k) (mark m.RightParenthesis ∷ rest) in
    omega arith

-- the head of a `for` behind its `(`, and what follows
pub total_for : (f : Written → ℕ) → SkipsMarks f → (first : Option First) (k : Option Cond) (last : Option Effect) (rest : List Written)
    → total f (option_written first_written first ++ mark m.Semicolon
    ∷ (option_written cond_written k ++ mark m.Semicolon ∷ (option_written effect_written last ++ mark m.RightParenthesis ∷ rest)))
    ≡ total f (option_written first_written first) + (total f (option_written cond_written k)
    + (total f (option_written effect_written last) + total f rest))
total_for f skips first k last rest =
    let inner = option_written effect_written last ++ mark m.RightParenthesis ∷ rest in
    let middle = option_written cond_written k ++ mark m.Semicolon ∷ inner in
    let semicolon = skips m.Semicolon in
    let close_mark = skips m.RightParenthesis in
    let all = total-append f (option_written first_written first) (mark m.Semicolon ∷ middle) in
    let some = total-append f (option_written cond_written k) (mark m.Semicolon ∷ inner) in
    let few = total-append f (option_written effect_written last) (mark m.RightParenthesis ∷ rest) in
    omega arith

-- the items of a function count for no more than the function
pub total_items : (f : Written → ℕ) (h : Function) → total f (items_written h.items) ≤ total f (function_written h)
total_items f h =
    let body = items_written h.items ++ at h.closes (w.Mark m.RightBrace) ∷ [] in
    let all = before f (items_written h.items) (at h.closes (w.Mark m.RightBrace) ∷ []) in
    let inner = total-append f (params_written h.params) (mark m.RightParenthesis ∷ at h.opens (w.Mark m.LeftBrace) ∷ body) in
    let outer = total-append f (from_place h.place (result_written h.result)) (named h.name ∷ mark m.LeftParenthesis
    ∷ (params_written h.params ++ mark m.RightParenthesis ∷ at h.opens (w.Mark m.LeftBrace) ∷ body)) in
    omega arith
