-- Trees of small programs, with their words and their depth, worked by hand. A program stands in one line, each token in the column of its
-- number.
use Rattle.std.proofs.Common.{◌≡◌, refl, sym, ap, ℕ, ◌+◌, arith, rules, List, [], ◌∷◌, ◌++◌, length, Some, codes}
use Rattle.std.proofs.lemmas.Bool.{false≢true}
use Rattle.sl_base.specs.declared.form.Form.TheVariants as f
use Rattle.sl_base.specs.declared.mark.Mark.TheVariants as m
use Rattle.sl_base.specs.declared.place.Place.{Place}
use Rattle.sl_base.specs.declared.scalar.Scalar.TheVariants as c
use Rattle.sl_base.specs.declared.token.Token.{Token}
use Rattle.sl_base.specs.declared.word.Word.{Word}
use Rattle.sl_base.specs.declared.word.Word.TheVariants as w
use Rattle.sl_syntax.specs.declared.operator.Arithmetic.TheVariants as a
use Rattle.sl_syntax.specs.declared.operator.BinaryOperator.TheVariants as b
use Rattle.sl_syntax.specs.declared.operator.Comparison.TheVariants as l
use Rattle.sl_syntax.specs.declared.operator.PrefixOperator.TheVariants as p
use Rattle.sl_syntax.specs.declared.tree.function.Param.TheVariants as r
use Rattle.sl_syntax.specs.declared.tree.function.ResultType.TheVariants as z
use Rattle.sl_syntax.specs.declared.tree.identifier.Identifier.{Identifier}
use Rattle.sl_syntax.specs.Depth.{depth}
use Rattle.sl_syntax.specs.Placed.{Placed}
use Rattle.sl_syntax.specs.Shaped.{IsExpr, IsStmt, Shaped}
use Rattle.sl_syntax.specs.Tree as t
use Rattle.sl_syntax.specs.Tree.{Expr, Exprs, Stmt, Items, Program}
use Rattle.sl_syntax.specs.Written.{words}

abbrev pub at : ℕ → Place
at column = record { line = 1; col = column }

-- tokens of one line, from a column on
abbrev pub in_line : ℕ → List Word → List Token
in_line column [] = []
in_line column (x ∷ xs) = record { word = x; offset = 0; place = at column } ∷ in_line (column + 1) xs

abbrev pub name_at : ℕ → List ℕ → Identifier
name_at column x = record { name = x; place = at column }

-- the expression of a name, and of a number
abbrev pub variable : ℕ → List ℕ → Expr
variable column x = t.name (name_at column x)

abbrev pub number : ℕ → ℕ → Expr
number column n = t.number (at column) n

-- expressions in their order
abbrev pub one : Expr → Exprs
one x = t.with x t.none

abbrev pub two : Expr → Expr → Exprs
two x y = t.with x (t.with y t.none)

-- an expression with its `;`, and the only item of a block
abbrev pub evaluated : ℕ → Expr → Stmt
evaluated column x = t.does (at column) (t.evaluates x)

abbrev pub single : Stmt → Items
single x = t.followed (t.states x) t.no_more

-- int main() { .. }, its last token the one of this number
abbrev pub main_of : ℕ → Items → Program
main_of last items = record {
  place = at 1;
  result = z.Scalar c.Int;
  name = name_at 2 (codes "main");
  params = [];
  opens = at 5;
  items = items;
  closes = at last;
} ∷ []

abbrev pub main_words : List Word → List Word
main_words body =
    w.Key (codes "int") ∷ w.Name (codes "main") ∷ w.Mark m.LeftParenthesis ∷ w.Mark m.RightParenthesis ∷ w.Mark m.LeftBrace
    ∷ (body ++ w.Mark m.RightBrace ∷ [])

-- What is said of a program: its words, its depth, where its tokens stand, and that it follows the grammar.
pub record IsExample (p : Program) (ws : List Word) (nodes : ℕ) : Type 0 where
  pub says : words p ≡ ws
  pub deep : depth p ≡ nodes
  pub placed : Placed p (in_line 1 ws)
  pub shaped : Shaped p

-- int main() {}: the function and its block
abbrev empty : Program
empty = main_of 6 t.no_more

empty_is : IsExample empty (main_words []) 2
empty_is = record { says = refl; deep = refl; placed = search rules; shaped = search (rules, arith) }

-- int main() { int x = 1; }: and the declaration with its `;`, two
abbrev declared : Program
declared = main_of 11 (t.followed (t.declares (t.declares_scalar (at 6) c.Int (name_at 7 (codes "x")) (Some (number 9 1)))) t.no_more)

abbrev declared_words : List Word
declared_words = main_words (w.Key (codes "int") ∷ w.Name (codes "x") ∷ w.Mark m.Equal ∷ w.Number 1 ∷ w.Mark m.Semicolon ∷ [])

declared_is : IsExample declared declared_words 4
declared_is = record { says = refl; deep = refl; placed = search rules; shaped = search (rules, arith) }

-- int main() { int x = 1 + 2 + 3; }: and the two operators
abbrev sum : Program
sum = main_of 15 (t.followed (t.declares (t.declares_scalar (at 6) c.Int (name_at 7 (codes "x"))
    (Some (t.binary (t.binary (number 9 1) (b.Arithmetic a.Add) (at 10) (number 11 2)) (b.Arithmetic a.Add) (at 12) (number 13 3))))) t.no_more)

abbrev sum_words : List Word
sum_words = main_words (w.Key (codes "int") ∷ w.Name (codes "x") ∷ w.Mark m.Equal ∷ w.Number 1 ∷ w.Mark m.Plus ∷ w.Number 2 ∷ w.Mark m.Plus
    ∷ w.Number 3 ∷ w.Mark m.Semicolon ∷ [])

sum_is : IsExample sum sum_words 6
sum_is = record { says = refl; deep = refl; placed = search rules; shaped = search (rules, arith) }

-- int main() { if (1) {} }: the function, its block, the `if` and the block in it
abbrev chosen : Program
chosen = main_of 12 (single (t.choice (at 6) (t.tests (number 8 1)) (t.block (at 10) t.no_more (at 11))))

abbrev chosen_words : List Word
chosen_words = main_words (w.Key (codes "if") ∷ w.Mark m.LeftParenthesis ∷ w.Number 1 ∷ w.Mark m.RightParenthesis
    ∷ w.Mark m.LeftBrace ∷ w.Mark m.RightBrace ∷ [])

chosen_is : IsExample chosen chosen_words 4
chosen_is = record { says = refl; deep = refl; placed = search rules; shaped = search (rules, arith) }

-- int main() { f(1, -2); }: the function, its block, the effect with its `;`, the call, the list and the sign
abbrev called : Program
called = main_of 14 (single (evaluated 6 (t.call (name_at 6 (codes "f")) (two (number 8 1) (t.prefix p.Negate (at 10) (number 11 2))))))

abbrev called_words : List Word
called_words = main_words (w.Name (codes "f") ∷ w.Mark m.LeftParenthesis ∷ w.Number 1 ∷ w.Mark m.Comma ∷ w.Mark m.Minus ∷ w.Number 2
    ∷ w.Mark m.RightParenthesis ∷ w.Mark m.Semicolon ∷ [])

called_is : IsExample called called_words 6
called_is = record { says = refl; deep = refl; placed = search rules; shaped = search (rules, arith) }

-- void f(std::vector<int>& v) {}: the function, the parameter and the container's type
abbrev handed : Program
handed = record {
  place = at 1;
  result = z.Void;
  name = name_at 2 (codes "f");
  params = r.Container (record { place = at 4; form = f.Vector }) (name_at 9 (codes "v")) ∷ [];
  opens = at 11;
  items = t.no_more;
  closes = at 12;
} ∷ []

abbrev handed_words : List Word
handed_words =
    w.Key (codes "void") ∷ w.Name (codes "f") ∷ w.Mark m.LeftParenthesis ∷ w.Lib (codes "vector") ∷ w.Mark m.Less ∷ w.Key (codes "int")
    ∷ w.Mark m.Greater ∷ w.Mark m.And ∷ w.Name (codes "v") ∷ w.Mark m.RightParenthesis ∷ w.Mark m.LeftBrace ∷ w.Mark m.RightBrace ∷ []

handed_is : IsExample handed handed_words 3
handed_is = record { says = refl; deep = refl; placed = search rules; shaped = search (rules, arith) }

-- int main() { a < b < c; }: the two operators, grouped to the left
abbrev compared : Program
compared = main_of 12 (single (evaluated 6
    (t.binary (t.binary (variable 6 (codes "a")) (b.Comparison l.Less) (at 7) (variable 8 (codes "b")))
    (b.Comparison l.Less) (at 9) (variable 10 (codes "c")))))

abbrev compared_words : List Word
compared_words = main_words (w.Name (codes "a") ∷ w.Mark m.Less ∷ w.Name (codes "b") ∷ w.Mark m.Less ∷ w.Name (codes "c") ∷ w.Mark m.Semicolon ∷ [])

compared_is : IsExample compared compared_words 5
compared_is = record { says = refl; deep = refl; placed = search rules; shaped = search (rules, arith) }

-- the same words, grouped to the right, which the grammar doesn't
abbrev to_the_right : Expr
to_the_right =
    t.binary (variable 6 (codes "a")) (b.Comparison l.Less) (at 7)
    (t.binary (variable 8 (codes "b")) (b.Comparison l.Less) (at 9) (variable 10 (codes "c")))

to_the_right_words : words (main_of 12 (single (evaluated 6 to_the_right))) ≡ compared_words
to_the_right_words = refl

to_the_right_is_none : IsExpr to_the_right → ⊥
to_the_right_is_none h = absurd (omega (arith, h.1))

-- int main() { if (1) if (2) f(); else g(); }: the `else` belongs to the inner `if`
abbrev calls : ℕ → List ℕ → Stmt
calls column x = evaluated column (t.call (name_at column x) t.none)

abbrev inner_else : Stmt
inner_else = t.choice (at 6) (t.tests (number 8 1)) (t.choice_else (at 10) (t.tests (number 12 2)) (calls 14 (codes "f")) (calls 19 (codes "g")))

abbrev else_words : List Word
else_words = main_words (w.Key (codes "if") ∷ w.Mark m.LeftParenthesis ∷ w.Number 1 ∷ w.Mark m.RightParenthesis
    ∷ w.Key (codes "if") ∷ w.Mark m.LeftParenthesis ∷ w.Number 2 ∷ w.Mark m.RightParenthesis
    ∷ w.Name (codes "f") ∷ w.Mark m.LeftParenthesis ∷ w.Mark m.RightParenthesis ∷ w.Mark m.Semicolon
    ∷ w.Key (codes "else") ∷ w.Name (codes "g") ∷ w.Mark m.LeftParenthesis ∷ w.Mark m.RightParenthesis ∷ w.Mark m.Semicolon ∷ [])

inner_else_is : IsExample (main_of 23 (single inner_else)) else_words 6
inner_else_is = record { says = refl; deep = refl; placed = search rules; shaped = search (rules, arith) }

-- the same words, the `else` with the outer `if`, against the grammar
abbrev outer_else : Stmt
outer_else = t.choice_else (at 6) (t.tests (number 8 1)) (t.choice (at 10) (t.tests (number 12 2)) (calls 14 (codes "f"))) (calls 19 (codes "g"))

outer_else_words : words (main_of 23 (single outer_else)) ≡ else_words
outer_else_words = refl

outer_else_is_none : IsStmt outer_else → ⊥
outer_else_is_none h = false≢true (sym h.2)

-- int main() { -(1 + 2); }: the sign, the parentheses and the sum
abbrev one_and_two : Expr
one_and_two = t.binary (number 8 1) (b.Arithmetic a.Add) (at 9) (number 10 2)

abbrev negated : Program
negated = main_of 13 (single (evaluated 6 (t.prefix p.Negate (at 6) (t.parentheses (at 7) one_and_two))))

abbrev negated_words : List Word
negated_words = main_words (w.Mark m.Minus ∷ w.Mark m.LeftParenthesis ∷ w.Number 1 ∷ w.Mark m.Plus ∷ w.Number 2
    ∷ w.Mark m.RightParenthesis ∷ w.Mark m.Semicolon ∷ [])

negated_is : IsExample negated negated_words 6
negated_is = record { says = refl; deep = refl; placed = search rules; shaped = search (rules, arith) }

-- without the node of the parentheses: other words, and no tree of the grammar
abbrev unguarded : Expr
unguarded = t.prefix p.Negate (at 6) one_and_two

unguarded_words : words (main_of 13 (single (evaluated 6 unguarded)))
    ≡ main_words (w.Mark m.Minus ∷ w.Number 1 ∷ w.Mark m.Plus ∷ w.Number 2 ∷ w.Mark m.Semicolon ∷ [])
unguarded_words = refl

other_words : words (main_of 13 (single (evaluated 6 unguarded))) ≡ negated_words → ⊥
other_words e = let same : ◌≡◌ {A = ℕ} 11 13 = ap length e in absurd cc

unguarded_is_none : IsExpr unguarded → ⊥
unguarded_is_none h = absurd (omega (arith, h.0))
