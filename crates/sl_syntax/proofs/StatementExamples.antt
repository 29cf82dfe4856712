-- Trees of small programs with members, reads, loops, a print and containers, worked by hand. A program stands in one line, each token in the
-- column of its number.
use Rattle.std.proofs.Common.{◌≡◌, ℕ, refl, arith, rules, true, false, List, [], ◌∷◌, Some, None, codes}
use Rattle.sl_base.specs.declared.form.Form.{Form}
use Rattle.sl_base.specs.declared.form.Form.TheVariants as f
use Rattle.sl_base.specs.declared.mark.Mark.TheVariants as m
use Rattle.sl_base.specs.declared.scalar.Scalar.TheVariants as c
use Rattle.sl_base.specs.declared.word.Word.{Word}
use Rattle.sl_base.specs.declared.word.Word.TheVariants as w
use Rattle.sl_syntax.specs.declared.operator.BinaryOperator.TheVariants as b
use Rattle.sl_syntax.specs.declared.operator.Comparison.TheVariants as l
use Rattle.sl_syntax.specs.declared.operator.PrefixOperator.TheVariants as p
use Rattle.sl_syntax.specs.declared.operator.Selector.TheVariants as s
use Rattle.sl_syntax.specs.declared.tree.element.Element.TheVariants as e
use Rattle.sl_syntax.specs.declared.tree.element.ElementType.TheVariants as y
use Rattle.sl_syntax.specs.Tree as t
use Rattle.sl_syntax.specs.Tree.{Expr, Initializer, Item, Program}
use Rattle.sl_syntax.specs.Written as v
use Rattle.sl_syntax.specs.Written.{written}
use Rattle.sl_syntax.proofs.TreeExamples.{at, name_at, variable, number, one, two, evaluated, single, main_of, main_words, IsExample}

-- int main() { it->first; p.second; }
abbrev arrow : Expr
arrow = t.member (variable 6 (codes "it")) s.Arrow (at 7) (name_at 8 (codes "first"))

abbrev dot : Expr
dot = t.member (variable 10 (codes "p")) s.Dot (at 11) (name_at 12 (codes "second"))

abbrev members : Program
members = main_of 14 (t.followed (t.states (evaluated 6 arrow)) (single (evaluated 10 dot)))

abbrev members_words : List Word
members_words = main_words (w.Name (codes "it") ∷ w.Mark m.Arrow ∷ w.Name (codes "first") ∷ w.Mark m.Semicolon
    ∷ w.Name (codes "p") ∷ w.Mark m.Dot ∷ w.Name (codes "second") ∷ w.Mark m.Semicolon ∷ [])

members_are : IsExample members members_words 4
members_are = record { says = refl; deep = refl; placed = search rules; shaped = search (rules, arith) }

-- the node's place is the mark's
arrow_told : written arrow ≡ v.named (name_at 6 (codes "it")) ∷ v.at (at 7) (w.Mark m.Arrow) ∷ v.named (name_at 8 (codes "first")) ∷ []
arrow_told = refl

dot_told : written dot ≡ v.named (name_at 10 (codes "p")) ∷ v.at (at 11) (w.Mark m.Dot) ∷ v.named (name_at 12 (codes "second")) ∷ []
dot_told = refl

-- int main() { while (!(std::cin >> x)) break; }: the function, its block, the `while`, the `!(..)` and the read
abbrev unread : Program
unread = main_of 17 (single (t.while (at 6)
    (t.tests_no_read (at 8) (record { place = at 10; variables = name_at 12 (codes "x") ∷ [] })) (t.break (at 15))))

abbrev unread_words : List Word
unread_words = main_words (w.Key (codes "while") ∷ w.Mark m.LeftParenthesis ∷ w.Mark m.Not ∷ w.Mark m.LeftParenthesis ∷ w.Lib (codes "cin")
    ∷ w.Mark m.ShiftRight ∷ w.Name (codes "x") ∷ w.Mark m.RightParenthesis ∷ w.Mark m.RightParenthesis ∷ w.Key (codes "break") ∷ w.Mark m.Semicolon
    ∷ [])

unread_is : IsExample unread unread_words 5
unread_is = record { says = refl; deep = refl; placed = search rules; shaped = search (rules, arith) }

-- int main() { for (int i = 0; i < 9; ++i) f(i); }: the function, its block, the `for`, the effect with its `;` and the call
abbrev counted : Program
counted = main_of 25 (single (t.for (at 6)
    (Some (t.first_scalar (at 8) c.Int (name_at 9 (codes "i")) (number 11 0)))
    (Some (t.tests (t.binary (variable 13 (codes "i")) (b.Comparison l.Less) (at 14) (number 15 9))))
    (Some (t.evaluates (t.prefix p.Increment (at 17) (variable 18 (codes "i")))))
    (evaluated 20 (t.call (name_at 20 (codes "f")) (one (variable 22 (codes "i")))))))

abbrev counted_words : List Word
counted_words = main_words (w.Key (codes "for") ∷ w.Mark m.LeftParenthesis
    ∷ w.Key (codes "int") ∷ w.Name (codes "i") ∷ w.Mark m.Equal ∷ w.Number 0 ∷ w.Mark m.Semicolon
    ∷ w.Name (codes "i") ∷ w.Mark m.Less ∷ w.Number 9 ∷ w.Mark m.Semicolon ∷ w.Mark m.PlusPlus ∷ w.Name (codes "i") ∷ w.Mark m.RightParenthesis
    ∷ w.Name (codes "f") ∷ w.Mark m.LeftParenthesis ∷ w.Name (codes "i") ∷ w.Mark m.RightParenthesis ∷ w.Mark m.Semicolon ∷ [])

counted_is : IsExample counted counted_words 5
counted_is = record { says = refl; deep = refl; placed = search rules; shaped = search (rules, arith) }

-- int main() { for (;;) break; }
abbrev endless : Program
endless = main_of 13 (single (t.for (at 6) None None None (t.break (at 11))))

abbrev endless_words : List Word
endless_words = main_words (w.Key (codes "for") ∷ w.Mark m.LeftParenthesis ∷ w.Mark m.Semicolon ∷ w.Mark m.Semicolon ∷ w.Mark m.RightParenthesis
    ∷ w.Key (codes "break") ∷ w.Mark m.Semicolon ∷ [])

endless_is : IsExample endless endless_words 4
endless_is = record { says = refl; deep = refl; placed = search rules; shaped = search (rules, arith) }

-- int main() { for (auto x : v) continue; }
abbrev ranged : Program
ranged = main_of 15 (single (t.range_for (at 6) (e.Value y.Auto) (name_at 9 (codes "x")) (name_at 11 (codes "v")) (t.continue (at 13))))

abbrev ranged_words : List Word
ranged_words = main_words (w.Key (codes "for") ∷ w.Mark m.LeftParenthesis ∷ w.Key (codes "auto") ∷ w.Name (codes "x") ∷ w.Mark m.Colon
    ∷ w.Name (codes "v") ∷ w.Mark m.RightParenthesis ∷ w.Key (codes "continue") ∷ w.Mark m.Semicolon ∷ [])

ranged_is : IsExample ranged ranged_words 4
ranged_is = record { says = refl; deep = refl; placed = search rules; shaped = search (rules, arith) }

-- int main() { std::cout << 1 << "a" << std::endl; }
abbrev printed : Program
printed = main_of 14 (single (t.does (at 6) (t.prints (at 6) (t.value (number 8 1) ∷ t.text (at 10) (codes "a") ∷ t.end_line (at 12) ∷ []))))

abbrev printed_words : List Word
printed_words = main_words (w.Lib (codes "cout") ∷ w.Mark m.ShiftLeft ∷ w.Number 1 ∷ w.Mark m.ShiftLeft ∷ w.Text (codes "a") ∷ w.Mark m.ShiftLeft
    ∷ w.Lib (codes "endl") ∷ w.Mark m.Semicolon ∷ [])

printed_is : IsExample printed printed_words 4
printed_is = record { says = refl; deep = refl; placed = search rules; shaped = search (rules, arith) }

-- the declaration of a container, at its first token, with the column of its name
abbrev container : ℕ → Form → ℕ → List ℕ → Initializer → Item
container column form column_of_name x i = t.declares (t.declares_container (record { place = at column; form = form }) (name_at column_of_name x) i)

-- int main() { std::vector<int> v = w; std::list<int> l = {1, 2}; std::deque<int> d{1}; std::map<int, int> m(3); }: the function, its block, the
-- declaration with its `;`, two, and the container's type
abbrev containers : Program
containers = main_of 46 (
    t.followed (container 6 f.Vector 10 (codes "v") (t.copies (name_at 12 (codes "w")))) (
    t.followed (container 14 f.List 18 (codes "l") (t.braces true (two (number 21 1) (number 23 2)))) (
    t.followed (container 26 f.Deque 30 (codes "d") (t.braces false (one (number 32 1)))) (
    t.followed (container 35 f.Map 41 (codes "m") (t.arguments (one (number 43 3))))
    t.no_more))))

abbrev containers_words : List Word
containers_words = main_words (
    w.Lib (codes "vector") ∷ w.Mark m.Less ∷ w.Key (codes "int") ∷ w.Mark m.Greater ∷ w.Name (codes "v")
    ∷ w.Mark m.Equal ∷ w.Name (codes "w") ∷ w.Mark m.Semicolon
    ∷ w.Lib (codes "list") ∷ w.Mark m.Less ∷ w.Key (codes "int") ∷ w.Mark m.Greater ∷ w.Name (codes "l") ∷ w.Mark m.Equal
    ∷ w.Mark m.LeftBrace ∷ w.Number 1 ∷ w.Mark m.Comma ∷ w.Number 2 ∷ w.Mark m.RightBrace ∷ w.Mark m.Semicolon
    ∷ w.Lib (codes "deque") ∷ w.Mark m.Less ∷ w.Key (codes "int") ∷ w.Mark m.Greater ∷ w.Name (codes "d")
    ∷ w.Mark m.LeftBrace ∷ w.Number 1 ∷ w.Mark m.RightBrace ∷ w.Mark m.Semicolon
    ∷ w.Lib (codes "map") ∷ w.Mark m.Less ∷ w.Key (codes "int") ∷ w.Mark m.Comma ∷ w.Key (codes "int") ∷ w.Mark m.Greater ∷ w.Name (codes "m")
    ∷ w.Mark m.LeftParenthesis ∷ w.Number 3 ∷ w.Mark m.RightParenthesis ∷ w.Mark m.Semicolon ∷ [])

containers_are : IsExample containers containers_words 5
containers_are = record { says = refl; deep = refl; placed = search rules; shaped = search (rules, arith) }
