-- Trees of small programs with references and with iterators as parameters and results, worked by hand, as in TreeExamples.
use Rattle.std.proofs.Common.{refl, arith, rules, true, false, List, [], ◌∷◌, codes}
use Rattle.sl_base.specs.declared.form.Form.TheVariants as f
use Rattle.sl_base.specs.declared.mark.Mark.TheVariants as m
use Rattle.sl_base.specs.declared.word.Word.{Word}
use Rattle.sl_base.specs.declared.word.Word.TheVariants as w
use Rattle.sl_syntax.specs.declared.tree.element.Element.TheVariants as e
use Rattle.sl_syntax.specs.declared.tree.element.ElementType.TheVariants as y
use Rattle.sl_syntax.specs.declared.tree.function.Param.TheVariants as r
use Rattle.sl_syntax.specs.declared.tree.function.ResultType.TheVariants as z
use Rattle.sl_syntax.specs.Tree as t
use Rattle.sl_syntax.specs.Tree.{Program}
use Rattle.sl_syntax.proofs.TreeExamples.{at, name_at, variable, number, single, main_of, main_words, IsExample}

-- int main() { const int& r = v[0]; }: the function, its block, the declaration with its `;`, two, and the `[`
abbrev element : Program
element = main_of 16 (t.followed (t.declares (t.declares_reference
    (record { place = at 6; is_const = true; element = y.Int }) (name_at 9 (codes "r"))
    (t.index (variable 11 (codes "v")) (at 12) (number 13 0)))) t.no_more)

abbrev element_words : List Word
element_words = main_words (w.Key (codes "const") ∷ w.Key (codes "int") ∷ w.Mark m.And ∷ w.Name (codes "r") ∷ w.Mark m.Equal
    ∷ w.Name (codes "v") ∷ w.Mark m.LeftBracket ∷ w.Number 0 ∷ w.Mark m.RightBracket ∷ w.Mark m.Semicolon ∷ [])

element_is : IsExample element element_words 5
element_is = record { says = refl; deep = refl; placed = search rules; shaped = search (rules, arith) }

-- int main() { auto& r = v; }: the last node is the reference's type
abbrev named : Program
named = main_of 12 (t.followed (t.declares (t.declares_reference
    (record { place = at 6; is_const = false; element = y.Auto }) (name_at 8 (codes "r")) (variable 10 (codes "v")))) t.no_more)

abbrev named_words : List Word
named_words = main_words (w.Key (codes "auto") ∷ w.Mark m.And ∷ w.Name (codes "r") ∷ w.Mark m.Equal ∷ w.Name (codes "v") ∷ w.Mark m.Semicolon ∷ [])

named_is : IsExample named named_words 5
named_is = record { says = refl; deep = refl; placed = search rules; shaped = search (rules, arith) }

-- int main() { for (const auto& x : m) break; }: the function, its block, the `for`, and the reference's type or the `break`
abbrev each : Program
each = main_of 17 (single (t.range_for (at 6) (e.Reference (record { place = at 8; is_const = true; element = y.Auto }))
    (name_at 11 (codes "x")) (name_at 13 (codes "m")) (t.break (at 15))))

abbrev each_words : List Word
each_words = main_words (w.Key (codes "for") ∷ w.Mark m.LeftParenthesis ∷ w.Key (codes "const") ∷ w.Key (codes "auto") ∷ w.Mark m.And
    ∷ w.Name (codes "x") ∷ w.Mark m.Colon ∷ w.Name (codes "m") ∷ w.Mark m.RightParenthesis ∷ w.Key (codes "break") ∷ w.Mark m.Semicolon ∷ [])

each_is : IsExample each each_words 4
each_is = record { says = refl; deep = refl; placed = search rules; shaped = search (rules, arith) }

-- std::multiset<int>::iterator f(std::multimap<int, int>::iterator i) {}: the function, the iterator's type and its container's
abbrev iterators : Program
iterators = record {
  place = at 1;
  result = z.Iterator (record { container = record { place = at 1; form = f.MultiSet }; name = name_at 6 (codes "iterator") });
  name = name_at 7 (codes "f");
  params = r.Iterator (record { container = record { place = at 9; form = f.MultiMap }; name = name_at 16 (codes "iterator") })
      (name_at 17 (codes "i")) ∷ [];
  opens = at 19;
  items = t.no_more;
  closes = at 20;
} ∷ []

abbrev iterators_words : List Word
iterators_words =
    w.Lib (codes "multiset") ∷ w.Mark m.Less ∷ w.Key (codes "int") ∷ w.Mark m.Greater ∷ w.Mark m.ColonColon ∷ w.Name (codes "iterator")
    ∷ w.Name (codes "f") ∷ w.Mark m.LeftParenthesis ∷ w.Lib (codes "multimap") ∷ w.Mark m.Less ∷ w.Key (codes "int") ∷ w.Mark m.Comma
    ∷ w.Key (codes "int") ∷ w.Mark m.Greater ∷ w.Mark m.ColonColon ∷ w.Name (codes "iterator") ∷ w.Name (codes "i")
    ∷ w.Mark m.RightParenthesis ∷ w.Mark m.LeftBrace ∷ w.Mark m.RightBrace ∷ []

iterators_are : IsExample iterators iterators_words 3
iterators_are = record { says = refl; deep = refl; placed = search rules; shaped = search (rules, arith) }
