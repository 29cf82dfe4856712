-- The words of what reads and of what prints.
use Rattle.std.proofs.Common.{◌≡◌, List, [], ◌∷◌, flat_map, map, codes, ap}
use Rattle.sl_base.specs.declared.mark.Mark.TheVariants as m
use Rattle.sl_base.specs.declared.place.Place.{Place}
use Rattle.sl_base.specs.declared.word.Word.{Word}
use Rattle.sl_base.specs.declared.word.Word.TheVariants as w
use Rattle.sl_syntax.specs.declared.tree.effect.Out.{Out as OutCode}
use Rattle.sl_syntax.specs.declared.tree.effect.Read.{Read}
use Rattle.sl_syntax.specs.declared.tree.identifier.Identifier.{Identifier}
use Rattle.sl_syntax.specs.Tree.{Out}
use Rattle.sl_syntax.specs.TreeView.{out_of}
use Rattle.sl_syntax.specs.Written.{words_of, mark, named, read_written, print_written, out_written}
use Rattle.sl_syntax.proofs.WrittenLaws.{words_of-flat_map, words_of-flat_map-map}

-- `>> x`
abbrev pub variable_words : Identifier → List Word
variable_words x = w.Mark m.ShiftRight ∷ w.Name x.name ∷ []

pub read_words : (r : Read) → words_of (read_written r) ≡ w.Lib (codes "cin") ∷ flat_map variable_words r.variables
read_words r = ap (λ (l : List Word). w.Lib (codes "cin") ∷ l) (words_of-flat_map (λ (x : Identifier). mark m.ShiftRight ∷ named x ∷ []) r.variables)

-- `<< x`
abbrev pub item_words : OutCode → List Word
item_words x = w.Mark m.ShiftLeft ∷ words_of (out_written (out_of x))

pub print_words : (p : Place) (xs : List OutCode) → words_of (print_written p (map out_of xs)) ≡ w.Lib (codes "cout") ∷ flat_map item_words xs
print_words p xs = ap (λ (l : List Word). w.Lib (codes "cout") ∷ l) (words_of-flat_map-map (λ (x : Out). mark m.ShiftLeft ∷ out_written x) out_of xs)
