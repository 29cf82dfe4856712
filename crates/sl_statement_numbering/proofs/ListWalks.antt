-- Lists of a tree that the walk goes over.
use Rattle.std.proofs.Common.{◌≡◌, List, [], ◌∷◌, map, refl, ap}
use Rattle.sl_syntax.specs.declared.tree.effect.Out.{Out as OutCode}
use Rattle.sl_syntax.specs.declared.typed.effect.Printed.{Printed as PrintedCode}
use Rattle.sl_syntax.specs.TreeView.{out_of}
use Rattle.sl_syntax.specs.TypedView.{printed_of}
use Rattle.sl_syntax.specs.Typed as t
use Rattle.sl_typing.specs.Flow.{behind_out, behind_outs}
use Rattle.sl_typing.specs.StatementFaults.{out_faults, outs_faults}
use Rattle.sl_typing.specs.StatementNumbering.{typed_out, typed_outs}
use Rattle.sl_number_limits.proofs.Effects.{out_fits}
use Rattle.sl_number_limits.proofs.ValueFaults.{first_out, other_outs}
use Rattle.sl_statement_numbering.proofs.WalkLaws.{Walk, all_before}

-- the items of a print
abbrev pub out_walk : Walk OutCode PrintedCode t.Printed (List t.Printed)
out_walk = record {
  faults = λ g xs. outs_faults g (map out_of xs);
  behind = λ g xs. behind_outs g (map out_of xs);
  typed = λ g xs. typed_outs g (map out_of xs);
  one = λ g x. out_faults g (out_of x);
  behind_one = λ g x. behind_out g (out_of x);
  typed_one = λ g x. typed_out g (out_of x);
  seen = printed_of;
  nothing = [];
  before = λ v vs. v ∷ vs;
  behind_none = λ g. refl;
  typed_none = λ g. refl;
  first = λ g x xs k. first_out g (out_of x) (map out_of xs) k;
  others = λ g x xs k. other_outs g (out_of x) (map out_of xs) k;
  behind_more = λ g x xs. refl;
  typed_more = λ g x xs. refl;
  fits = λ g x xs f k. out_fits g (out_of x) f (first_out g (out_of x) (map out_of xs) k);
}

-- those that are typed
pub outs_seen : (ys : List PrintedCode) → map printed_of ys ≡ all_before out_walk ys []
unfolding all_before
outs_seen [] = refl
outs_seen (y ∷ ys) = ap (λ (vs : List t.Printed). printed_of y ∷ vs) (outs_seen ys)
