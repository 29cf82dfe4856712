use Rattle.std.proofs.Common.{inl, inr, sym, ap, ◌∙◌}
use Rattle.sl_base.proofs.Names.{Consumes-there, IsAtEnd-there, OthersKept-there, blames_file, left_in-there, left_in-told, listed, names_of-there}
use Rattle.sl_base.proofs.Names.{NoFault-there}
use Rattle.sl_base.proofs.outside.mem_files.MemFilesFiles.read.Goals as goal

pub returns-clause-bytes : goal.returns-clause-bytes
returns-clause-bytes c =
    Consumes-there _ _ _ _ _ _ (rw c.deref.ensures.value at c.in-Some.ensures) c.index_mut.ensures.value c.take_front.ensures.bytes

pub returns-clause-end : goal.returns-clause-end
returns-clause-end c zero =
    IsAtEnd-there _ _ _ _ _ (rw c.deref.ensures.value at c.in-Some.ensures) c.index_mut.ensures.value (c.take_front.ensures.end zero)

pub returns-clause-others : goal.returns-clause-others
returns-clause-others c =
    OthersKept-there _ _ _ _ _ (rw c.deref.ensures.value at c.in-Some.ensures) c.index_mut.ensures.value

pub returns-then-contains-clause-blames_alone : goal.returns-then-contains-clause-blames_alone
returns-then-contains-clause-blames_alone c =
    blames_file _ _ _ _ _ (ap (λ v. v.items) c.fail-then-contains.ensures.files) c.fail-then-contains.ensures.blame
    (rw c.deref.ensures.value at c.in-Some.ensures)

pub returns-clause-fails : goal.returns-clause-fails
returns-clause-fails c = (
  λ no. absurd cc,
  λ fails. elim fails [
    | inl contains ↦ sym c.if-contains.false ∙ (listed _ _ _ (rw c.deref-2.ensures.value at c.contains.ensures.cases)).1 contains
    | inr missing ↦ absurd (left_in-there _ _ _ (rw c.deref.ensures.value at c.in-Some.ensures) missing)
  ],
)

pub returns-clause-names : goal.returns-clause-names
returns-clause-names c = names_of-there _ _ _ _ c.index_mut.ensures.value

pub returns-clause-steady : goal.returns-clause-steady
returns-clause-steady c = NoFault-there _ _ _ _ _ _ c.index_mut.ensures.value

pub returns-clause-most : goal.returns-clause-most
returns-clause-most c x told =
    let left = left_in-told _ _ _ _ x (rw c.deref.ensures.value at c.in-Some.ensures) c.index_mut.ensures.value told in
    rw (sym left) c.take_front.ensures.most
