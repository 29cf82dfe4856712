-- Nodes of the typed text of a program, each of whose words has a place of its own, agree.
use Rattle.std.proofs.Common.{arith, ◌≡◌, true, List, [], sym, subst}
use Rattle.sl_base.specs.declared.token.Token.{Token}
use Rattle.sl_syntax.specs.Placed.{Placed}
use Rattle.sl_syntax.specs.Tree.{Program}
use Rattle.sl_syntax.specs.Typed as t
use Rattle.sl_syntax.specs.Written.{program_written}
use Rattle.sl_typing.specs.ProgramFaults.{start}
use Rattle.sl_typing.specs.Typing.{Typed, typed_program}
use Rattle.sl_model.specs.Typing.WellTyped.{has_one_asker}
use Rattle.sl_model.specs.Typing.WellTypedNodes.{nodes_of}
use Rattle.sl_one_asker.specs.OwnPlaces.{HaveOwnPlaces}
use Rattle.sl_one_asker.proofs.StatementAskers.{functions_asking}
use Rattle.sl_one_asker.proofs.TokensAt.{spelled, one_token}
use Rattle.sl_one_asker.proofs.Agreeing.{all_agree}

pub typed_has_one_asker : (p : Program) (u : t.Typed) (tokens : List Token) → Placed p tokens → HaveOwnPlaces tokens → Typed p u
    → has_one_asker u ≡ true
unfolding has_one_asker typed_program
typed_has_one_asker p u tokens placed own h =
    subst (λ (v : t.Typed). has_one_asker v ≡ true) (sym h.is_it)
    (all_agree (nodes_of (typed_program p))
    (λ q. let few = functions_asking q start p in
    let told = spelled q (program_written p) tokens [] placed in
    let one = one_token q tokens own in
    omega arith))
