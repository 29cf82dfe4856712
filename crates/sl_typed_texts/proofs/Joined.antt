-- A typed text has the parts of a well typed one.
use Rattle.std.proofs.Common.{◌≡◌, ℕ, true, List}
use Rattle.sl_base.specs.declared.token.Token.{Token}
use Rattle.sl_syntax.specs.Tree.{Program}
use Rattle.sl_syntax.specs.Typed as t
use Rattle.sl_lexer.proofs.TokenOrder.{tokens-ascend}
use Rattle.sl_model.specs.Reports.Refusals.{IsTyped}
use Rattle.sl_model.specs.Typing.WellTyped.{WellTyped}
use Rattle.sl_well_typed.specs.Small.{has_small_literals}
use Rattle.sl_well_typed.proofs.Few.{typed_has_few}
use Rattle.sl_well_typed.proofs.Functions.{typed_has_types}
use Rattle.sl_well_typed.proofs.LiteralStatements.{typed_has_constants}
use Rattle.sl_well_typed.proofs.Main.{typed_has_main}
use Rattle.sl_one_asker.proofs.LexedNumbers.{text_has_small_numbers}
use Rattle.sl_one_asker.proofs.OneAsker.{typed_has_one_asker}
use Rattle.sl_one_asker.proofs.SmallLiterals.{program_has_small_literals}
use Rattle.sl_one_asker.proofs.TokensAt.{ascending}
use Rattle.sl_typed_order.proofs.NoAlias.{typed_has_no_alias}
use Rattle.sl_typed_order.proofs.Ordered.{typed_has_order}
use Rattle.sl_typed_numbers.proofs.Names.{names_stand}
use Rattle.sl_typed_numbers.proofs.NumberedStatements.{numbers_stand}
use Rattle.sl_typed_numbers.proofs.Sites.{sites_stand}
use Rattle.sl_typed_numbers.proofs.Variables.{variables_stand}

-- no literal of it is greater than a token may be
literals_are_small : (text : List ℕ) (tokens : List Token) (p : Program) (u : t.Typed) → IsTyped text tokens p u → has_small_literals p ≡ true
literals_are_small text tokens p u h =
    program_has_small_literals p tokens h.parsed.placed (text_has_small_numbers text tokens h.parsed.cut)

-- so it is well typed
pub typed_is_well_typed : (text : List ℕ) (tokens : List Token) (p : Program) (u : t.Typed) → IsTyped text tokens p u → WellTyped u
typed_is_well_typed text tokens p u h =
    let typed = h.typed_so in
    record {
      few = typed_has_few p u typed;
      main = typed_has_main p u typed;
      types = typed_has_types p u typed (literals_are_small text tokens p u h);
      no_alias = typed_has_no_alias p u typed;
      order = typed_has_order p u typed;
      sites = sites_stand p u typed;
      numbers = numbers_stand p u typed;
      names = names_stand p u typed;
      variables = variables_stand p u typed;
      constants = typed_has_constants p u typed;
      one_asker = typed_has_one_asker p u tokens h.parsed.placed (ascending tokens (tokens-ascend text tokens h.parsed.cut)) typed;
    }
