use Rattle.std.proofs.Common.{◌≡◌, ap, ◌∙◌, refl}
use Rattle.sl_syntax.specs.Tree as s
use Rattle.sl_typing.specs.Scopes.{type_of_name}
use Rattle.sl_typing.specs.TypeOf.{type_of_use}
use Rattle.sl_rules.proofs.LookLaws.{look-name}
use Rattle.sl_rules.proofs.nodes.leaf.name_look.Goals as goal

pub returns : goal.returns
returns c n =
    let g = c.args.scope.now in
    let x = c.args.name.now in
    let variable : c.type_of_name-variable.result ≡ type_of_name g x.name = rw (← c.as_slice-text.ensures.value) c.type_of_name-variable.ensures in
    look-name g n c.args.standing x _ _
    (c.fault_behind.ensures g n c.args.standing (s.name x) refl (c.name_checks.ensures g n x variable)
    ∙ rw (c.broken-unknown.ensures, c.is_unknown_variable.ensures, c.as_slice-text.ensures.value) refl)
    (c.type_of_use.ensures ∙ ap type_of_use variable)
