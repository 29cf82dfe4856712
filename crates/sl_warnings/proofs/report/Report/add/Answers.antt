use Rattle.std.proofs.Common.{sym, ap, ◌∙◌}
use Rattle.sl_warnings.specs.Reports.{added}
use Rattle.sl_warnings.specs.Views.{warning_of}
use Rattle.sl_warnings.proofs.Entries.{added-found, kept-joined, between, is_new, added-put, kept-put, listed-put, kept-after, listed-after}
use Rattle.sl_warnings.proofs.report.Report.add.Goals as goal

pub invariant_of-self : goal.invariant_of-self
invariant_of-self c =
    let es = c.self.inside.warnings.entries in
    let found = added-found es c.args.warning c.spot-spot.result c.in-Ok.at c.self.invariant c.spot-spot.ensures c.in-Ok.ensures.bound
    c.in-Ok.ensures.ok in
    kept-joined es c.join_at.new.warnings.entries c.args.warning c.in-Ok.at c.self.invariant c.join_at.ensures.keys c.join_at.ensures.joined found

pub returns-in-Ok-clause-added : goal.returns-in-Ok-clause-added
returns-in-Ok-clause-added c =
    let es = c.self.inside.warnings.entries in
    let found = added-found es c.args.warning c.spot-spot.result c.in-Ok.at c.self.invariant c.spot-spot.ensures c.in-Ok.ensures.bound
    c.in-Ok.ensures.ok in
    c.join_at.ensures.joined ∙ sym found ∙ ap (added (warning_of c.args.warning)) c.self.view_is

pub put_at-requires-clause-new : goal.put_at-requires-clause-new
put_at-requires-clause-new c =
    is_new c.spot-spot.result _ c.in-Err.at
    (between c.self.inside.warnings.entries c.spot-spot.result c.in-Err.at c.self.invariant c.in-Err.ensures.position)

pub invariant_of-self-in-Err : goal.invariant_of-self-in-Err
invariant_of-self-in-Err c =
    let es = c.self.inside.warnings.entries in
    let put = added-put es c.args.warning c.spot-spot.result c.in-Err.at c.self.invariant c.spot-spot.ensures c.in-Err.ensures.bound
    c.in-Err.ensures.position in
    kept-after c.put_at.result es c.put_at.new.warnings.entries _ c.put_at.ensures.put c.put_at.ensures.kept c.self.invariant
    (kept-put es c.args.warning c.spot-spot.result c.in-Err.at c.self.invariant c.spot-spot.ensures put)

pub returns-in-Err-clause-added : goal.returns-in-Err-clause-added
returns-in-Err-clause-added c =
    let es = c.self.inside.warnings.entries in
    let put = added-put es c.args.warning c.spot-spot.result c.in-Err.at c.self.invariant c.spot-spot.ensures c.in-Err.ensures.bound
    c.in-Err.ensures.position in
    listed-after c.put_at.result c.put_at.new.warnings.entries _ _ c.put_at.ensures.put
    (listed-put es c.args.warning c.spot-spot.result c.in-Err.at put ∙ ap (added (warning_of c.args.warning)) c.self.view_is)
