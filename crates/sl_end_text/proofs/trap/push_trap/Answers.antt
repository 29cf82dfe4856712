use Rattle.std.proofs.Common.{codes, option_to_list}
use Rattle.sl_model.specs.Reports.Texts.{kind_text, place_text, who_text, sites_text}
use Rattle.sl_end_text.proofs.LineLaws.{regrouped}
use Rattle.sl_end_text.proofs.trap.push_trap.Goals as goal

pub returns : goal.returns
returns c =
    let t = c.args.trap.now in
    rw (
      c.in_ok-push_killer.ensures,
      c.in_ok-push_who.ensures,
      c.in_ok-extend_from_slice-5.ensures.extended,
      c.in_ok-extend_from_slice-4.ensures.extended,
      c.in_ok-extend_from_slice-3.ensures.extended,
      c.in_ok-extend_from_slice-2.ensures.extended,
      c.in_ok-extend_from_slice.ensures.extended,
      c.in_ok-push_place.ensures,
      c.as_bytes.ensures.value,
      c.kind_words.ensures,
      c.as_slice-call.ensures.value,
    ) (regrouped c.args.out.now (place_text t.place) (codes ": ") (kind_text t.kind) (codes " in ") t.call (codes ": ")
    (who_text t.call t.argument t.name) (sites_text c.args.sites.now (option_to_list t.killer)))
