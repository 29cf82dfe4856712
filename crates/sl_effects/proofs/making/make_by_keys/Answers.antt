use Rattle.std.proofs.Common.{◌≡◌, ℕ, ◌+◌, List, [], length, ap, sym, ◌∙◌, arith}
use Rattle.sl_slots.specs.declared.container.Element.{Element}
use Rattle.sl_slots.specs.Stored.{elements_at}
use Rattle.sl_effects.proofs.MakeLaws.{elements_made, made_carries}
use Rattle.sl_effects.proofs.Stores.{grew_made, grew_then}
use Rattle.sl_effects.proofs.making.make_by_keys.Goals as goal

pub insert_all-requires : goal.insert_all-requires
insert_all-requires c =
    let old = c.args.store.now in
    let last : c.len-container.result ≡ length old.containers.items = c.len-container.ensures ∙ old.containers.ok.0 in
    let more : length c.make.new.self.containers.items ≡ length old.containers.items + 1 =
    (grew_made old c.make.new.self c.args.form c.args.room c.new.result.items c.in_ok-make.ensures.made).containers in
    let none : length (elements_at c.make.new.self c.len-container.result) ≡ 0 =
    ap (λ (j : ℕ). length (elements_at c.make.new.self j)) last
    ∙ ap (λ (l : List Element). length l)
    (elements_made old c.make.new.self c.args.form c.args.room c.new.result.items c.in_ok-make.ensures.made ∙ c.new.ensures.items) in
    let r = c.requires in record { there = omega arith; few = omega arith }

pub returns : goal.returns
returns c =
    let old = c.args.store.now in
    let last : c.len-container.result ≡ length old.containers.items = c.len-container.ensures ∙ old.containers.ok.0 in record {
      grew = grew_then old c.make.new.self c.insert_all.new.store 1 0
          (grew_made old c.make.new.self c.args.form c.args.room c.new.result.items c.in_ok-make.ensures.made) c.in_ok-insert_all.ensures.grew;
      shows = λ s ps vs xs class keyed fine h.
          made_carries old c.make.new.self c.insert_all.new.store c.args.picks.now _ c.insert_all.new.picks c.args.form c.args.class
          c.args.room c.args.taken c.len-container.result c.args.site s ps vs xs c.args.elements.now
          (λ t keyed' fine' meets. c.in_ok-insert_all.ensures.shows c.args.form t ps vs xs class keyed' fine' meets)
          (c.in_ok-make.ensures.shows s.memory ps vs [] (sym c.new.ensures.items) (omega arith) h.carries.holds) c.skip.ensures last keyed fine h;
    }
