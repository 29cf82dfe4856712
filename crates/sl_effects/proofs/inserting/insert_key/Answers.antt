use Rattle.std.proofs.Common.{◌≡◌, None, arith, ap, sym, ◌∙◌, subst, w32, FitsSigned, rules}
use Rattle.std.proofs.lemmas.Int.{to_z-of_z}
use Rattle.sl_model.specs.Memory.Containers.{cont_at}
use Rattle.sl_model.specs.LibraryCalls.Effects.{Left, known_key}
use Rattle.sl_effects.specs.Carried.{Carries}
use Rattle.sl_effects.proofs.InsertLaws.{inserted_new, keeps_out, comes_in, room_for_one}
use Rattle.sl_effects.proofs.Stores.{grew_none}
use Rattle.sl_effects.proofs.inserting.insert_key.Goals as goal

pub returns-then-is_some : goal.returns-then-is_some
returns-then-is_some c = record {
  grew = grew_none c.args.store.now;
  size = omega arith;
  shows = λ left ps vs x xs class is key few h.
      let fits : FitsSigned w32 c.args.element.key = search rules in
      let d = cont_at left.memory c.args.container in
      let found : c.known_place.result ≡ known_key d x.0 = c.known_place.ensures left.memory ps vs h.holds
      ∙ ap (known_key d) (to_z-of_z w32 c.args.element.key fits ∙ sym key) in
      subst (λ (l : Left). Carries c.args.store.now c.args.picks.now l ps vs)
      (sym (keeps_out c.args.class c.args.site c.args.container d x left c.known_place.result found (sym c.is_some.ensures ∙ c.if-is_some.true))) h;
}

pub returns : goal.returns
returns c = record {
  grew = c.in_ok-insert_new.ensures.grew;
  size = let s = c.in_ok-insert_new.ensures.size in omega arith;
  shows = λ left ps vs x xs class is key few h.
      let fits : FitsSigned w32 c.args.element.key = search rules in
      let d = cont_at left.memory c.args.container in
      let found : c.known_place.result ≡ known_key d x.0 = c.known_place.ensures left.memory ps vs h.holds
      ∙ ap (known_key d) (to_z-of_z w32 c.args.element.key fits ∙ sym key) in
      let none : known_key d x.0 ≡ None = comes_in d x.0 c.known_place.result found (sym c.is_some.ensures ∙ c.if-is_some.false) in
      subst (λ (l : Left). Carries c.insert_new.new.store c.insert_new.new.picks l ps vs)
      (sym (inserted_new c.args.class c.args.site c.args.container d x left none))
      (c.in_ok-insert_new.ensures.shows left ps vs x class is key (room_for_one c.args.class d x xs none few) h);
}
