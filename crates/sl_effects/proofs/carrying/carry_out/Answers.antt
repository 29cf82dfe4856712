use Rattle.std.proofs.Common.{◌≡◌, refl, List, sym, ◌∙◌, subst}
use Rattle.sl_slots.specs.declared.container.Element.{Element}
use Rattle.sl_slots.specs.declared.store.Store.{Store}
use Rattle.sl_slots.specs.Stored.{IsEdit}
use Rattle.sl_effects.specs.declared.effect.Effect.{Effect}
use Rattle.sl_effects.specs.Carried.{AreKeyed, GrewBy}
use Rattle.sl_effects.specs.Effects.{CanBeCarried, TradeFits, IsEffect, coming}
use Rattle.sl_effects.proofs.EffectLaws.{edits_carried, changes_carried, trades_carried, inserts_carried, appends_carried, makes_carried}
use Rattle.sl_effects.proofs.EffectLaws.{makes_by_keys_carried}
use Rattle.sl_effects.proofs.Stores.{grew_none}
use Rattle.sl_effects.proofs.carrying.carry_out.Goals as goal

-- what an effect is said to be, it grows by
grew_as : (old new : Store) (x y : Effect) → x ≡ y → GrewBy (coming y) old new → GrewBy (coming x) old new
grew_as old new x y e grew = subst (λ (z : Effect). GrewBy (coming z) old new) (sym e) grew

pub returns-in_ok-carry_edit-in-Edits-clause-shows : goal.returns-in_ok-carry_edit-in-Edits-clause-shows
returns-in_ok-carry_edit-in-Edits-clause-shows c = λ s ps vs e is fine h.
    edits_carried c.args.form c.args.class s c.carry_edit.new.store c.carry_edit.new.picks ps vs c.in-Edits.taken c.in-Edits.edit c.in-Edits.come e
    (subst (λ (x : Effect). IsEffect c.args.class s x e) c.in-Edits.is is) fine
    (λ d same sound. c.in_ok-carry_edit-in-Edits.ensures.shows c.args.form s ps vs d
    (subst (λ (es : List Element). IsEdit d c.in-Edits.edit es) (sym c.deref.ensures.value) same) sound h)

pub returns-in_ok-carry_change-in-Changes-clause-shows : goal.returns-in_ok-carry_change-in-Changes-clause-shows
returns-in_ok-carry_change-in-Changes-clause-shows c = λ s ps vs e is fine h.
    let fits = subst (λ (x : Effect). CanBeCarried x c.args.object c.args.site c.args.store.now) c.in-Changes.is c.requires in
    changes_carried c.args.form c.args.class s c.carry_change.new.store c.carry_change.new.picks ps vs c.in-Changes.taken c.in-Changes.by e
    (subst (λ (x : Effect). IsEffect c.args.class s x e) c.in-Changes.is is) fine
    (λ ch same sound. c.in_ok-carry_change-in-Changes.ensures.shows c.args.form c.args.class s ps vs ch same sound
    (record { carries = h.carries; on = refl; at = h.at ∙ sym fits.at }))

pub returns-in_ok-carry_trade-in-Trades-clause-shows : goal.returns-in_ok-carry_trade-in-Trades-clause-shows
returns-in_ok-carry_trade-in-Trades-clause-shows c = λ s ps vs e is fine h.
    let fits : TradeFits c.args.store.now c.args.object c.args.site c.in-Trades.by =
    subst (λ (x : Effect). CanBeCarried x c.args.object c.args.site c.args.store.now) c.in-Trades.is c.requires in
    trades_carried c.args.form c.args.class s c.carry_trade.new.store c.args.picks.now ps vs c.in-Trades.by e
    (subst (λ (x : Effect). IsEffect c.args.class s x e) c.in-Trades.is is) fine (fits.on ∙ sym h.on)
    (λ ch dh first second sound. c.in_ok-carry_trade-in-Trades.ensures.shows c.args.form c.args.class c.args.picks.now s ps vs ch dh first second
    sound (record { carries = h.carries; on = h.on ∙ sym fits.on; at = h.at ∙ sym fits.at }))

pub returns-in_ok-insert_all-in-Inserts-clause-shows : goal.returns-in_ok-insert_all-in-Inserts-clause-shows
returns-in_ok-insert_all-in-Inserts-clause-shows c = λ s ps vs e is fine h.
    inserts_carried c.args.form c.args.class s c.insert_all.new.store c.insert_all.new.picks ps vs c.in-Inserts.elements e
    (subst (λ (x : Effect). IsEffect c.args.class s x e) c.in-Inserts.is is) fine
    (λ xs class keyed sound. c.in_ok-insert_all-in-Inserts.ensures.shows c.args.form s ps vs xs class
    (subst (λ (es : List Element). AreKeyed xs es) (sym c.deref-in-Inserts.ensures.value) keyed) sound h)

pub returns-in_ok-append_all-in-Appends-clause-shows : goal.returns-in_ok-append_all-in-Appends-clause-shows
returns-in_ok-append_all-in-Appends-clause-shows c = λ s ps vs e is fine h.
    appends_carried c.args.form c.args.class s c.append_all.new.store c.append_all.new.picks ps vs c.in-Appends.container c.in-Appends.numbers e
    (subst (λ (x : Effect). IsEffect c.args.class s x e) c.in-Appends.is is) fine
    (λ xs all sound. c.in_ok-append_all-in-Appends.ensures.shows c.args.form c.args.class s ps vs xs (all ∙ sym c.deref-in-Appends.ensures.value)
    sound (record { carries = h.carries; on = refl; at = h.at }))

pub returns-in_ok-make-in-Makes-clause-shows : goal.returns-in_ok-make-in-Makes-clause-shows
returns-in_ok-make-in-Makes-clause-shows c = λ s ps vs e is fine h.
    makes_carried c.args.form c.args.class s c.make.new.store c.make.new.picks ps vs c.in-Makes.taken c.in-Makes.room c.in-Makes.elements e
    (subst (λ (x : Effect). IsEffect c.args.class s x e) c.in-Makes.is is) fine
    (λ xs same sound. c.in_ok-make-in-Makes.ensures.shows c.args.class s ps vs xs same sound
    (record { carries = h.carries; on = refl; at = refl }))

pub returns-in_ok-make_by_keys-in-MakesByKeys-clause-shows : goal.returns-in_ok-make_by_keys-in-MakesByKeys-clause-shows
returns-in_ok-make_by_keys-in-MakesByKeys-clause-shows c = λ s ps vs e is fine h.
    makes_by_keys_carried c.args.form c.args.class s c.make_by_keys.new.store c.make_by_keys.new.picks ps vs c.in-MakesByKeys.taken
    c.in-MakesByKeys.room c.in-MakesByKeys.elements e
    (subst (λ (x : Effect). IsEffect c.args.class s x e) c.in-MakesByKeys.is is) fine
    (λ xs class keyed sound. c.in_ok-make_by_keys-in-MakesByKeys.ensures.shows s ps vs xs class
    (subst (λ (es : List Element). AreKeyed xs es) (sym c.deref-in-MakesByKeys.ensures.value) keyed) sound
    (record { carries = h.carries; on = refl; at = h.at }))

pub returns-in_ok-carry_edit-in-Edits-clause-grew : goal.returns-in_ok-carry_edit-in-Edits-clause-grew
returns-in_ok-carry_edit-in-Edits-clause-grew c =
    grew_as c.args.store.now c.carry_edit.new.store c.args.effect _ c.in-Edits.is c.in_ok-carry_edit-in-Edits.ensures.grew

pub returns-in_ok-carry_change-in-Changes-clause-grew : goal.returns-in_ok-carry_change-in-Changes-clause-grew
returns-in_ok-carry_change-in-Changes-clause-grew c =
    grew_as c.args.store.now c.carry_change.new.store c.args.effect _ c.in-Changes.is c.in_ok-carry_change-in-Changes.ensures.grew

pub returns-in_ok-carry_trade-in-Trades-clause-grew : goal.returns-in_ok-carry_trade-in-Trades-clause-grew
returns-in_ok-carry_trade-in-Trades-clause-grew c =
    grew_as c.args.store.now c.carry_trade.new.store c.args.effect _ c.in-Trades.is c.in_ok-carry_trade-in-Trades.ensures.grew

pub returns-in_ok-insert_all-in-Inserts-clause-grew : goal.returns-in_ok-insert_all-in-Inserts-clause-grew
returns-in_ok-insert_all-in-Inserts-clause-grew c =
    grew_as c.args.store.now c.insert_all.new.store c.args.effect _ c.in-Inserts.is c.in_ok-insert_all-in-Inserts.ensures.grew

pub returns-in_ok-append_all-in-Appends-clause-grew : goal.returns-in_ok-append_all-in-Appends-clause-grew
returns-in_ok-append_all-in-Appends-clause-grew c =
    grew_as c.args.store.now c.append_all.new.store c.args.effect _ c.in-Appends.is c.in_ok-append_all-in-Appends.ensures.grew

pub returns-in_ok-make-in-Makes-clause-grew : goal.returns-in_ok-make-in-Makes-clause-grew
returns-in_ok-make-in-Makes-clause-grew c =
    grew_as c.args.store.now c.make.new.store c.args.effect _ c.in-Makes.is c.in_ok-make-in-Makes.ensures.grew

pub returns-in_ok-make_by_keys-in-MakesByKeys-clause-grew : goal.returns-in_ok-make_by_keys-in-MakesByKeys-clause-grew
returns-in_ok-make_by_keys-in-MakesByKeys-clause-grew c =
    grew_as c.args.store.now c.make_by_keys.new.store c.args.effect _ c.in-MakesByKeys.is c.in_ok-make_by_keys-in-MakesByKeys.ensures.grew

pub returns-in-Keeps-clause-grew : goal.returns-in-Keeps-clause-grew
returns-in-Keeps-clause-grew c =
    grew_as c.args.store.now c.args.store.now c.args.effect _ c.in-Keeps.is (grew_none c.args.store.now)
