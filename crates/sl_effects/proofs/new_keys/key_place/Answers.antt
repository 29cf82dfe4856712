use Rattle.std.proofs.Common.{◌≤◌, ℕ, ◌-◌, Bool, ap, sym, ◌∙◌, subst, w32, if◌then◌else◌}
use Rattle.std.proofs.lemmas.Int.{to_z-of_z}
use Rattle.sl_specs.specs.Forms.{is_hash}
use Rattle.sl_model.specs.Memory.Containers.{cont_at, size}
use Rattle.sl_model.specs.Memory.Schedule.{pick_at, hash_place}
use Rattle.sl_model.specs.LibraryCalls.Effects.{ordered_place, key_picks}
use Rattle.sl_effects.proofs.new_keys.key_place.Goals as goal

pub returns-then-is_hashed : goal.returns-then-is_hashed
returns-then-is_hashed c = record {
  within = subst (λ (n : ℕ). c.hash_place.result ≤ n) c.size.ensures.value c.hash_place.ensures.within;
  shows = λ left ps vs h.
      let d = cont_at left.memory c.args.container in
      let hash = ap is_hash (sym (c.form.ensures.shows left.memory ps vs h.holds)) ∙ (sym c.is_hashed.ensures ∙ c.if-is_hashed.true) in
      let last = c.saturating_sub-last.ensures ∙ ap (λ (n : ℕ). n - 1) (c.key_picks.ensures left.memory ps vs h.holds) in
      c.hash_place.ensures.value
      ∙ (ap (λ (n : ℕ). hash_place n c.peek.result) (c.size.ensures.shows left.memory ps vs h.holds)
      ∙ (ap (hash_place (size d)) (c.peek.ensures ∙ (ap (pick_at _) h.schedule ∙ ap (λ (n : ℕ). pick_at n left.picks) last))
      ∙ sym (ap (λ (b : Bool). if b then hash_place (size d) (pick_at (key_picks d - 1) left.picks) else ordered_place d c.args.key) hash)));
}

pub returns : goal.returns
returns c = record {
  within = c.ordered_place.ensures.within;
  shows = λ left ps vs h.
      let d = cont_at left.memory c.args.container in
      let hash = ap is_hash (sym (c.form.ensures.shows left.memory ps vs h.holds)) ∙ (sym c.is_hashed.ensures ∙ c.if-is_hashed.false) in
      c.ordered_place.ensures.shows left.memory ps vs h.holds
      ∙ (ap (ordered_place d) (to_z-of_z w32 c.args.key c.ranges.key)
      ∙ sym (ap (λ (b : Bool). if b then hash_place (size d) (pick_at (key_picks d - 1) left.picks) else ordered_place d c.args.key) hash));
}
