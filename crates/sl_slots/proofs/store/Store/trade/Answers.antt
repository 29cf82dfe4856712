use Rattle.std.proofs.Common.{◌≡◌, List, map, sym, ap, ◌∙◌}
use Rattle.std.specs.List.{slice_set}
use Rattle.sl_base.specs.declared.form.Form.{Form}
use Rattle.sl_slots.specs.declared.container.Element.{Element}
use Rattle.sl_slots.specs.declared.motion.Motion.TheVariants.{Trades}
use Rattle.sl_slots.specs.Fates.{pointer_after, value_after}
use Rattle.sl_slots.specs.Shown.{Plain, contents}
use Rattle.sl_slots.specs.Stored.{contents_at, exchanged}
use Rattle.sl_slots.proofs.ReadingShows.{listed, listed_other, contents-listed}
use Rattle.sl_slots.proofs.TradingShows.{as_plain, traded_holds}
use Rattle.sl_slots.proofs.store.Store.trade.Goals as goal

pub returns-clause-traded : goal.returns-clause-traded
returns-clause-traded c =
    let old = c.args.self.now in
    let by = c.args.by in
    let j = by.first.container in
    let i = by.second.container in
    let between = c.fill.new.store in
    let all : List Plain = map contents old.containers.items in
    let form : (contents_at between i).form ≡ (contents_at old i).form = ap (λ (x : Plain). x.form)
    (contents-listed between i
    ∙ (ap (λ (l : List Plain). listed l i) c.fill.ensures.containers
    ∙ (listed_other all j i _ c.requires.differ ∙ sym (contents-listed old i)))) in
    let first = ap (λ (es : List Element). as_plain (contents_at old j).form es by.first.room) c.in_ok-own.ensures in
    let second = ap (λ (f : Form). as_plain f c.in_ok-other.other.items by.second.room) form
    ∙ ap (λ (es : List Element). as_plain (contents_at old i).form es by.second.room) c.in_ok-other.ensures in record {
      containers = ap (λ v. map contents v.items) c.move_all.ensures.containers
          ∙ (c.fill-2.ensures.containers
          ∙ (ap (slice_set (map contents between.containers.items) i) second
          ∙ (ap (λ (l : List Plain). slice_set l i (exchanged by.second (contents_at old i) (contents_at old j))) c.fill.ensures.containers
          ∙ ap (λ (x : Plain). slice_set (slice_set all j x) i (exchanged by.second (contents_at old i) (contents_at old j))) first)));
      moved = record {
        pointers = c.move_all.ensures.moved.pointers
            ∙ ap (λ v. map (pointer_after (Trades by)) v.items) (c.fill-2.ensures.pointers ∙ c.fill.ensures.pointers);
        operands = c.move_all.ensures.moved.operands
            ∙ ap (λ v. map (value_after (Trades by)) v.items) (c.fill-2.ensures.operands ∙ c.fill.ensures.operands);
      };
    }

pub returns-clause-shows : goal.returns-clause-shows
returns-clause-shows c = λ m ps vs ch dh same same' fair fair' h. traded_holds c.args.self.now c.move_all.new.store c.args.by
    (returns-clause-traded c) c.requires.first c.requires.second c.requires.differ c.requires.first_size c.requires.second_size
    m ps vs ch dh same same' fair fair' h
