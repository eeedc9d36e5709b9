use Rattle.std.proofs.Common.{arith, inl, inr, ◌∙◌, length}
use Rattle.usable_rules.proofs.Found.{longer, all_done, led_usable, in_grown, item_in, done_all}
use Rattle.usable_rules.proofs.closing.close.Goals as goal

pub loop-i-preserved : goal.loop-i-preserved
loop-i-preserved c =
    let rules = c.args.by_root.now.rules in
    let found = c.loop-i.found.items in
    let new = c.visit.new.found.items in
    let i = c.loop-i.i in
    let f = c.index.result.now in
    let n = length c.args.flags.now.items in
    let e = c.in_ok-visit.ensures in
    let l = c.loop-i.invariant in
    record {
      marked = e.marked;
      flags = e.flags ∙ l.flags;
      kept = λ g h. in_grown found new g e.grown (l.kept g h);
      within = (let h = longer found new e.grown in omega (arith, h, c.loop-i-test.true, c.len.ensures));
      done = all_done rules found new i f n (omega (arith, c.loop-i-test.true, c.len.ensures)) c.index.ensures e.grown (λ g led low. e.all g led (rw l.flags low)) l.done;
      only = λ pairs start g h. elim (e.only g h) [
        | inl a ↦ l.only pairs start g a
        | inr led ↦ led_usable rules pairs f g (l.only pairs start f (item_in found i f (omega (arith, c.loop-i-test.true, c.len.ensures)) c.index.ensures)) led
      ];
    }

pub returns-clause-all : goal.returns-clause-all
returns-clause-all c f g i led low =
    done_all c.args.by_root.now.rules c.loop-i.found.items c.loop-i.i f g (length c.args.flags.now.items) (omega (arith, c.loop-i-test.false, c.len.ensures)) c.loop-i.invariant.done i led low
