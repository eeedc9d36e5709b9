use Rattle.std.proofs.Common.{◌≡◌, ◌<◌, [], length, refl, arith}
use Rattle.std.proofs.lemmas.Option.{slice_get_read}
use Rattle.term_pool.specs.ListedIds.{listed}
use Rattle.term_pool.specs.Reach.{AreReducts, no_step}
use Rattle.term_pool.proofs.Extending.{extends_itself}
use Rattle.path_lists.proofs.Longer.{nothing_added, one_added, one_more_reduct, all_added, full_added}
use Rattle.path_lists.proofs.paths.add_reducts.Goals as goal

pub loop-i-init : goal.loop-i-init
loop-i-init c = λ rules pool leads. nothing_added (AreReducts rules 4096 (listed pool c.args.entry.now) []) pool c.args.paths.now.items leads.below c.requires.few no_step

pub loop-i-preserved : goal.loop-i-preserved
loop-i-preserved c = λ rules pool leads.
    let steps = c.args.reducts.now.steps.items in
    let ends = c.args.reducts.now.ends.items in
    let i = c.loop-i.i in
    let s = c.step-item.result in
    let e = listed pool c.args.entry.now in
    let before = c.loop-i.invariant rules pool leads in
    let within : i < length steps = rw c.deref-step-items.ensures.value at c.loop-i-test.true in
    let is = rw c.deref-step-items.ensures.value at c.step-item.is in
    let count : length ends ≡ length steps = c.args.reducts.now.all in
    let there = slice_get_read steps (length steps) i s refl within is in
    let to = slice_get_read ends (length ends) i c.index-end.result.now refl (omega (arith, within, count)) c.index-end.ensures in
    let space : length c.loop-i.paths.items < 256 = omega (arith, c.if-len-ge-MOST_PATHS.false, c.len.ensures, c.loop-i.paths.ok.0) in
    one_more_reduct rules e steps pool pool pool c.args.paths.now.items c.loop-i.paths.items c.push.new.self.items i s within is before
    (one_added rules e s pool pool c.loop-i.paths.items c.push.new.self.items c.index-end.result.now c.in_ok-path.path (extends_itself pool) before.below space
    (leads.are.ends i c.index-end.result.now s to there) c.in_ok-push.ensures.items (rw c.deref.ensures.value at c.in_ok-path.ensures))

pub returns-then-len-ge-MOST_PATHS : goal.returns-then-len-ge-MOST_PATHS
returns-then-len-ge-MOST_PATHS c = record {
  adds = λ rules pool leads.
      full_added rules (listed pool c.args.entry.now) c.args.reducts.now.steps.items leads.short leads.are.redexes pool pool c.args.paths.now.items c.loop-i.paths.items c.loop-i.i
      (c.loop-i.invariant rules pool leads) (omega (arith, c.if-len-ge-MOST_PATHS.true, c.len.ensures, c.loop-i.paths.ok.0));
}

pub returns : goal.returns
returns c = record {
  adds = λ rules pool leads.
      all_added rules (listed pool c.args.entry.now) c.args.reducts.now.steps.items leads.short leads.are.redexes pool pool c.args.paths.now.items c.loop-i.paths.items c.loop-i.i
      (c.loop-i.invariant rules pool leads) (rw c.deref-step-items.ensures.value at c.loop-i-test.false);
}
