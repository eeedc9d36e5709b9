use Rattle.std.proofs.Common.{refl}
use Rattle.loop_find.proofs.LinkLists.{path_begins, path_goes_on, path_ends, number_below, earlier_below, fewer_left}
use Rattle.loop_find.proofs.closures.Closures.path.Goals as goal

pub loop-at-init : goal.loop-at-init
loop-at-init c = record {
  path = λ cl e. path_begins _ c.args.number cl c.new-steps.result.items _ e refl c.new-steps.ensures.items;
  below = number_below c.args.self.now c.args.number c.requires.there;
}

pub loop-at-smaller : goal.loop-at-smaller
loop-at-smaller c =
    fewer_left c.requires.sound.0 c.args.self.now c.requires.sound.1 c.in-Some.i c.link_at-link.result.now c.loop-at.at c.in-Some.is c.link_at-link.ensures

pub loop-at-preserved : goal.loop-at-preserved
loop-at-preserved c = record {
  path = λ cl e.
      path_goes_on c.requires.sound.0 c.args.self.now c.requires.sound.1 c.in-Some.i c.link_at-link.result.now c.loop-at.at cl.path c.loop-at.steps.items c.push.new.self.items c.in_ok-step.step
      c.in-Some.is c.link_at-link.ensures c.in_ok-step.ensures c.in_ok-push.ensures.items (c.loop-at.invariant.path cl e);
  below = earlier_below c.requires.sound.0 c.args.self.now c.requires.sound.1 c.in-Some.i c.link_at-link.result.now c.link_at-link.ensures;
}

pub returns : goal.returns
returns c = λ cl e. path_ends _ c.loop-at.at cl.path c.loop-at.steps.items c.reverse.new.self.items c.in_default.is c.reverse.ensures.items (c.loop-at.invariant.path cl e)
