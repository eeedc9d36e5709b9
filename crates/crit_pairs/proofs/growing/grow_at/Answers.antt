use Rattle.std.proofs.Common.{refl}
use Rattle.term_pool.proofs.Extending.{extends_itself, extends_on}
use Rattle.crit_pairs.specs.Table.{site}
use Rattle.crit_pairs.proofs.GroundRights.{rights_still}
use Rattle.crit_pairs.proofs.GrowthLaws.{at_next, at_end}
use Rattle.crit_pairs.proofs.growing.grow_at.Goals as goal

pub loop-i-init : goal.loop-i-init
loop-i-init c = record {
  stands = λ left after h. c.in_ok-begin_list.ensures.begins c.args.rules.now c.args.from c.args.pool.now (site c.args.j c.args.place.now) left after h;
  known = c.new-known.ensures c.args.rules.now c.args.j c.args.place.now c.args.pool.now;
  kept = extends_itself c.args.pool.now;
  inside = c.in_ok-begin_list.ensures.inside;
}

pub grow_by-requires-clause-rights : goal.grow_by-requires-clause-rights
grow_by-requires-clause-rights c = rights_still c.args.rules.now c.args.pool.now c.loop-i.pool c.args.rights.now c.loop-i.invariant.kept c.requires.rights

pub loop-i-preserved : goal.loop-i-preserved
loop-i-preserved c = record {
  stands = λ left after h.
      at_next c.args.rules.now c.args.j c.loop-i.i c.args.from c.args.place.now c.loop-i.pool c.grow_by.new.pool c.loop-i.growth c.grow_by.new.growth left after c.loop-i-test.true
      (c.loop-i.invariant.stands left after h) c.in_ok-grow_by.ensures.done c.in_ok-grow_by.ensures.kept c.in_ok-grow_by.ensures.adds;
  known = c.in_ok-grow_by.ensures.known;
  kept = extends_on c.args.pool.now c.loop-i.pool c.grow_by.new.pool c.loop-i.invariant.kept c.in_ok-grow_by.ensures.kept;
  inside = c.in_ok-grow_by.ensures.inside;
}

pub returns-in_err-begin_list-clause-kept : goal.returns-in_err-begin_list-clause-kept
returns-in_err-begin_list-clause-kept c = extends_itself c.args.pool.now

pub returns-in_err-grow_by-clause-kept : goal.returns-in_err-grow_by-clause-kept
returns-in_err-grow_by-clause-kept c = extends_on c.args.pool.now c.loop-i.pool c.grow_by.new.pool c.loop-i.invariant.kept c.in_err-grow_by.ensures.kept

pub returns-clause-grows : goal.returns-clause-grows
returns-clause-grows c = λ left after h.
    at_end c.args.rules.now c.loop-i.i c.args.from c.loop-i.pool c.loop-i.growth _ (site c.args.j c.args.place.now) left after c.loop-i-test.false refl refl refl (c.loop-i.invariant.stands left after h)
