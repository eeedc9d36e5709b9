use Rattle.std.proofs.Common.{length, refl, subst, sym}
use Rattle.std.proofs.lemmas.Option.{slice_get_read}
use Rattle.join_find.specs.CommonIds.{Reached}
use Rattle.conf_find.specs.Marks.{AreParted}
use Rattle.conf_find.proofs.PeakList.{one_more_passed, all_passed}
use Rattle.conf_find.proofs.parting.first_from.Goals as goal

pub are_parted-requires-clause-right : goal.are_parted-requires-clause-right
are_parted-requires-clause-right g c =
    subst (λ (e : Reached). g.M.Marks.has_mark c.args.marks.now e.0) (sym c.index-rights-j.is) (c.requires.rights c.loop-j.j c.index-rights-j.result c.loop-j-test.true)

pub returns-then-are_parted : goal.returns-then-are_parted
returns-then-are_parted g c = record {
  item = c.index-rights-j.result;
  there = slice_get_read c.args.rights.now (length c.args.rights.now) c.loop-j.j c.index-rights-j.result refl c.loop-j-test.true c.index-rights-j.is;
  holds = c.are_parted.ensures.0 c.if-are_parted.true;
  before = c.loop-j.invariant;
}

pub loop-j-preserved : goal.loop-j-preserved
loop-j-preserved g c =
    one_more_passed (λ other. AreParted g.M.Marks.never_meet c.args.by_root.now.rules c.args.pool.now c.args.left.now other → ⊥) c.args.rights.now c.loop-j.j c.index-rights-j.result
    c.loop-j-test.true c.index-rights-j.is (λ h. (let e = c.are_parted.ensures.1 h in absurd (cc (e, c.if-are_parted.false)))) c.loop-j.invariant

pub returns : goal.returns
returns g c = all_passed (λ other. AreParted g.M.Marks.never_meet c.args.by_root.now.rules c.args.pool.now c.args.left.now other → ⊥) c.args.rights.now c.loop-j.j c.loop-j-test.false c.loop-j.invariant
