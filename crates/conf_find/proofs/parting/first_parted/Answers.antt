use Rattle.std.proofs.Common.{length, refl, subst, sym}
use Rattle.std.proofs.lemmas.Option.{slice_get_read}
use Rattle.trs_defs.proofs.Members.{in_of_get}
use Rattle.join_find.specs.First.{Some_in}
use Rattle.join_find.specs.CommonIds.{Reached}
use Rattle.conf_find.specs.Marks.{AreParted}
use Rattle.conf_find.proofs.PeakList.{one_more_passed, all_passed}
use Rattle.conf_find.proofs.parting.first_parted.Goals as goal

pub first_from-requires-clause-left : goal.first_from-requires-clause-left
first_from-requires-clause-left g c =
    subst (λ (e : Reached). g.M.Marks.has_mark c.args.marks.now e.0) (sym c.index-lefts-i.is) (c.requires.lefts c.loop-i.i c.index-lefts-i.result c.loop-i-test.true)

pub returns-in-Some : goal.returns-in-Some
returns-in-Some g c =
    let right = c.in-Some.ensures in
    record {
      first_left = record {
        item = c.index-lefts-i.result;
        there = slice_get_read c.args.lefts.now (length c.args.lefts.now) c.loop-i.i c.index-lefts-i.result refl c.loop-i-test.true c.index-lefts-i.is;
        holds = (right.item, in_of_get c.args.rights.now c.in-Some.j right.item right.there, right.holds);
        before = c.loop-i.invariant;
      };
      first_right = right;
    }

pub loop-i-preserved : goal.loop-i-preserved
loop-i-preserved g c =
    one_more_passed (λ left. Some_in (AreParted g.M.Marks.never_meet c.args.by_root.now.rules c.args.pool.now left) c.args.rights.now → ⊥) c.args.lefts.now c.loop-i.i c.index-lefts-i.result c.loop-i-test.true c.index-lefts-i.is
    (λ (a, i, h). c.in-None.ensures a i h) c.loop-i.invariant

pub returns : goal.returns
returns g c = record {
  none = all_passed (λ left. Some_in (AreParted g.M.Marks.never_meet c.args.by_root.now.rules c.args.pool.now left) c.args.rights.now → ⊥) c.args.lefts.now c.loop-i.i c.loop-i-test.false c.loop-i.invariant;
}
