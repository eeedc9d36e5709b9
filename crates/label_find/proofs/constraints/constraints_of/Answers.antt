use Rattle.std.proofs.Common.{List, [], refl, sym, subst, arith}
use Rattle.std.proofs.lemmas.Option.{slice_get_read}
use Rattle.label_find.specs.declared.constraint.PeakConstraint.{PeakConstraint}
use Rattle.join_find.specs.First.{Along, along_end}
use Rattle.label_find.specs.ConstraintPuzzle.{IsConstraintFor}
use Rattle.assign_search.proofs.Continuing.{continues_itself, continues_on}
use Rattle.join_find.proofs.Firsts.{along_one_more, along_all, read_in}
use Rattle.label_find.proofs.ConstraintLaws.{constraints_still}
use Rattle.join_find.proofs.crit_pairs.TableLaws.{pairs_count}
use Rattle.label_find.proofs.constraints.constraints_of.Goals as goal

pub loop-n-init : goal.loop-n-init
loop-n-init g c =
    let P : List PeakConstraint → Type 0 = λ xs. Along (IsConstraintFor c.args.trs.now.rules c.args.table.now.items) [] xs in
    record {
      made = subst P (sym c.new-constraints.ensures.items) along_end;
      listed = c.requires.listed;
      numbers = c.requires.numbers;
      continues = continues_itself g.P.Stop c.args.stop.now;
    }

pub constraint_at-requires-clause-sides : goal.constraint_at-requires-clause-sides
constraint_at-requires-clause-sides g c =
    c.requires.sides c.index-peaks-n.result (read_in c.args.peaks.now c.loop-n.n c.index-peaks-n.result c.loop-n-test.true c.index-peaks-n.is)

pub loop-n-preserved : goal.loop-n-preserved
loop-n-preserved g c =
    let before = constraints_still c.args.trs.now.rules c.loop-n.table.items c.constraint_at.new.table.items c.in_ok-constraint.ensures.grown c.loop-n.invariant.made in
    record {
      made = along_one_more (IsConstraintFor c.args.trs.now.rules c.constraint_at.new.table.items) c.args.peaks.now c.loop-n.constraints.items c.push.new.self.items c.loop-n.n c.index-peaks-n.result _
          c.loop-n-test.true c.index-peaks-n.is before c.in_ok-constraint.ensures.constraint c.in_ok-push.ensures.items;
      listed = rw c.pool-from.ensures at c.in_ok-constraint.ensures.listed;
      numbers = c.in_ok-constraint.ensures.numbers;
      continues = continues_on c.loop-n.invariant.continues (record { later = c.stopped.ensures.later; kept = c.stopped.ensures.kept });
    }

pub returns-clause-constraints : goal.returns-clause-constraints
returns-clause-constraints g c =
    along_all (IsConstraintFor c.args.trs.now.rules c.loop-n.table.items) c.args.peaks.now c.loop-n.constraints.items c.loop-n.n c.loop-n-test.false c.loop-n.invariant.made

pub pair-pair-requires : goal.pair-pair-requires
pair-pair-requires g c = omega (arith, pairs_count c.requires.pairs, c.loop-n-test.true)

pub constraint_at-requires-clause-pair : goal.constraint_at-requires-clause-pair
constraint_at-requires-clause-pair g c =
    rw c.pool-from.ensures (c.pair-pair.ensures c.args.peaks.now c.index-peaks-n.result c.requires.pairs (slice_get_read c.args.peaks.now _ c.loop-n.n c.index-peaks-n.result refl c.loop-n-test.true c.index-peaks-n.is))

pub constraint_at-requires-clause-listed : goal.constraint_at-requires-clause-listed
constraint_at-requires-clause-listed g c = rw c.pool-from.ensures c.loop-n.invariant.listed
