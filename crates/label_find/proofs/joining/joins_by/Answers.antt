use Rattle.std.proofs.Common.{List, [], refl, sym, subst, arith}
use Rattle.std.proofs.lemmas.Option.{slice_get_read}
use Rattle.rewrite_core.specs.PathsOfJoin.{PathsOfJoin}
use Rattle.join_find.specs.First.{Along, along_end}
use Rattle.label_find.specs.Closing.{IsJoinBy}
use Rattle.assign_search.proofs.Continuing.{continues_itself, continues_on}
use Rattle.join_find.proofs.Firsts.{along_one_more, along_all, read_in}
use Rattle.join_find.proofs.crit_pairs.TableLaws.{pairs_count}
use Rattle.label_find.proofs.joining.joins_by.Goals as goal

pub loop-n-init : goal.loop-n-init
loop-n-init g c =
    let P : List PathsOfJoin → Type 0 = λ xs. Along (IsJoinBy c.args.trs.now.rules c.args.ranks.now) [] xs in
    record { made = subst P (sym c.new-joins.ensures.items) along_end; listed = c.requires.listed; continues = continues_itself g.P.Stop c.args.stop.now }

pub join_at-requires-clause-sides : goal.join_at-requires-clause-sides
join_at-requires-clause-sides g c =
    c.requires.sides c.index-peaks-n.result (read_in c.args.peaks.now c.loop-n.n c.index-peaks-n.result c.loop-n-test.true c.index-peaks-n.is)

pub join_at-requires-clause-can : goal.join_at-requires-clause-can
join_at-requires-clause-can g c = c.requires.can c.index-peaks-n.result (read_in c.args.peaks.now c.loop-n.n c.index-peaks-n.result c.loop-n-test.true c.index-peaks-n.is)

pub loop-n-preserved : goal.loop-n-preserved
loop-n-preserved g c = record {
  made = along_one_more (IsJoinBy c.args.trs.now.rules c.args.ranks.now) c.args.peaks.now c.loop-n.joins.items c.push.new.self.items c.loop-n.n c.index-peaks-n.result _
      c.loop-n-test.true c.index-peaks-n.is c.loop-n.invariant.made c.in_ok-join.ensures.join c.in_ok-push.ensures.items;
  listed = rw c.pool-from.ensures at c.in_ok-join.ensures.listed;
  continues = continues_on c.loop-n.invariant.continues (record { later = c.stopped.ensures.later; kept = c.stopped.ensures.kept });
}

pub returns-clause-joins : goal.returns-clause-joins
returns-clause-joins g c = along_all (IsJoinBy c.args.trs.now.rules c.args.ranks.now) c.args.peaks.now c.loop-n.joins.items c.loop-n.n c.loop-n-test.false c.loop-n.invariant.made

pub pair-pair-requires : goal.pair-pair-requires
pair-pair-requires g c = omega (arith, pairs_count c.requires.pairs, c.loop-n-test.true)

pub join_at-requires-clause-pair : goal.join_at-requires-clause-pair
join_at-requires-clause-pair g c =
    rw c.pool-from.ensures (c.pair-pair.ensures c.args.peaks.now c.index-peaks-n.result c.requires.pairs (slice_get_read c.args.peaks.now _ c.loop-n.n c.index-peaks-n.result refl c.loop-n-test.true c.index-peaks-n.is))

pub join_at-requires-clause-listed : goal.join_at-requires-clause-listed
join_at-requires-clause-listed g c = rw c.pool-from.ensures c.loop-n.invariant.listed
