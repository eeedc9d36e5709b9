use Rattle.std.proofs.Common.{◌∙◌}
use Rattle.trs_defs.specs.Member.{In}
use Rattle.term_pool.specs.ListedIds.{ids_of}
use Rattle.join_find.specs.CommonIds.{Reached}
use Rattle.join_find.proofs.Firsts.{first_read, none_further, none_of_all}
use Rattle.join_find.proofs.SharedIds.{id_of_first}
use Rattle.join_find.proofs.common.first_common.Goals as goal

pub returns-in-Some : goal.returns-in-Some
returns-in-Some c =
    let at = c.in-Some.ensures in
    record {
      left = c.left-item.result;
      right = at.entry;
      first_left = first_read (λ (e : Reached). In e.0 (ids_of c.args.rights.now)) c.args.lefts.now c.loop-left.left-index c.left-item.result c.loop-left-test.true c.left-item.is
          (id_of_first c.args.rights.now c.left-item.result.0 at.entry at.first) c.loop-left.invariant;
      first_right = at.first;
      left_path = c.in_ok-copy_path-in-Some.ensures ∙ c.deref.ensures.value;
      right_path = c.in_ok-copy_path-in-Some-2.ensures ∙ at.is;
    }

pub loop-left-preserved : goal.loop-left-preserved
loop-left-preserved c =
    none_further (λ (e : Reached). In e.0 (ids_of c.args.rights.now)) c.args.lefts.now c.loop-left.left-index c.left-item.result c.loop-left-test.true c.left-item.is
    c.in-None.ensures c.loop-left.invariant

pub returns : goal.returns
returns c = record {
  none = none_of_all (λ (e : Reached). In e.0 (ids_of c.args.rights.now)) c.args.lefts.now c.loop-left.left-index c.loop-left-test.false c.loop-left.invariant;
}
