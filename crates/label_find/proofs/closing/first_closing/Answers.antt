use Rattle.std.proofs.Common.{◌∙◌}
use Rattle.join_find.specs.First.{First, Some_in, None_in}
use Rattle.join_find.proofs.Firsts.{first_read, first_in_list, none_further, none_of_all, holds_now}
use Rattle.path_lists.specs.Adding.{Entry}
use Rattle.label_find.specs.Closing.{ClosesFrom}
use Rattle.label_find.proofs.closing.first_closing.Goals as goal

pub returns-in-Some : goal.returns-in-Some
returns-in-Some c =
    let first : First (ClosesFrom c.args.ranks.now c.args.numbers.0 c.args.numbers.1 c.args.pool.now c.left-item.result) c.args.rights.now c.in-Some.right.now = rw c.in-Some.is at c.in_ok-closing_from.ensures in
    record {
      left = c.left-item.result;
      right = c.in-Some.right.now;
      first_left = first_read (λ (x : Entry). Some_in (ClosesFrom c.args.ranks.now c.args.numbers.0 c.args.numbers.1 c.args.pool.now x) c.args.rights.now) c.args.lefts.now c.loop-left.left-index c.left-item.result
          c.loop-left-test.true c.left-item.is (c.in-Some.right.now, first_in_list first, holds_now first) c.loop-left.invariant;
      first_right = first;
      left_path = c.in_ok-copy_path-in-Some.ensures ∙ c.deref.ensures.value;
      right_path = c.in_ok-copy_path-in-Some-2.ensures ∙ c.deref-in-Some.ensures.value;
    }

pub loop-left-preserved : goal.loop-left-preserved
loop-left-preserved c =
    let none : None_in (ClosesFrom c.args.ranks.now c.args.numbers.0 c.args.numbers.1 c.args.pool.now c.left-item.result) c.args.rights.now = rw c.in-None.is at c.in_ok-closing_from.ensures in
    none_further (λ (x : Entry). Some_in (ClosesFrom c.args.ranks.now c.args.numbers.0 c.args.numbers.1 c.args.pool.now x) c.args.rights.now) c.args.lefts.now c.loop-left.left-index c.left-item.result
    c.loop-left-test.true c.left-item.is (λ (f, i, h). none f i h) c.loop-left.invariant

pub unreachable-requires : goal.unreachable-requires
unreachable-requires c =
    let (e, i, some) = c.requires.can in
    none_of_all (λ (x : Entry). Some_in (ClosesFrom c.args.ranks.now c.args.numbers.0 c.args.numbers.1 c.args.pool.now x) c.args.rights.now) c.args.lefts.now c.loop-left.left-index c.loop-left-test.false c.loop-left.invariant e i some
