use Rattle.std.proofs.Common.{◌≡◌, ◌<◌, ℕ, ap, arith, length, slice_get, Some}
use Rattle.term_pool.specs.Pooled.{tree_at}
use Rattle.nonjoin.proofs.ClashLaws.{args_of, same_told, roots_differ, roots_alike, item_there, no_item, item_smaller, this_clashes, this_does_not, none_left, first_longer, second_longer}
use Rattle.nonjoin.proofs.clashing.+clash.Goals.{In-Some-Some}
use Rattle.nonjoin.proofs.clashing.+clash.Goals as goal

pub returns-then-a-b-clause-clash : goal.returns-then-a-b-clause-clash
returns-then-a-b-clause-clash t c =
    same_told c.args.by_root.now.rules (tree_at c.args.pool.now c.args.a) (tree_at c.args.pool.now c.args.b) (ap (tree_at c.args.pool.now) c.if-a-b.true)

pub returns-then-f-g-clause-clash : goal.returns-then-f-g-clause-clash
returns-then-f-g-clause-clash t c =
    roots_differ c.args.by_root.now c.in-Some.ensures.valid (tree_at c.args.pool.now c.args.a) (tree_at c.args.pool.now c.args.b) c.in-Some.f c.in-Some-kept_root.g
    c.in-Some.ensures.root c.in-Some-kept_root.ensures.root c.if-f-g.true

pub loop-i-init : goal.loop-i-init
loop-i-init t c = record {
  known = c.requires.known;
  left = roots_alike c.args.by_root.now c.in-Some.ensures.valid (tree_at c.args.pool.now c.args.a) (tree_at c.args.pool.now c.args.b) c.in-Some.f c.in-Some-kept_root.g
      c.in-Some.ensures.root c.in-Some-kept_root.ensures.root c.if-f-g.false;
}

-- the arguments at the next place
first : (t : ℕ) (c : In-Some-Some t) → slice_get (args_of (tree_at c.args.pool.now c.args.a)) c.loop-i.i ≡ Some (tree_at c.args.pool.now c.in-Some-Some.x)
first t c =
    item_there c.args.pool.now c.args.a c.loop-i.i c.from_ref.result.now c.at.result c.from_ref.ensures.value c.at.ensures.is c.in-Some-Some.x c.in-Some-Some.is-0

second : (t : ℕ) (c : In-Some-Some t) → slice_get (args_of (tree_at c.args.pool.now c.args.b)) c.loop-i.i ≡ Some (tree_at c.args.pool.now c.in-Some-Some.y)
second t c =
    item_there c.args.pool.now c.args.b c.loop-i.i c.from_ref-in-loop-i.result.now c.at-in-loop-i.result c.from_ref-in-loop-i.ensures.value c.at-in-loop-i.ensures.is c.in-Some-Some.y c.in-Some-Some.is-1

pub clash-requires : goal.clash-requires
clash-requires t c =
    let h = (goal.at.clash-requires t c).In-Some-Some in
    let smaller = item_smaller (tree_at c.args.pool.now c.args.a) c.loop-i.i (tree_at c.args.pool.now c.in-Some-Some.x) (first t h) in
    let there_x : c.in-Some-Some.x < length c.args.pool.now = rw c.in-Some-Some.is-0 at c.at.ensures.there in
    let there_y : c.in-Some-Some.y < length c.args.pool.now = rw c.in-Some-Some.is-1 at c.at-in-loop-i.ensures.there in
    (omega (arith, smaller, c.decreases), (there_x, (there_y, c.loop-i.invariant.known)))

pub returns-then-branch-clause-clash : goal.returns-then-branch-clause-clash
returns-then-branch-clause-clash t c =
    let h = (goal.at.returns-then-branch-clause-clash t c).In-Some-Some in
    this_clashes c.args.by_root.now.rules (tree_at c.args.pool.now c.args.a) (tree_at c.args.pool.now c.args.b) c.loop-i.i c.loop-i.invariant.left
    (tree_at c.args.pool.now c.in-Some-Some.x) (tree_at c.args.pool.now c.in-Some-Some.y) (first t h) (second t h) _ c.in_ok-clash-in-Some-Some.ensures.clash c.if-branch.true

pub loop-i-preserved : goal.loop-i-preserved
loop-i-preserved t c =
    let h = (goal.at.loop-i-preserved t c).In-Some-Some in
    record {
      known = c.in_ok-clash-in-Some-Some.ensures.known;
      left = this_does_not c.args.by_root.now.rules (tree_at c.args.pool.now c.args.a) (tree_at c.args.pool.now c.args.b) c.loop-i.i c.loop-i.invariant.left
          (tree_at c.args.pool.now c.in-Some-Some.x) (tree_at c.args.pool.now c.in-Some-Some.y) (first t h) (second t h) _ c.in_ok-clash-in-Some-Some.ensures.clash c.if-branch.false;
    }

pub returns-in-None-None-clause-clash : goal.returns-in-None-None-clause-clash
returns-in-None-None-clause-clash t c =
    none_left c.args.by_root.now.rules (tree_at c.args.pool.now c.args.a) (tree_at c.args.pool.now c.args.b) c.loop-i.i c.loop-i.invariant.left
    (no_item c.args.pool.now c.args.a c.loop-i.i c.from_ref.result.now c.at.result c.from_ref.ensures.value c.at.ensures.is c.in-None-None.is-0)
    (no_item c.args.pool.now c.args.b c.loop-i.i c.from_ref-in-loop-i.result.now c.at-in-loop-i.result c.from_ref-in-loop-i.ensures.value c.at-in-loop-i.ensures.is c.in-None-None.is-1)

pub returns-in-Some-None-clause-clash : goal.returns-in-Some-None-clause-clash
returns-in-Some-None-clause-clash t c =
    first_longer c.args.by_root.now.rules (tree_at c.args.pool.now c.args.a) (tree_at c.args.pool.now c.args.b) c.loop-i.i c.loop-i.invariant.left _
    (item_there c.args.pool.now c.args.a c.loop-i.i c.from_ref.result.now c.at.result c.from_ref.ensures.value c.at.ensures.is _ c.in-Some-None.is-0)
    (no_item c.args.pool.now c.args.b c.loop-i.i c.from_ref-in-loop-i.result.now c.at-in-loop-i.result c.from_ref-in-loop-i.ensures.value c.at-in-loop-i.ensures.is c.in-Some-None.is-1)

pub returns-in-None-Some-clause-clash : goal.returns-in-None-Some-clause-clash
returns-in-None-Some-clause-clash t c =
    second_longer c.args.by_root.now.rules (tree_at c.args.pool.now c.args.a) (tree_at c.args.pool.now c.args.b) c.loop-i.i c.loop-i.invariant.left _
    (no_item c.args.pool.now c.args.a c.loop-i.i c.from_ref.result.now c.at.result c.from_ref.ensures.value c.at.ensures.is c.in-None-Some.is-0)
    (item_there c.args.pool.now c.args.b c.loop-i.i c.from_ref-in-loop-i.result.now c.at-in-loop-i.result c.from_ref-in-loop-i.ensures.value c.at-in-loop-i.ensures.is _ c.in-None-Some.is-1)
