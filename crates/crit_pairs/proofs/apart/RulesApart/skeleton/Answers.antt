use Rattle.std.proofs.Common.{◌≡◌, ◌<◌, Some, length, slice_get, arith}
use Rattle.crit_pairs.proofs.SkeletonLaws.{skeletons_count, skeleton_read}
use Rattle.crit_pairs.proofs.apart.RulesApart.skeleton.Goals as goal

pub returns : goal.returns
returns c = λ rule numbered.
    let skeletons = c.self.inside.skeletons.items in
    let rules = c.self.inside.by_root.rules in
    let inside : c.args.i < length rules = rw c.self.view_is c.requires in
    let there : slice_get rules c.args.i ≡ Some rule = rw c.self.view_is numbered in
    let count = skeletons_count skeletons rules c.self.invariant.1.0 in
    skeleton_read skeletons rules c.args.i c.index.result.now rule c.self.invariant.1.0 (omega (arith, inside, count)) c.index.ensures there
