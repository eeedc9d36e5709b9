use Rattle.std.proofs.Common.{◌≡◌, ◌<◌, Some, length, slice_get, refl, arith}
use Rattle.std.proofs.lemmas.Option.{slice_get_read}
use Rattle.crit_pairs.proofs.apart.RulesApart.right_size.Goals as goal

pub returns : goal.returns
returns c = λ rule numbered.
    let sizes = c.self.inside.sizes.items in
    let rules = c.self.inside.by_root.rules in
    let are = c.self.invariant.1.1.1.1.1 in
    let inside : c.args.i < length rules = rw c.self.view_is c.requires in
    let there : slice_get rules c.args.i ≡ Some rule = rw c.self.view_is numbered in
    let read = slice_get_read sizes (length sizes) c.args.i c.index.result.now refl (omega (arith, inside, are.count)) c.index.ensures in
    are.each c.args.i c.index.result.now rule read there
