use Rattle.std.proofs.Common.{◌<◌, length, min, ap, ◌∙◌, arith}
use Rattle.rewrite_core.specs.ShiftedPath.{shifted_path}
use Rattle.path_text.specs.Pieces.{steps_of_path}
use Rattle.path_text.specs.Sharing.{longest_place}
use Rattle.path_text.proofs.Weighing.{longest_at}
use Rattle.path_text.proofs.sharing.DefinedPath.longest_at.Goals as goal

pub returns : goal.returns
returns c =
    let by = c.args.position.now in
    let steps = steps_of_path c.self.inside.path in
    let some : 0 < length steps = omega (arith, c.if-self-eq0.false, c.self.invariant.count_is) in
    longest_at by steps c.self.inside.longest c.saturating_add.result c.self.invariant.longest_is some (rw c.places.ensures.places at c.saturating_add.ensures)
    ∙ ap (λ s. min (longest_place (shifted_path by s)) 18446744073709551615) c.self.view_is
