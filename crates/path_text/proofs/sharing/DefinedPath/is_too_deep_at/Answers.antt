use Rattle.std.proofs.Common.{◌<◌, length, refl, sym, ap, ◌∙◌, arith}
use Rattle.path_text.specs.Pieces.{steps_of_path}
use Rattle.path_text.specs.Sharing.{longest_place}
use Rattle.path_text.specs.Paths.{is_too_deep}
use Rattle.path_text.proofs.Weighing.{deep, saturated}
use Rattle.path_text.proofs.sharing.DefinedPath.is_too_deep_at.Goals as goal

pub returns : goal.returns
returns c =
    let by = c.args.position.now in
    let steps = steps_of_path c.self.inside.path in
    let some : 0 < length by = omega (arith, rw c.places-by.ensures.places at c.if-by-eq0.false) in
    let full : 0 < length steps = omega (arith, c.if-self-eq0.false, c.self.invariant.count_is) in
    saturated c.saturating_add.result c.self.inside.longest (length by) (longest_place steps) c.self.invariant.longest_is (rw c.places-by.ensures.places at c.saturating_add.ensures)
    ∙ sym (deep by steps (longest_place steps) refl some full)
    ∙ ap (is_too_deep by) c.self.view_is
