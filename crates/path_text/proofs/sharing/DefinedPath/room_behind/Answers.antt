use Rattle.std.proofs.Common.{◌≡◌, ◌+◌, ◌*◌, ◌<◌, length, sym, ap, refl, ◌∙◌, arith}
use Rattle.rewrite_core.specs.ShiftedPath.{shifted_path}
use Rattle.path_text.specs.Pieces.{steps_of_path}
use Rattle.path_text.specs.Sharing.{path_weight}
use Rattle.path_text.specs.Parts.{room_left}
use Rattle.path_text.proofs.Weighing.{use_heavy, use_weighed}
use Rattle.path_text.proofs.sharing.DefinedPath.room_behind.Goals as goal

pub returns-in_err-more : goal.returns-in_err-more
returns-in_err-more c = λ position l.
    let steps = steps_of_path c.self.inside.path in
    let count = c.self.invariant.count_is in
    let past = c.in_err-more.ensures in
    let more : c.args.by * c.self.inside.count ≡ length position * length steps = rw (count, sym l) refl in
    let heavy : c.args.room < c.self.inside.weight + c.args.by * c.self.inside.count = omega (arith, past, c.ranges.room.fits) in
    c.from_residual.ensures
    ∙ use_heavy position steps c.args.room c.self.inside.weight (c.args.by * c.self.inside.count) c.self.invariant.weight_is more heavy
    ∙ ap (λ s. room_left c.args.room (path_weight (shifted_path position s))) c.self.view_is

pub returns-in_err-weight : goal.returns-in_err-weight
returns-in_err-weight c = λ position l.
    let steps = steps_of_path c.self.inside.path in
    let count = c.self.invariant.count_is in
    let more : c.in_ok-more.more ≡ length position * length steps = c.in_ok-more.ensures.1 ∙ rw (count, sym l) refl in
    let past = c.in_err-weight.ensures in
    let heavy : c.args.room < c.self.inside.weight + c.in_ok-more.more = omega (arith, past, c.ranges.room.fits) in
    c.from_residual-in_err-weight.ensures
    ∙ use_heavy position steps c.args.room c.self.inside.weight c.in_ok-more.more c.self.invariant.weight_is more heavy
    ∙ ap (λ s. room_left c.args.room (path_weight (shifted_path position s))) c.self.view_is

pub returns : goal.returns
returns c = λ position l.
    let steps = steps_of_path c.self.inside.path in
    let count = c.self.invariant.count_is in
    let more : c.in_ok-more.more ≡ length position * length steps = c.in_ok-more.ensures.1 ∙ rw (count, sym l) refl in
    use_weighed position steps c.args.room c.self.inside.weight c.in_ok-more.more c.self.invariant.weight_is more c.in_ok-weight.weight c.checked_sub.result
    c.in_ok-weight.ensures.1 c.checked_sub.ensures
    ∙ ap (λ s. room_left c.args.room (path_weight (shifted_path position s))) c.self.view_is
