use Rattle.std.proofs.Common.{◌<◌, refl}
use Rattle.std.proofs.lemmas.List.Elements.{All-nil}
use Rattle.trs_core.specs.View.{tree}
use Rattle.term_pool.proofs.NarrowLaws.{narrow_of_well_formed}
use Rattle.loop_find.proofs.Extensions.{whole_turn}
use Rattle.loop_find.proofs.trying.try_closure.Goals as goal

pub try_below-requires-clause-part : goal.try_below-requires-clause-part
try_below-requires-clause-part g c =
    let right = tree c.args.trial.now.right.now in
    rw c.new-place.ensures.items (record {
      there = refl;
      positive = All-nil (λ n. 0 < n);
      narrow = narrow_of_well_formed c.args.trial.now.trs.now.arities c.requires.trial.arities right c.requires.trial.right_fit.well_formed;
    })

pub returns-clause-turn : goal.returns-clause-turn
returns-clause-turn g c = λ cl e.
    whole_turn c.args.trial.now.trs.now.rules c.args.trial.now.budget cl c.new-place.result.items (tree c.args.trial.now.right.now) c.new-place.ensures.items (c.requires.trial.sides cl e).1
    c.args.closures.now c.try_below.new.closures _ c.in_ok-turn.turn (c.in_ok-turn.ensures.turn cl e)
