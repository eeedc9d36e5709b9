use Rattle.std.proofs.Common.{◌≡◌, Some, slice_get}
use Rattle.trs_core.specs.View.{tree}
use Rattle.term_pool.proofs.StepLemmas.{rule_numbered}
use Rattle.loop_find.specs.Closures.{Closure}
use Rattle.loop_find.specs.Links.{closures_of}
use Rattle.loop_find.proofs.LinkLists.{fit_sides}
use Rattle.loop_find.proofs.RuleClosures.{rule_sides}
use Rattle.loop_find.proofs.trying.expand.Goals as goal

pub try_closure-requires : goal.try_closure-requires
try_closure-requires g c =
    let left = tree c.rule.inside.left in
    let right = tree c.rule.inside.right in
    let numbered = rule_numbered c.args.trs.now.rules c.rules.result.now c.args.number c.in-Some.rule.now left right c.rules.ensures.rules c.in-Some.ensures.lookup.3.0 c.in-Some.ensures.lookup.1 c.rule.view_is in
    let sides : (cl : Closure) → slice_get (closures_of c.args.closures.now) c.args.number ≡ Some cl → (tree c.rule.inside.left ≡ cl.left) × (tree c.rule.inside.right ≡ cl.right) =
    rule_sides c.args.trs.now.rules (closures_of c.args.closures.now) c.requires.rules.0 c.requires.rules.1 c.args.number (record { left = left; right = right }) numbered in
    let fit = fit_sides c.args.trs.now.arities c.args.closures.now c.requires.sound c.args.number c.requires.there left right sides in
    record {
      trial = record {
        system = c.systems_are_valid.ensures.valid;
        arities = c.systems_are_valid.ensures.bytes;
        few = c.systems_are_valid.ensures.limits.rules;
        copies = c.requires.copies;
        sound = c.requires.sound;
        there = c.requires.there;
        sides = sides;
        left_fit = fit.0;
        right_fit = fit.1;
        right_size = c.size.ensures;
        within = c.requires.within;
      };
    }

pub try_closure-requires-in-None : goal.try_closure-requires-in-None
try_closure-requires-in-None g c =
    let read = c.in_ok-sides-in-None in
    let fit = fit_sides c.args.trs.now.arities c.args.closures.now c.requires.sound c.args.number c.requires.there (tree read.sides.left) (tree read.sides.right) read.ensures in
    record {
      trial = record {
        system = c.systems_are_valid.ensures.valid;
        arities = c.systems_are_valid.ensures.bytes;
        few = c.systems_are_valid.ensures.limits.rules;
        copies = c.requires.copies;
        sound = c.requires.sound;
        there = c.requires.there;
        sides = read.ensures;
        left_fit = fit.0;
        right_fit = fit.1;
        right_size = c.size-in-None.ensures;
        within = c.requires.within;
      };
    }
