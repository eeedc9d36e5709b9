use Rattle.std.proofs.Common.{◌≡◌, refl, subst, arith}
use Rattle.std.proofs.lemmas.Bool.Decides.{nat_tests}
use Rattle.trs_core.specs.View.{tree}
use Rattle.trs_core.proofs.PlainRules.{CountsOn, small_variables, none_extra}
use Rattle.trs_core.proofs.plain.is_plain_rule.Goals as goal

pub returns-clause-faultless : goal.returns-clause-faultless
returns-clause-faultless c e =
    let n = c.is_plain.new.tally.variables in
    let same : c.is_plain-2.new.tally.variables ≡ n = grind (arith, nat_tests, e) in
    let left = c.if-not-is_plain.ensures in
    let right = c.if-not-is_plain-2.ensures in
    let counts : CountsOn n n (tree c.rule.inside.right) = subst (λ m. CountsOn n m (tree c.rule.inside.right)) same (right.variables refl) in
    rw (← c.rule.view_is) record {
      left_no_variable = λ is. let yes = c.is_variable.ensures.1 is in let no = c.if-is_variable.false in absurd cc;
      no_extra = none_extra (record { left = tree c.rule.inside.left; right = tree c.rule.inside.right }) n (left.variables refl) counts;
      left_well_formed = left.well_formed refl;
      right_well_formed = right.well_formed refl;
      left_small = small_variables _ _ (tree c.rule.inside.left) (left.variables refl) (left.small (omega arith));
      right_small = small_variables _ _ (tree c.rule.inside.right) counts (left.small (omega arith));
    }
