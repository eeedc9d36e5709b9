-- What peaks and rules satisfy, where their conditions are passed.
use Rattle.std.specs.Prelude.{◌≡◌, ℕ, ◌+◌, List, [], ◌∷◌, length, map, zip, Ok}
use Rattle.std.proofs.Common.{refl, arith}
use Rattle.trs_defs.specs.Member.{In, in_first, in_rest}
use Rattle.trs_defs.specs.System.{RewriteRule}
use Rattle.confluence_theory.specs.Linear.{AreLeftLinear, AreRightLinear}
use Rattle.confluence_theory.specs.Peak.{Peak}
use Rattle.rewrite_core.specs.declared.checks.refusals.StepRefused.{StepRefused}
use Rattle.rewrite_core.specs.PlacedPeak.{PlacedPeak}
use Rattle.rewrite_core.specs.Check.{Check, Needs, holds, goes_on, each}
use Rattle.rewrite_core.proofs.Items.{passed_item}
use Rattle.crit_pairs.specs.PlainPeak.{plain}
use Rattle.closed_pairs.specs.LinearRules.{is_left_linear, is_linear, are_left_linear, are_linear}

-- the check of the peak and some item was passed
pub record HasPassed {B : Type 0} (check : ℕ → PlacedPeak → B → Check (Unit {0})) (peak : Peak) : Type 0 where
  pub number : ℕ
  pub placed : PlacedPeak
  pub item : B
  pub is : peak ≡ plain placed
  pub passed : check number placed item (Ok tt)

module _ {B : Type 0} (check : ℕ → PlacedPeak → B → Check (Unit {0})) where
  pub each_passed : (n : ℕ) (peaks : List PlacedPeak) (items : List B) (peak : Peak) → length items ≡ length peaks
      → each (λ k item. check k item.0 item.1) n (zip peaks items) (Ok tt) → In peak (map plain peaks) → HasPassed check peak
  each_passed n [] items peak same h member = absurd (elim member [ ])
  each_passed n (p ∷ peaks) [] peak same h member = absurd (omega (arith, same))
  each_passed n (p ∷ peaks) (b ∷ items) peak same (goes_on _ _ h k) in_first = record { number = n; placed = p; item = b; is = refl; passed = h }
  each_passed n (p ∷ peaks) (b ∷ items) peak same (goes_on _ _ h k) (in_rest member) = each_passed (n + 1) peaks items peak (omega (arith, same)) k member

needed : (fact : Type 0) (why : StepRefused) → Needs fact why (Ok tt) → fact
needed fact why (holds h) = h

module _ (rules : List RewriteRule) where
  pub left_linear : are_left_linear rules (Ok tt) → AreLeftLinear rules
  left_linear h k r e = needed _ _ (passed_item is_left_linear rules k r e h)

  pub both_left_linear : are_linear rules (Ok tt) → AreLeftLinear rules
  both_left_linear h k r e = (needed _ _ (passed_item is_linear rules k r e h)).0

  pub both_right_linear : are_linear rules (Ok tt) → AreRightLinear rules
  both_right_linear h k r e = (needed _ _ (passed_item is_linear rules k r e h)).1
