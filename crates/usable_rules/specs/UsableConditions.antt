-- The conditions of a step that removes pairs by an order, where only the usable rules have to be weak.
-- (Hirokawa and Middeldorp, 2007; Giesl, Thiemann, Schneider-Kamp and Falke, 2006.)
use Rattle.std.specs.Prelude.{ℕ, List, ◌++◌, zip, length, Result, Ok}
use Rattle.trs_defs.specs.System.{RewriteRule}
use Rattle.pair_theory.specs.DependencyPair.{DependencyPair}
use Rattle.rewrite_core.specs.declared.checks.refusals.StepRefused.{StepRefused}
use Rattle.rewrite_core.specs.Check.{Check, ◌>>=◌}
use Rattle.dp_core.specs.Numbered.{TakesPairs, AreItemsOf}
use Rattle.dp_core.specs.Symbols.{symbols_of_rules, symbols_below_roots}
use Rattle.dp_core.specs.PairConditions.{Comparing, removal_conditions}
use Rattle.usable_rules.specs.AreUsable.{AreUsableRules}

-- the numbers of the usable rules, ascending, and these rules are the value
pub data TakesUsableRules (rules : List RewriteRule) (pairs : List DependencyPair) : Result (List ℕ × List RewriteRule) StepRefused → Type 0 where
  usable_taken : (numbers : List ℕ) (usable : List RewriteRule) → AreUsableRules rules pairs numbers
      → AreItemsOf rules numbers usable → TakesUsableRules rules pairs (Ok (numbers, usable))

-- of the pairs of the numbers, where the usable rules are weak
abbrev pub usable_conditions : Comparing → List RewriteRule → List DependencyPair → List ℕ → Check (List ℕ)
usable_conditions comparing rules all numbers = do
  pairs ← TakesPairs all numbers
  usable ← TakesUsableRules rules pairs
  removal_conditions comparing (symbols_of_rules usable.1 ++ symbols_below_roots pairs) (zip usable.0 usable.1) (length rules) numbers pairs
