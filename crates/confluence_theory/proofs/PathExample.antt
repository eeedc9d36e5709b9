-- The copying system once more: from g(a, a) a path at two parallel places to g(b, b), and its two rules from a overlap.
use Rattle.std.specs.Prelude.{◌≡◌, ℕ, [], ◌∷◌, List}
use Rattle.std.proofs.Common.{refl, inl, arith}
use Rattle.trs_defs.specs.Tree.{Tree, var, app, nil, cons}
use Rattle.trs_defs.specs.Renaming.{shifted}
use Rattle.trs_defs.specs.Substitution.{apply}
use Rattle.trs_defs.specs.Path.{PlacedRule, StepsAt, Follows}
use Rattle.confluence_theory.specs.ParallelPositions.{ArePairwiseParallel}
use Rattle.confluence_theory.specs.ParallelStep.{ParallelStepBy}
use Rattle.confluence_theory.specs.LabelledPath.{LabelledPath}
use Rattle.confluence_theory.specs.RuleRanks.{NumberedStep}
use Rattle.confluence_theory.specs.CriticalPeak.{Overlaps}
use Rattle.confluence_theory.proofs.FollowedPaths.{numbered_path}
use Rattle.confluence_theory.proofs.ParallelPaths.{parallel_path}
use Rattle.confluence_theory.proofs.CriticalCover.{overlap_unifies}
use Rattle.confluence_theory.proofs.Constants.{constant, rewrites}
use Rattle.confluence_theory.proofs.ParallelExample.{copier}

abbrev copies : Tree → Tree → Tree
copies s t = app 3 (cons s (cons t nil))

abbrev first_then_second : List PlacedRule
first_then_second = record { place = 1 ∷ []; rule = 0 } ∷ record { place = 2 ∷ []; rule = 1 } ∷ []

first : StepsAt copier.rules (1 ∷ []) 0 (copies (constant 0) (constant 0)) (copies (constant 1) (constant 0))
first = record { rule = rewrites 0 1; numbered = refl; substitution = λ v. var v; from = refl; to = refl }

second : StepsAt copier.rules (2 ∷ []) 1 (copies (constant 1) (constant 0)) (copies (constant 1) (constant 1))
second = record { rule = rewrites 0 1; numbered = refl; substitution = λ v. var v; from = refl; to = refl }

followed : Follows copier.rules first_then_second (copies (constant 0) (constant 0)) (copies (constant 1) (constant 1))
followed = (copies (constant 1) (constant 0), first, refl, (copies (constant 1) (constant 1), second, refl, refl))

parallel : ArePairwiseParallel first_then_second
parallel = ((inl (λ e. absurd (omega arith)), tt), (tt, tt))

one_parallel_step : ParallelStepBy copier.rules (copies (constant 0) (constant 0)) (copies (constant 1) (constant 1))
one_parallel_step = parallel_path copier.rules first_then_second _ _ parallel followed

by_numbers : LabelledPath (NumberedStep copier.rules) (0 ∷ 1 ∷ []) (copies (constant 0) (constant 0)) (copies (constant 1) (constant 1))
by_numbers = numbered_path copier.rules first_then_second _ _ followed

abbrev both_from_a : Overlaps copier.rules 0 1 (rewrites 0 1) (rewrites 0 1) []
both_from_a = record {
  inner_numbered = refl;
  outer_numbered = refl;
  not_itself = λ p e. absurd (omega arith);
  part = constant 0;
  there = refl;
  no_variable = λ v. absurd (cc v.1);
  outer_instance = λ v. var v;
  inner_instance = λ v. var v;
  meet = refl;
}

unified : (σ : ℕ → Tree) × (apply σ (constant 0) ≡ apply σ (shifted 0 (constant 0)))
unified = overlap_unifies copier.rules 0 1 (rewrites 0 1) (rewrites 0 1) [] both_from_a 0 (λ v h. absurd (grind arith))
