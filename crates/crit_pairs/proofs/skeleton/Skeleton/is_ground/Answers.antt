use Rattle.std.proofs.Common.{◌∙◌, ap, sym}
use Rattle.crit_pairs.specs.Skeletons.{mark_of}
use Rattle.crit_pairs.proofs.SkeletonLaws.{ground_by_mark}
use Rattle.crit_pairs.proofs.skeleton.Skeleton.is_ground.Goals as goal

pub returns-in-Some : goal.returns-in-Some
returns-in-Some c = λ _ t is. ground_by_mark t _ (ap mark_of (sym is) ∙ (sym c.mark.ensures ∙ c.in-Some.is))

pub returns-in-None : goal.returns-in-None
returns-in-None c = λ e. absurd cc
