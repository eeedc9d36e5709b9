-- Rules whose variables are renamed apart from those of all rules of a system.
use Rattle.std.specs.Prelude.{◌≡◌, ℕ, List, Option, map}
use Rattle.trs_defs.specs.Tree.{Tree}
use Rattle.trs_defs.specs.Renaming.{shifted}
use Rattle.trs_defs.specs.System.{RewriteRule}
use Rattle.crit_pairs.specs.Skeletons.{opened, root_symbol}
use Rattle.crit_pairs.specs.SkeletonView.{skeleton_view}
use Rattle.crit_pairs.specs.declared.skeleton.Skeleton.{Skeleton}

-- the variables of rules are below 65,536
abbrev pub renamed_apart : RewriteRule → RewriteRule
renamed_apart rule = record { left = shifted 65536 rule.left; right = shifted 65536 rule.right }

-- these are the left sides of the rules, each renamed apart
abbrev pub AreApartLefts : List RewriteRule → List Tree → Type 0
AreApartLefts rules lefts = lefts ≡ map (λ (r : RewriteRule). (renamed_apart r).left) rules

-- these are the skeletons of the left sides of the rules
abbrev pub HaveSkeletons : List RewriteRule → List Skeleton → Type 0
HaveSkeletons rules skeletons = map skeleton_view skeletons ≡ map (λ (r : RewriteRule). opened r.left) rules

-- these are the roots of the left sides of the rules
abbrev pub HaveRoots : List RewriteRule → List (Option ℕ) → Type 0
HaveRoots rules roots = roots ≡ map (λ (r : RewriteRule). root_symbol (opened r.left)) rules
