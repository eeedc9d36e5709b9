-- Paths by positions are paths by the numbers of their rules.
use Rattle.std.specs.Prelude.{ℕ, List, [], ◌∷◌, map}
use Rattle.std.proofs.Common.{refl}
use Rattle.trs_defs.specs.Tree.{Tree}
use Rattle.trs_defs.specs.System.{RewriteRule, Numbered}
use Rattle.trs_defs.specs.Step.{here, RootStep}
use Rattle.trs_defs.specs.Path.{PlacedRule, StepsAt, Follows}
use Rattle.confluence_theory.specs.LabelledPath.{LabelledPath}
use Rattle.confluence_theory.specs.RuleRanks.{NumberedStep}
use Rattle.trs_defs.proofs.Contexts.{inside_at}

numbered_at : (rules : List RewriteRule) (p : List ℕ) (k : ℕ) (t u : Tree) → StepsAt rules p k t u → NumberedStep rules k t u
numbered_at rules p k t u s =
    let left : Tree = s.rule.left in
    let right : Tree = s.rule.right in
    inside_at (RootStep (Numbered rules k)) p t _ _ u s.from s.to (here (left, right, s.substitution, s.numbered, refl, refl))

pub numbered_path : (rules : List RewriteRule) (path : List PlacedRule) (t u : Tree) → Follows rules path t u
    → LabelledPath (NumberedStep rules) (map (λ s. s.rule) path) t u
numbered_path rules [] t u e = e
numbered_path rules (s ∷ path) t u (m, step, limits, rest) = (m, numbered_at rules s.place s.rule t m step, numbered_path rules path m u rest)
