-- Two paths that lead to one term.
use Rattle.std.specs.Prelude.{◌≡◌, ℕ, List, Option, Some, None}
use Rattle.trs_defs.specs.Tree.{Tree}
use Rattle.trs_defs.specs.System.{RewriteRule}
use Rattle.trs_defs.specs.Path.{PlacedRule}
use Rattle.trs_core.specs.View.{tree}
use Rattle.trs_core.specs.declared.terms.Term.{Term}
use Rattle.rewrite_core.specs.declared.checks.refusals.StepRefused.TheVariants.{EndsDiffer}
use Rattle.rewrite_core.specs.Check.{Check, Needs, ◌>>=◌}
use Rattle.rewrite_core.specs.PathCheck.{Runs}

-- path i of item n from s and path j of it from t are followed, and lead to one term
abbrev pub ends_meet : List RewriteRule → ℕ → Tree → List PlacedRule → ℕ → Tree → List PlacedRule → ℕ → Check (Unit {0})
ends_meet rules n s path i t other j = do
  end ← Runs rules s path n i
  other_end ← Runs rules t other n j
  Needs (end ≡ other_end) (EndsDiffer n)

-- the term where there is one, and the start where nothing was made of it
abbrev pub made_of : Tree → Option Term → Tree
made_of start None = start
made_of start (Some t) = tree t
