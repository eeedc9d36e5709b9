-- Paths of one step.
use Rattle.std.specs.Prelude.{◌≡◌, ◌<◌, ◌≤◌, ℕ, List, [], ◌∷◌, length, IsTrue, Ok}
use Rattle.std.proofs.Common.{get_or, refl, sym, ap, subst, arith}
use Rattle.trs_defs.specs.Tree.{Tree}
use Rattle.trs_defs.specs.Size.{within_limits}
use Rattle.trs_defs.specs.System.{RewriteRule}
use Rattle.trs_defs.specs.Path.{PlacedRule, StepsAt}
use Rattle.rewrite_core.specs.PathCheck.{Runs, followed}

stands_alone : (steps : List PlacedRule) (s : PlacedRule) → 1 ≤ length steps → length steps < 2 → s ≡ get_or steps 0 s → steps ≡ s ∷ []
stands_alone [] s some few is = absurd (omega (arith, some))
stands_alone (x ∷ []) s some few is = ap (λ z. z ∷ []) (sym is)
stands_alone (x ∷ y ∷ steps) s some few is = absurd (omega (arith, few))

pub single_step : (rules : List RewriteRule) (steps : List PlacedRule) (s : PlacedRule) (t u : Tree) (item number : ℕ) → 1 ≤ length steps → length steps < 2 → s ≡ get_or steps 0 s
    → StepsAt rules s.place s.rule t u → IsTrue (within_limits u) → Runs rules t steps item number (Ok u)
single_step rules steps s t u item number some few is step within =
    subst (λ z. Runs rules t z item number (Ok u)) (sym (stands_alone steps s some few is)) (followed u (u, step, within, refl))
