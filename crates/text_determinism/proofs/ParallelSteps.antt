-- A parallel step from one term to another is one.
use Rattle.std.specs.Prelude.{◌≡◌, ◌≢◌, ◌⊎◌, ℕ, ◌+◌, List, [], ◌∷◌, ◌++◌, map, refl}
use Rattle.std.proofs.Common.{ap, ap₂, sym, ◌∙◌, inl, inr, arith}
use native.Mathlib.Decide.{dec_lt}
use Rattle.trs_defs.specs.Tree.{Tree, Trees, var, app, nil, cons}
use Rattle.trs_defs.specs.System.{RewriteRule}
use Rattle.trs_defs.specs.Path.{PlacedRule}
use Rattle.term_pool.specs.Redexes.{below}
use Rattle.conclusion.specs.report_text.strategies.join_find.ParallelRow.{HasNoRootStep, IsRootStep, IsParallelStep, no_step, at_root, in_arguments}
use Rattle.conclusion.specs.report_text.strategies.join_find.ParallelRow.{AreParallelSteps, no_argument, one_argument}

module _ (rules : List RewriteRule) where
  abbrev InArguments : Tree → Tree → List PlacedRule → Type 0
  InArguments (app f ss) (app g ts) steps = AreParallelSteps rules 1 ss ts steps
  InArguments _ _ steps = ⊥

  abbrev root_step : ℕ → List PlacedRule
  root_step k = record { place = []; rule = k } ∷ []

  -- the terms are equal; or a rule leads from one to the other at the root; or the steps are those of the arguments
  abbrev Cases : Tree → Tree → List PlacedRule → Type 0
  Cases s t steps =
      ((s ≡ t) × (steps ≡ []))
      ⊎ (((s ≢ t) × ((k : ℕ) × IsRootStep rules s t k × (steps ≡ root_step k))) ⊎ ((s ≢ t) × HasNoRootStep rules s t × InArguments s t steps))

  cases : {s t : Tree} {steps : List PlacedRule} → IsParallelStep rules s t steps → Cases s t steps
  cases no_step = inl (refl, refl)
  cases (at_root {k = k} differ step) = inr (inl (differ, (k, step, refl)))
  cases (in_arguments differ none steps) = inr (inr (differ, none, steps))

  least_once : (s t : Tree) (j k : ℕ) → IsRootStep rules s t j → IsRootStep rules s t k → j ≡ k
  least_once s t j k h i = elim (dec_lt j k) [
    | yes less ↦ absurd (i.least j less h.steps)
    | no not_less ↦ elim (dec_lt k j) [ yes more ↦ absurd (h.least k more i.steps) | no not_more ↦ omega (arith, not_less, not_more) ]
  ]

  once_by : (s t : Tree) (a b : List PlacedRule) → (InArguments s t a → InArguments s t b → a ≡ b) → Cases s t a → Cases s t b → a ≡ b
  once_by s t a b inside (inl (same, e)) (inl (equal, d)) = e ∙ sym d
  once_by s t a b inside (inl (same, e)) (inr (inl (differ, k))) = absurd (differ same)
  once_by s t a b inside (inl (same, e)) (inr (inr (differ, rootless, k))) = absurd (differ same)
  once_by s t a b inside (inr (inl (differ, h))) (inl (same, e)) = absurd (differ same)
  once_by s t a b inside (inr (inl (differ, (j, step, e)))) (inr (inl (apart, (k, other, d)))) =
      e ∙ (ap root_step (least_once s t j k step other) ∙ sym d)
  once_by s t a b inside (inr (inl (differ, (j, step, e)))) (inr (inr (apart, none, k))) = absurd (none j step.steps)
  once_by s t a b inside (inr (inr (differ, none, h))) (inl (same, e)) = absurd (differ same)
  once_by s t a b inside (inr (inr (differ, none, h))) (inr (inl (apart, (k, step, e)))) = absurd (none k step.steps)
  once_by s t a b inside (inr (inr (differ, none, h))) (inr (inr (apart, rootless, k))) = inside h k

  mutual
    pub parallel_once : (s t : Tree) (a b : List PlacedRule) → IsParallelStep rules s t a → IsParallelStep rules s t b → a ≡ b
    parallel_once (var x) t a b h k = once_by (var x) t a b (λ i j. absurd i) (cases h) (cases k)
    parallel_once (app f ss) (var y) a b h k = once_by (app f ss) (var y) a b (λ i j. absurd i) (cases h) (cases k)
    parallel_once (app f ss) (app g ts) a b h k =
        once_by (app f ss) (app g ts) a b (λ i j. arguments_once ss 1 ts a b i j) (cases h) (cases k)

    arguments_once : (ss : Trees) (place : ℕ) (ts : Trees) (a b : List PlacedRule) → AreParallelSteps rules place ss ts a
        → AreParallelSteps rules place ss ts b → a ≡ b
    arguments_once nil place _ _ _ no_argument no_argument = refl
    arguments_once (cons s ss) place _ _ _ (one_argument {t = t} {ts = ts} {first = first} {rest = rest} h hs)
        (one_argument {first = other} {rest = more} k ks) =
        ap₂ (λ xs ys. map (below (place ∷ [])) xs ++ ys) (parallel_once s t first other h k) (arguments_once ss (place + 1) ts rest more hs ks)
