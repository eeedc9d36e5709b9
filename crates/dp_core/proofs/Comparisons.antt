-- What a comparison answers of the conditions.
use Rattle.std.specs.Prelude.{◌≡◌, ◌↔◌, ℕ, ◌+◌, Bool, true, false, IsTrue, Ok, Err, refl}
use Rattle.trs_defs.specs.Tree.{Tree}
use Rattle.pair_theory.specs.Marked.{mark}
use Rattle.pair_theory.specs.DependencyPair.{DependencyPair}
use Rattle.rewrite_core.specs.declared.checks.refusals.StepRefused.{StepRefused}
use Rattle.rewrite_core.specs.declared.checks.refusals.StepRefused.TheVariants.{TooBig, PairNotWeak}
use Rattle.rewrite_core.specs.declared.checks.refusals.CheckFault.{CheckFault}
use Rattle.rewrite_core.specs.declared.checks.refusals.CheckFault.TheVariants.{Refused}
use Rattle.rewrite_core.specs.Check.{Refuses, Asks, yes_it_does, no_it_does_not, absent, present, holds, lacks, stops, goes_on}
use Rattle.rewrite_core.proofs.Answering.{refused_first}
use Rattle.dp_core.specs.PairConditions.{Comparing, is_weakly_above, pair_is_weak}

module _ (comparing : Comparing) (s t : Tree) (item : ℕ) (otherwise : StepRefused) where
  pub too_big : comparing.is_too_big s t → is_weakly_above comparing s t item otherwise (Err (TooBig item))
  too_big h = stops _ (present h)

  pub weakly_above : (comparing.is_too_big s t → ⊥) → comparing.weak s t → is_weakly_above comparing s t item otherwise (Ok tt)
  weakly_above fits h = goes_on tt _ (absent fits) (holds h)

  pub not_above : (comparing.is_too_big s t → ⊥) → (comparing.weak s t → ⊥) → is_weakly_above comparing s t item otherwise (Err otherwise)
  not_above fits h = goes_on tt _ (absent fits) (lacks h)

  pub fits : is_weakly_above comparing s t item otherwise (Ok tt) → comparing.is_too_big s t → ⊥
  fits (goes_on _ _ (absent h) (holds k)) = h

  pub is_above : is_weakly_above comparing s t item otherwise (Ok tt) → comparing.weak s t
  is_above (goes_on _ _ (absent h) (holds k)) = k

asked : (fact : Type 0) (b : Bool) → (IsTrue b ↔ fact) → Asks fact (Ok b)
asked fact true h = yes_it_does (h.0 refl)
asked fact false h = no_it_does_not (λ f. let not_so : false ≡ true = h.1 f in absurd cc)

module _ (comparing : Comparing) (rules n : ℕ) (p : DependencyPair) where
  pub pair_refused : (fault : CheckFault) → Refuses (is_weakly_above comparing (mark p.from) (mark p.to) (rules + n) (PairNotWeak n)) fault
      → Refuses (pair_is_weak comparing rules n p) fault
  pair_refused fault h = refused_first (is_weakly_above comparing (mark p.from) (mark p.to) (rules + n) (PairNotWeak n)) _ fault h

  pub pair_answered : (strict : Bool) → is_weakly_above comparing (mark p.from) (mark p.to) (rules + n) (PairNotWeak n) (Ok tt)
      → (IsTrue strict ↔ comparing.strict (mark p.from) (mark p.to)) → pair_is_weak comparing rules n p (Ok strict)
  pair_answered strict h k = goes_on tt _ h (asked (comparing.strict (mark p.from) (mark p.to)) strict k)

  -- a refused pair
  pub pair_too_big : comparing.is_too_big (mark p.from) (mark p.to) → pair_is_weak comparing rules n p (Err (TooBig (rules + n)))
  pair_too_big h = pair_refused (Refused (TooBig (rules + n))) (too_big comparing (mark p.from) (mark p.to) (rules + n) (PairNotWeak n) h)

  module _ (small : comparing.is_too_big (mark p.from) (mark p.to) → ⊥) where
    pub pair_not_weak : (comparing.weak (mark p.from) (mark p.to) → ⊥) → pair_is_weak comparing rules n p (Err (PairNotWeak n))
    pair_not_weak h = pair_refused (Refused (PairNotWeak n)) (not_above comparing (mark p.from) (mark p.to) (rules + n) (PairNotWeak n) small h)

    pub pair_strict : comparing.weak (mark p.from) (mark p.to) × comparing.strict (mark p.from) (mark p.to) → pair_is_weak comparing rules n p (Ok true)
    pair_strict h =
        pair_answered true (weakly_above comparing (mark p.from) (mark p.to) (rules + n) (PairNotWeak n) small h.0) (λ yes. h.1, λ strict. refl)

    pub pair_only_weak : comparing.weak (mark p.from) (mark p.to) × (comparing.strict (mark p.from) (mark p.to) → ⊥) → pair_is_weak comparing rules n p (Ok false)
    pair_only_weak h =
        pair_answered false (weakly_above comparing (mark p.from) (mark p.to) (rules + n) (PairNotWeak n) small h.0) (λ yes. absurd cc, λ strict. absurd (h.1 strict))
