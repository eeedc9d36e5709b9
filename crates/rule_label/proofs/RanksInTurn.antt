-- Ranks that fit, read one after another.
use Rattle.std.specs.Prelude.{◌≡◌, ◌≢◌, ◌≤◌, ◌<◌, ◌↔◌, ℕ, Bool, true, false, List, [], ◌∷◌, ◌+◌, length, drop}
use Rattle.std.proofs.Common.{inl, inr, get_or, sym, ap, ◌∙◌, arith}
use Rattle.std.proofs.lemmas.List.{drop_more}
use Rattle.trs_defs.specs.Path.{PlacedRule}
use Rattle.confluence_theory.specs.RanksFit.{AreBelowOne, RanksFit}
use Rattle.confluence_theory.specs.RuleRanks.{rank_of}
use Rattle.rule_label.specs.Labelled.{ranks_along}
use Rattle.rule_label.specs.FittingRanks.{FitAfter}

module _ (a b : ℕ) where
  below_fit : (ranks : List ℕ) → AreBelowOne a b ranks → RanksFit a b ranks
  below_fit [] h = tt
  below_fit (c ∷ ranks) h = inr (inr h)

  module _ (c : ℕ) (ranks : List ℕ) where
    after_small : c < a → RanksFit a b (c ∷ ranks) → RanksFit a b ranks
    after_small lt (inl h) = h.1
    after_small lt (inr (inl h)) = below_fit ranks h.1
    after_small lt (inr (inr h)) = below_fit ranks h.1

    -- a rank below a does not end the run
    pub small_rank : (ended : Bool) → c < a → (FitAfter ended a b ranks) ↔ (FitAfter ended a b (c ∷ ranks))
    small_rank false lt = (λ h. inl (lt, h), λ h. after_small lt h)
    small_rank true lt = (λ h. (inl lt, h), λ h. h.1)

    after_large : a ≤ c → RanksFit a b (c ∷ ranks) → AreBelowOne a b ranks
    after_large le (inl h) = absurd (omega (arith, le, h.0))
    after_large le (inr (inl h)) = h.1
    after_large le (inr (inr h)) = h.1

    -- one below b ends it
    pub low_rank : (ended : Bool) → a ≤ c → c < b → (AreBelowOne a b ranks) ↔ (FitAfter ended a b (c ∷ ranks))
    low_rank false le lt = (λ h. inr (inr (inr lt, h)), λ h. after_large le h)
    low_rank true le lt = (λ h. (inr lt, h), λ h. h.1)

    -- the rank b ends it
    pub same_rank : a ≤ c → c ≡ b → (AreBelowOne a b ranks) ↔ (RanksFit a b (c ∷ ranks))
    same_rank le e = (λ h. inr (inl (e, h)), λ h. after_large le h)

    not_below : a ≤ c → b ≤ c → AreBelowOne a b (c ∷ ranks) → ⊥
    not_below le above (inl lt, h) = omega (arith, le, lt)
    not_below le above (inr lt, h) = omega (arith, above, lt)

    not_fitting : a ≤ c → b ≤ c → c ≢ b → RanksFit a b (c ∷ ranks) → ⊥
    not_fitting le above differ (inl h) = absurd (omega (arith, le, h.0))
    not_fitting le above differ (inr (inl h)) = differ h.0
    not_fitting le above differ (inr (inr h)) = not_below le above h

    -- no other rank fits
    pub no_rank : (ended : Bool) → a ≤ c → b ≤ c → ((c ≡ b) → ended ≡ true) → FitAfter ended a b (c ∷ ranks) → ⊥
    no_rank false le above only h = not_fitting le above (λ e. let wrong = only e in absurd cc) h
    no_rank true le above only h = not_below le above h

  pub nothing_left : (ended : Bool) → FitAfter ended a b []
  nothing_left false = tt
  nothing_left true = tt

-- the ranks that are left, from a step on
pub ranks_left : (ranks : List ℕ) (path : List PlacedRule) (i : ℕ) (s : PlacedRule) → i < length path → s ≡ get_or path i s
    → ranks_along ranks (drop i path) ≡ rank_of ranks s.rule ∷ ranks_along ranks (drop (i + 1) path)
ranks_left ranks path i s lt e = ap (ranks_along ranks) (drop_more path i s lt ∙ ap (λ x. x ∷ drop (i + 1) path) (sym e))
