-- Critical peaks without the position at which the inner rule was applied.
use Rattle.rewrite_core.specs.PlacedPeak.{PlacedPeak}
use Rattle.confluence_theory.specs.Peak.{Peak}

-- the peak, with no position
abbrev pub plain : PlacedPeak → Peak
plain p = record { inner = p.inner; outer = p.outer; top = p.top; left = p.left; right = p.right }
