-- Conversion: the least equivalence that has all steps of a relation. (Baader and Nipkow, definition 2.1.1.)
use Rattle.std.specs.Prelude.{◌↔◌, List}
use Rattle.trs_defs.specs.Tree.{Tree}
use Rattle.trs_defs.specs.System.{RewriteRule}
use Rattle.trs_defs.specs.Step.{Step}

pub data Converted {T : Type 0} (R : T → T → Type 0) : T → T → Type 0 where
  by_step : {s t : T} → R s t → Converted R s t
  no_step : {t : T} → Converted R t t
  backwards : {s t : T} → Converted R s t → Converted R t s
  onwards : {s t u : T} → Converted R s t → Converted R t u → Converted R s u

-- two terms are converted by the rules exactly where they are by the others
abbrev pub HaveSameConversions : List RewriteRule → List RewriteRule → Type 0
HaveSameConversions rules others = (s t : Tree) → Converted (Step rules) s t ↔ Converted (Step others) s t
