-- Joinable. (Baader and Nipkow, definition 2.1.1.)
use Rattle.trs_defs.specs.Derivation.{Reaches}

-- some t is reached from both
abbrev pub IsJoinable : {T : Type 0} → (T → T → Type 0) → T → T → Type 0
IsJoinable {T} R t u = (v : T) × Reaches R t v × Reaches R u v
