-- Confluent relations, and the conditions on single steps that make them so. (Baader and Nipkow, sections 2.1 and
-- 2.7; Huet, Confluent reductions, 1980.)
use Rattle.trs_defs.specs.Run.{AtMostOne}
use Rattle.trs_defs.specs.Derivation.{Reaches}
use Rattle.trs_defs.specs.Joinable.{IsJoinable}

-- what is reached from one s is joinable
abbrev pub IsConfluentRelation : {T : Type 0} → (T → T → Type 0) → Type 0
IsConfluentRelation {T} R = (s t u : T) → Reaches R s t → Reaches R s u → IsJoinable R t u

-- what one s goes to in one step each is joinable
abbrev pub IsLocallyConfluent : {T : Type 0} → (T → T → Type 0) → Type 0
IsLocallyConfluent {T} R = (s t u : T) → R s t → R s u → IsJoinable R t u

-- some v is reached from t, and from u by at most one step
abbrev pub JoinsStrongly : {T : Type 0} → (T → T → Type 0) → T → T → Type 0
JoinsStrongly {T} R t u = (v : T) × Reaches R t v × AtMostOne R u v

abbrev pub IsStronglyConfluent : {T : Type 0} → (T → T → Type 0) → Type 0
IsStronglyConfluent {T} R = (s t u : T) → R s t → R s u → JoinsStrongly R t u

-- what one s goes to in one step each goes to one v in one step each
abbrev pub HasDiamond : {T : Type 0} → (T → T → Type 0) → Type 0
HasDiamond {T} R = (s t u : T) → R s t → R s u → (v : T) × R t v × R u v
