-- The notions of confluence by runs, in place of derivations with their lengths.
use Rattle.trs_defs.specs.Run.{Run, AtMostOne}
use Rattle.trs_defs.specs.Joinable.{IsJoinable}
use Rattle.confluence_theory.specs.Confluence.{IsConfluentRelation, JoinsStrongly}
use Rattle.trs_defs.proofs.Derivations.{reaches_of_run, run_of_reaches}

abbrev pub Joins : {T : Type 0} → (T → T → Type 0) → T → T → Type 0
Joins {T} R t u = (v : T) × Run R t v × Run R u v

abbrev pub RunsJoin : {T : Type 0} → (T → T → Type 0) → Type 0
RunsJoin {T} R = (s t u : T) → Run R s t → Run R s u → Joins R t u

abbrev pub StepsJoin : {T : Type 0} → (T → T → Type 0) → Type 0
StepsJoin {T} R = (s t u : T) → R s t → R s u → Joins R t u

-- a run on one side and at most one step on the other
abbrev pub MeetsStrongly : {T : Type 0} → (T → T → Type 0) → T → T → Type 0
MeetsStrongly {T} R t u = (v : T) × Run R t v × AtMostOne R u v

abbrev pub StepsJoinStrongly : {T : Type 0} → (T → T → Type 0) → Type 0
StepsJoinStrongly {T} R = (s t u : T) → R s t → R s u → MeetsStrongly R t u

pub joins_of : {T : Type 0} (R : T → T → Type 0) {t u : T} → IsJoinable R t u → Joins R t u
joins_of R {t} {u} (v, tv, uv) = (v, run_of_reaches R t v tv, run_of_reaches R u v uv)

pub joinable_of : {T : Type 0} (R : T → T → Type 0) {t u : T} → Joins R t u → IsJoinable R t u
joinable_of R (v, tv, uv) = (v, reaches_of_run tv, reaches_of_run uv)

pub meets_of : {T : Type 0} (R : T → T → Type 0) {t u : T} → JoinsStrongly R t u → MeetsStrongly R t u
meets_of R {t} {u} (v, tv, uv) = (v, run_of_reaches R t v tv, uv)

pub confluent_of : {T : Type 0} (R : T → T → Type 0) → RunsJoin R → IsConfluentRelation R
confluent_of R joins s t u p q = joinable_of R (joins s t u (run_of_reaches R s t p) (run_of_reaches R s u q))
