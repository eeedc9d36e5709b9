-- Strong confluence gives confluence.
use Rattle.trs_defs.specs.Run.{Run, Stay, Go, AtMostOne, Same, Once}
use Rattle.confluence_theory.proofs.Joins.{RunsJoin, MeetsStrongly, StepsJoinStrongly}
use Rattle.trs_defs.proofs.Runs.{then, at_most_run}

-- at most one step against a run
pub strip : {T : Type 0} (R : T → T → Type 0) → StepsJoinStrongly R → (s t u : T) → AtMostOne R s t → Run R s u → MeetsStrongly R t u
strip R strong s t u Same q = (u, q, Same)
strip R strong s t u (Once r) Stay = (t, Stay, Once r)
strip R strong s t u (Once r) (Go {m = m} r' q) =
    let (v, tv, mv) = strong s t m r r' in
    let (w, vw, uw) = strip R strong m v u mv q in
    (w, then tv vw, uw)

pub strong_confluent : {T : Type 0} (R : T → T → Type 0) → StepsJoinStrongly R → RunsJoin R
strong_confluent R strong s t u Stay q = (u, q, Stay)
strong_confluent R strong s t u (Go {m = m} r p) q =
    let (v, mv, uv) = strip R strong s m u (Once r) q in
    let (w, tw, vw) = strong_confluent R strong m t v p mv in
    (w, tw, then (at_most_run uv) vw)
