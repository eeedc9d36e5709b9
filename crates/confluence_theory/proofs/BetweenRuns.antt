-- A relation with the diamond property between the steps and their runs gives confluence.
use Rattle.trs_defs.specs.Run.{Run, Stay, Go}
use Rattle.confluence_theory.specs.Confluence.{HasDiamond}
use Rattle.confluence_theory.proofs.Joins.{RunsJoin}
use Rattle.trs_defs.proofs.Runs.{flat, each}

-- one step against a run
pub strip : {T : Type 0} (R : T → T → Type 0) → HasDiamond R → (s t u : T) → R s t → Run R s u → (v : T) × Run R t v × R u v
strip R diamond s t u r Stay = (t, Stay, r)
strip R diamond s t u r (Go {m = m} r' q) =
    let (v, tv, mv) = diamond s t m r r' in
    let (w, vw, uw) = strip R diamond m v u mv q in
    (w, Go tv vw, uw)

pub diamond_confluent : {T : Type 0} (R : T → T → Type 0) → HasDiamond R → RunsJoin R
diamond_confluent R diamond s t u Stay q = (u, q, Stay)
diamond_confluent R diamond s t u (Go {m = m} r p) q =
    let (v, mv, uv) = strip R diamond s m u r q in
    let (w, tw, vw) = diamond_confluent R diamond m t v p mv in
    (w, tw, Go uv vw)

pub between_confluent : {T : Type 0} (Q R : T → T → Type 0) → ((s t : T) → Q s t → R s t) → ((s t : T) → R s t → Run Q s t) → HasDiamond R → RunsJoin Q
between_confluent Q R up down diamond s t u p q =
    let (v, tv, uv) = diamond_confluent R diamond s t u (each up p) (each up q) in
    (v, flat down tv, flat down uv)
