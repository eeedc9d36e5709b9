-- Newman's lemma, for steps with bounds.
use Rattle.trs_defs.specs.Run.{Run, Stay, Go}
use Rattle.trs_defs.specs.Bounded.{IsBounded, IsBoundedBy}
use Rattle.confluence_theory.proofs.Joins.{Joins, RunsJoin, StepsJoin}
use Rattle.std.proofs.Common.{ℕ, zero, suc}
use Rattle.trs_defs.proofs.Runs.{then}

-- the peaks of runs from a term with a bound
pub joins_within : {T : Type 0} (R : T → T → Type 0) → StepsJoin R → (n : ℕ) (s t u : T) → IsBoundedBy R n s → Run R s t → Run R s u → Joins R t u
joins_within R local n s t u b Stay q = (u, q, Stay)
joins_within R local n s t u b p Stay = (t, Stay, p)
joins_within R local zero s t u b (Go {m = m} r p) (Go {m = k} r' q) = absurd (b m r)
joins_within R local (suc n) s t u b (Go {m = m} r p) (Go {m = k} r' q) =
    let (v, mv, kv) = local s m k r r' in
    let (w, tw, vw) = joins_within R local n m t v (b m r) p mv in
    let (x, wx, ux) = joins_within R local n k w u (b k r') (then kv vw) q in
    (x, then tw wx, ux)

pub newman : {T : Type 0} (R : T → T → Type 0) → ((s : T) → IsBounded R s) → StepsJoin R → RunsJoin R
newman R bounded local s t u p q = joins_within R local (bounded s).0 s t u (bounded s).1 p q
