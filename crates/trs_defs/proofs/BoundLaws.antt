-- Bounds on the length of derivations: raised, for fewer steps, after some steps, and over a list of terms.
use Rattle.std.specs.Prelude.{◌≡◌, ◌≤◌, ℕ, ◌+◌, List, [], ◌∷◌}
use Rattle.std.proofs.Common.{zero, suc, subst, arith}
use native.Mathlib.Decide.{dec_le}
use Rattle.trs_defs.specs.Bounded.{IsBounded, IsBoundedBy}
use Rattle.trs_defs.specs.Derivation.{Derivation}
use Rattle.trs_defs.specs.Member.{In, in_first, in_rest}
use Rattle.trs_defs.specs.Run.{Run, Stay, Go}

pub bound_raised : {T : Type 0} (R : T → T → Type 0) (n : ℕ) (s : T) → IsBoundedBy R n s → IsBoundedBy R (suc n) s
bound_raised R zero s b = λ t r. absurd (b t r)
bound_raised R (suc n) s b = λ t r. bound_raised R n t (b t r)

-- any greater number is a bound
pub bound_raised_to : {T : Type 0} (R : T → T → Type 0) (n m : ℕ) (s : T) → n ≤ m → IsBoundedBy R n s → IsBoundedBy R m s
bound_raised_to R n zero s le b = let e : n ≡ 0 = omega arith in subst (λ k. IsBoundedBy R k s) e b
bound_raised_to {T} R n (suc m) s le b = go (dec_le n m) (λ l. bound_raised_to R n m s l b)
  where
    go : Dec (n ≤ m) → (n ≤ m → IsBoundedBy R m s) → IsBoundedBy R (suc m) s
    go (yes l) rec = bound_raised R m s (rec l)
    go (no l) rec = let e : n ≡ suc m = omega arith in subst (λ k. IsBoundedBy R k s) e b

-- what bounds the steps of R bounds those of a part of R
pub bound_of_fewer : {T : Type 0} (R Q : T → T → Type 0) → ((s t : T) → Q s t → R s t) → (n : ℕ) (s : T) → IsBoundedBy R n s → IsBoundedBy Q n s
bound_of_fewer R Q within zero s b = λ t r. b t (within s t r)
bound_of_fewer R Q within (suc n) s b = λ t r. bound_of_fewer R Q within n t (b t (within s t r))

-- a bound of a term bounds what the term reaches
pub bound_after_run : {T : Type 0} (R : T → T → Type 0) (n : ℕ) {s t : T} → Run R s t → IsBoundedBy R n s → IsBoundedBy R n t
bound_after_run R n Stay b = b
bound_after_run R zero (Go r q) b = absurd (b _ r)
bound_after_run R (suc n) (Go r q) b = bound_raised R n _ (bound_after_run R n q (b _ r))

-- one number for all terms of a list
pub bound_of_each : {T : Type 0} (R : T → T → Type 0) (us : List T) → ((u : T) → In u us → IsBounded R u) → (n : ℕ) × ((u : T) → In u us → IsBoundedBy R n u)
bound_of_each R [] each = (0, λ u i. elim i [ ])
bound_of_each {T} R (u ∷ us) each = go (each u in_first) (bound_of_each R us (λ v i. each v (in_rest i)))
  where
    go : IsBounded R u → (n : ℕ) × ((v : T) → In v us → IsBoundedBy R n v) → (n : ℕ) × ((v : T) → In v (u ∷ us) → IsBoundedBy R n v)
    go (m, b) (n, bs) = (m + n, both)
      where
        both : (v : T) → In v (u ∷ us) → IsBoundedBy R (m + n) v
        both v in_first = bound_raised_to R m (m + n) u (omega arith) b
        both v (in_rest i) = bound_raised_to R n (m + n) v (omega arith) (bs v i)

-- no derivation is longer than a bound
pub none_longer : {T : Type 0} (R : T → T → Type 0) (n : ℕ) (s t : T) → IsBoundedBy R n s → Derivation R (suc n) s t → ⊥
none_longer R zero s t b (m, r, d) = b m r
none_longer R (suc n) s t b (m, r, d) = none_longer R n m t (b m r) d
