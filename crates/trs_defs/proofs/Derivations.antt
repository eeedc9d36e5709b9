-- Derivations of any relation: joined, carried over, shortened.
use Rattle.std.specs.Prelude.{◌≡◌, ℕ, ◌+◌, refl}
use Rattle.std.proofs.Common.{zero, suc, ap, sym, subst, zero-add, arith}
use Rattle.trs_defs.specs.Run.{Run, Stay, Go}
use Rattle.trs_defs.specs.Derivation.{Derivation, Reaches}

-- one derivation after another
pub derivation_joined : {T : Type 0} (R : T → T → Type 0) (m n : ℕ) (s t u : T)
    → Derivation R m s t → Derivation R n t u → Derivation R (m + n) s u
derivation_joined R zero n s t u d e = rw zero-add (subst (λ x. Derivation R n x u) (sym d) e)
derivation_joined {T = T} R (suc m) n s t u d e =
    let whole : Derivation R (suc (m + n)) s u = (d.0, d.1, derivation_joined R m n d.0 t u d.2 e) in
    let same : suc (m + n) ≡ suc m + n = omega arith in
    subst (λ k. Derivation R k s u) same whole

pub reaches_joined : {T : Type 0} (R : T → T → Type 0) (s t u : T) → Reaches R s t → Reaches R t u → Reaches R s u
reaches_joined R s t u d e = (d.0 + e.0, derivation_joined R d.0 e.0 s t u d.1 e.1)

pub reaches_itself : {T : Type 0} (R : T → T → Type 0) (s : T) → Reaches R s s
reaches_itself R s = (0, refl)

pub reaches_by_one : {T : Type 0} (R : T → T → Type 0) (s t : T) → R s t → Reaches R s t
reaches_by_one R s t step = (1, (t, step, refl))

-- a function that takes the steps of one relation to steps of another takes derivations to derivations
pub derivation_carried : {T U : Type 0} (R : T → T → Type 0) (S : U → U → Type 0) (k : T → U)
    → ((a b : T) → R a b → S (k a) (k b)) → (n : ℕ) (s t : T) → Derivation R n s t → Derivation S n (k s) (k t)
derivation_carried R S k keeps zero s t d = ap k d
derivation_carried R S k keeps (suc n) s t d = (k d.0, keeps s d.0 d.1, derivation_carried R S k keeps n d.0 t d.2)

pub reaches_carried : {T U : Type 0} (R : T → T → Type 0) (S : U → U → Type 0) (k : T → U)
    → ((a b : T) → R a b → S (k a) (k b)) → (s t : T) → Reaches R s t → Reaches S (k s) (k t)
reaches_carried R S k keeps s t d = (d.0, derivation_carried R S k keeps d.0 s t d.1)

-- the same derivation without its last step
pub derivation_without_last : {T : Type 0} (R : T → T → Type 0) (n : ℕ) (s t : T)
    → Derivation R (suc n) s t → (v : T) × Derivation R n s v
derivation_without_last R zero s t d = (s, refl)
derivation_without_last R (suc n) s t d =
    let rest = derivation_without_last R n d.0 t d.2 in
    (rest.0, (d.0, d.1, rest.1))

-- the first n steps of m more of them
pub derivation_begun : {T : Type 0} (R : T → T → Type 0) (m n : ℕ) (s t : T)
    → Derivation R (m + n) s t → (v : T) × Derivation R n s v
derivation_begun R zero n s t d = (t, rw zero-add at d)
derivation_begun R (suc m) n s t d =
    let same : suc m + n ≡ suc (m + n) = omega arith in
    let longer : Derivation R (suc (m + n)) s t = subst (λ k. Derivation R k s t) same d in
    let rest = derivation_without_last R (m + n) s t longer in
    derivation_begun R m n s rest.0 rest.1

-- Steps in a row are a derivation of some length, and back.
pub reaches_of_run : {T : Type 0} {R : T → T → Type 0} {s t : T} → Run R s t → Reaches R s t
reaches_of_run Stay = (0, refl)
reaches_of_run (Go {m = m} step run) =
    let rest = reaches_of_run run in
    (suc rest.0, (m, step, rest.1))

pub run_of_derivation : {T : Type 0} (R : T → T → Type 0) (n : ℕ) (s t : T) → Derivation R n s t → Run R s t
run_of_derivation R zero s t d = subst (λ x. Run R s x) d Stay
run_of_derivation R (suc n) s t d = Go d.1 (run_of_derivation R n d.0 t d.2)

pub run_of_reaches : {T : Type 0} (R : T → T → Type 0) (s t : T) → Reaches R s t → Run R s t
run_of_reaches R s t d = run_of_derivation R d.0 s t d.1
