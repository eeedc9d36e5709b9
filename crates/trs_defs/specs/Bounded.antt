-- Bounds on the length of derivations.
use Rattle.std.specs.Prelude.{ℕ}
use Rattle.std.proofs.Common.{zero, suc}

-- no derivation from s is longer than n
abbrev pub IsBoundedBy : {T : Type 0} → (T → T → Type 0) → ℕ → T → Type 0
IsBoundedBy {T} R zero s = (t : T) → R s t → ⊥
IsBoundedBy {T} R (suc n) s = (t : T) → R s t → IsBoundedBy R n t

abbrev pub IsBounded : {T : Type 0} → (T → T → Type 0) → T → Type 0
IsBounded R s = (n : ℕ) × IsBoundedBy R n s
