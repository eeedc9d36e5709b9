-- Derivations of a given length. (Baader and Nipkow, 2.1.)
use Rattle.std.specs.Prelude.{◌≡◌, ℕ}
use Rattle.std.proofs.Common.{zero, suc}

-- n steps in a row lead from s to t
abbrev pub Derivation : {T : Type 0} → (T → T → Type 0) → ℕ → T → T → Type 0
Derivation R zero s t = s ≡ t
Derivation {T} R (suc n) s t = (m : T) × R s m × Derivation R n m t

-- some derivation, of length 0 too, leads from s to t
abbrev pub Reaches : {T : Type 0} → (T → T → Type 0) → T → T → Type 0
Reaches R s t = (n : ℕ) × Derivation R n s t
