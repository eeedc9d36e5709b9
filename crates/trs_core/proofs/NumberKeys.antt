-- A map whose keys are numbers compares a key with a number as `==` does.
use Rattle.std.specs.Prelude.{◌==◌}
use Rattle.std.proofs.Common.{◌≡◌, ◌≢◌, ℕ, true, false, nat_cmp, arith}
use Rattle.std.proofs.lemmas.Grind.{common_steps}
use Rattle.std.specs.BTreeMap.{is_at}

pub at_number : (n v : ℕ) → is_at (nat_cmp n) v ≡ (n == v)
at_number n v = grind (arith, common_steps)

pub at_same : (n : ℕ) → is_at (nat_cmp n) n ≡ true
at_same n = grind (arith, common_steps)

pub at_other : (n v : ℕ) → n ≢ v → is_at (nat_cmp n) v ≡ false
at_other n v h = grind (arith, common_steps)
