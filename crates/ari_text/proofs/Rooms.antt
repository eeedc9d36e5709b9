-- Items that are too many.
use Rattle.std.proofs.Common.{◌≡◌, ℕ, cond, [], ◌∷◌, refl}
use Rattle.ari_text.specs.declared.fault.AriFault.TheVariants.{TooMany}
use Rattle.ari_text.specs.Entries.{Saying, declares, rewrites, attributed, says_nothing}
use Rattle.ari_text.specs.Counted.{is_too_many}
use Rattle.ari_text.specs.Faults.{Room, count_faults}

-- an item is a fault where it is too many
pub count_faults_by_test : (room : Room) (at : ℕ) (s : Saying) → count_faults room at s ≡ cond (is_too_many room s) (TooMany at ∷ []) []
count_faults_by_test room at (declares name q arity r) = refl
count_faults_by_test room at (rewrites left right) = refl
count_faults_by_test room at (attributed s q) = count_faults_by_test room at s
count_faults_by_test room at says_nothing = refl
