-- What a comparison of two caps, part by part, keeps.
use Rattle.std.specs.Prelude.{not, ◌||◌, ◌==◌}
use Rattle.std.proofs.Common.{◌≡◌, ℕ, true, false, List, [], ◌∷◌, length, suc, refl, ap, sym, arith}
use Rattle.std.proofs.lemmas.Bool.Decides.{nat_tests}
use Rattle.std.proofs.lemmas.Bool.{or_right}
use native.Mathlib.Decide.{ℕ_discrete}
use Rattle.trs_caps.specs.HoledTree.{HoledTree, symbol}
use Rattle.trs_caps.specs.Clash.{clash, some_clash}
use Rattle.trs_caps.specs.declared.holed.Cap.{Cap}
use Rattle.trs_caps.specs.View.{holed, holed_all}

other_lengths : (cs ds : List Cap) → (length cs ≡ length ds → ⊥) → some_clash (holed_all cs) (holed_all ds) ≡ true
other_lengths [] [] h = absurd (h refl)
other_lengths [] (d ∷ ds) h = refl
other_lengths (c ∷ cs) [] h = refl
other_lengths (c ∷ cs) (d ∷ ds) h =
    or_right (clash (holed c) (holed d)) (some_clash (holed_all cs) (holed_all ds)) (other_lengths cs ds (λ e. h (ap suc e)))

pub unlike : (c d : HoledTree) (f g : ℕ) (cs ds : List Cap) → c ≡ symbol f (holed_all cs) → d ≡ symbol g (holed_all ds) → (f ≡ g → length cs ≡ length ds → ⊥)
    → true ≡ clash c d
unlike c d f g cs ds is_c is_d h = rw (is_c, is_d) (sym (elim (ℕ_discrete f g) as (λ _. (not (f == g) || some_clash (holed_all cs) (holed_all ds)) ≡ true) [
  | yes same ↦ or_right (not (f == g)) (some_clash (holed_all cs) (holed_all ds)) (other_lengths cs ds (h same))
  | no other ↦ let e : (f == g) ≡ false = grind (arith, nat_tests) in rw e refl
]))
