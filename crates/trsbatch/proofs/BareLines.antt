-- Lines and the carriage returns at their ends.
use Rattle.std.proofs.Common.{◌≡◌, ◌==◌, ℕ, List, [], ◌∷◌, ◌++◌, length, false, refl, sym, ap, ◌∙◌, arith}
use Rattle.std.specs.List.{IsLastAndRest}
use Rattle.trsbatch.specs.ListText.{bare}

return_dropped : (front : List ℕ) → bare (front ++ 13 ∷ []) ≡ front
return_dropped [] = refl
return_dropped (b ∷ []) = refl
return_dropped (b ∷ c ∷ rest) = ap (λ r. b ∷ r) (return_dropped (c ∷ rest))

other_kept : (front : List ℕ) (b : ℕ) → (b == 13) ≡ false → bare (front ++ b ∷ []) ≡ front ++ b ∷ []
other_kept [] b e = rw e refl
other_kept (a ∷ []) b e = ap (λ r. a ∷ r) (other_kept [] b e)
other_kept (a ∷ c ∷ rest) b e = ap (λ r. a ∷ r) (other_kept (c ∷ rest) b e)

pub bare_none : (line : List ℕ) → length line ≡ 0 → line ≡ bare line
bare_none [] e = refl
bare_none (b ∷ bs) e = absurd cc

pub bare_return : (line front : List ℕ) (b : ℕ) → IsLastAndRest line b front → b ≡ 13 → front ≡ bare line
bare_return line front b (is, size) e = sym (ap bare (is ∙ ap (λ z. front ++ z ∷ []) e) ∙ return_dropped front)

pub bare_kept : (line front : List ℕ) (b : ℕ) → IsLastAndRest line b front → (b ≡ 13 → ⊥) → line ≡ bare line
bare_kept line front b (is, size) ne =
    let other : (b == 13) ≡ false = grind (arith, ne) in
    is ∙ sym (ap bare is ∙ other_kept front b other)
