-- Steps of loops over lists.
use Rattle.std.proofs.Common.{◌≡◌, ℕ, ◌+◌, ◌<◌, List, ◌∷◌, length, drop, get_or, ap, sym, ◌∙◌}
use Rattle.std.proofs.lemmas.List.{at_drop_more}

-- a function of what is left, at an element and what is behind it
pub one_more : {X Y : Type 0} (F : List X → Y) (xs : List X) (i : ℕ) (x : X) → i < length xs → x ≡ get_or xs i x → F (x ∷ drop (i + 1) xs) ≡ F (drop i xs)
one_more F xs i x lt is = ap (λ y. F (y ∷ drop (i + 1) xs)) is ∙ sym (at_drop_more F xs i x lt)
