-- Items of a list, as they are read one after another.
use Rattle.std.specs.Prelude.{◌≡◌, ◌≤◌, ◌+◌, ℕ, List, [], ◌∷◌, ◌++◌, take, length, None, Some, slice_get}
use Rattle.std.proofs.Common.{zero, suc, ap, sym, ◌∙◌, arith, append-nil}
use Rattle.std.proofs.lemmas.Option.{slice_get_within}
use Rattle.trs_defs.specs.Tree.{Tree}
use Rattle.trs_defs.proofs.ListItems.{take_one_more}

-- a list that has no item there
pub none_from : (xs : List Tree) (i : ℕ) → None ≡ slice_get xs i → length xs ≤ i
none_from [] i none = omega arith
none_from (x ∷ xs) zero none = absurd cc
none_from (x ∷ xs) (suc i) none = let rest = none_from xs i none in omega (arith, rest)

-- an item with those before it
pub take_item : (xs : List Tree) (i : ℕ) (x : Tree) → slice_get xs i ≡ Some x → take (i + 1) xs ≡ take i xs ++ x ∷ []
take_item xs i x there =
    let below = slice_get_within xs i x there in
    ap (take (i + 1)) (sym (append-nil xs)) ∙ take_one_more xs [] i x below there
