-- A text that says names is not refused.
use Rattle.std.proofs.Common.{◌≡◌, ◌≤◌, ◌+◌, inl, inr, ℕ, List, [], ◌∷◌, ◌++◌, length, refl, sym, ap, subst, ◌∙◌, append_assoc, length-append, arith}
use Rattle.trsbatch.specs.ListText.{bare, named, names_on, IsGoodLine, AreGood, ArePassed, SaysNames, IsListRefused, IsRefusedBehind}

good_at : (front : List (List ℕ)) (line : List ℕ) (rest : List (List ℕ)) → AreGood (front ++ line ∷ rest) → IsGoodLine line
good_at [] line rest (h, hs) = h
good_at (x ∷ front) line rest (h, hs) = good_at front line rest hs

names_split : (xs ys : List (List ℕ)) → names_on (xs ++ ys) ≡ names_on xs ++ names_on ys
names_split [] ys = refl
names_split (x ∷ xs) ys = ap (λ r. named (bare x) ++ r) (names_split xs ys) ∙ sym (append_assoc (named (bare x)) (names_on xs) (names_on ys))

count_split : (xs ys : List (List ℕ)) → length (names_on (xs ++ ys)) ≡ length (names_on xs) + length (names_on ys)
count_split xs ys = ap length (names_split xs ys) ∙ length-append (names_on xs) (names_on ys)

no_more : (front : List (List ℕ)) (line : List ℕ) (rest : List (List ℕ)) → length (names_on (front ++ line ∷ [])) ≤ length (names_on (front ++ line ∷ rest))
no_more front line rest =
    let one = count_split front (line ∷ []) in
    let more = count_split front (line ∷ rest) in
    let alone = count_split (line ∷ []) [] in
    let behind = count_split (line ∷ []) rest in
    omega (arith, one, more, alone, behind)

pub not_both : (text : List ℕ) (names : List (List ℕ)) (number : ℕ) → SaysNames text names → IsListRefused text number → ⊥
not_both text names number says refused = go refused.refused
  where
    passed : ArePassed (refused.front ++ refused.line ∷ refused.rest)
    passed = subst ArePassed refused.lines says.passed

    go : IsRefusedBehind refused.front refused.line → ⊥
    go (inl bad) = bad (good_at refused.front refused.line refused.rest passed.good)
    go (inr many) = omega (arith, many, passed.few, no_more refused.front refused.line refused.rest)
