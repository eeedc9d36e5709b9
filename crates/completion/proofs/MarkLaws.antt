-- Marks that are made, set and forgotten.
use Rattle.std.proofs.Common.{◌≡◌, ◌<◌, ◌≤◌, ℕ, zero, suc, List, [], ◌∷◌, ◌++◌, length, take, replicate, slice_set, refl, ap, ◌∙◌, arith}
use Rattle.std.proofs.lemmas.List.{take_all, get_or-take, get_or_past, get_or-set_same, get_or-set_other}
use Rattle.completion.specs.PassedIds.{mark_of, IsMarked}

none_marked : (n v : ℕ) → mark_of (replicate n 0) v ≡ 0
none_marked zero v = refl
none_marked (suc n) zero = refl
none_marked (suc n) (suc v) = none_marked n v

not_new : (marks : List ℕ) (n v : ℕ) → mark_of (marks ++ replicate n 0) v ≡ mark_of marks v
not_new [] n v = none_marked n v
not_new (x ∷ marks) n zero = refl
not_new (x ∷ marks) n (suc v) = not_new marks n v

-- marks that are added are 0
pub same_marks : (marks more : List ℕ) (n m : ℕ) → length marks ≤ n → more ≡ take n marks ++ replicate m 0 → (v : ℕ) → mark_of more v ≡ mark_of marks v
same_marks marks more n m short is v =
    let e : more ≡ marks ++ replicate m 0 = (rw (take_all n marks short) at is) in
    ap (λ xs. mark_of xs v) e ∙ not_new marks m v

-- a mark is set
pub one_marked : (old marks : List ℕ) (id count : ℕ) → id < length marks → ((v : ℕ) → mark_of marks v ≡ mark_of old v) → IsMarked id count old (slice_set marks id count)
one_marked old marks id count there same = (get_or-set_same marks id count 0 there, λ v other. get_or-set_other marks id v count 0 other ∙ same v)

no_more_than : (n : ℕ) (marks : List ℕ) → length (take n marks) ≤ n
no_more_than zero marks = omega arith
no_more_than (suc n) [] = omega arith
no_more_than (suc n) (x ∷ marks) = omega (arith, no_more_than n marks)

-- marks are forgotten
pub below_kept : (marks new : List ℕ) (n v : ℕ) → new ≡ take n marks → v < n → mark_of new v ≡ mark_of marks v
below_kept marks new n v is below = ap (λ xs. mark_of xs v) is ∙ get_or-take n marks v 0 below

pub above_gone : (marks new : List ℕ) (n v : ℕ) → new ≡ take n marks → n ≤ v → mark_of new v ≡ 0
above_gone marks new n v is past = ap (λ xs. mark_of xs v) is ∙ get_or_past (take n marks) v 0 (omega (arith, past, no_more_than n marks))
