use Rattle.std.specs.Prelude.{◌≡◌, ◌≢◌, ℕ, zero, suc, ◌+◌, ◌-◌, ◌<◌, ◌≤◌, Bool, true, false, List, [], ◌∷◌, ◌++◌, length, take, get_or, cond}
use Rattle.assign_search.specs.Puzzle.{Puzzle, each_from, extensions, is_refuted, solution_of, count_of, first_in, count_in}

-- what comes after the part at the value `v` of the next slot
abbrev pub later : Puzzle → ℕ → List ℕ → ℕ → List (List ℕ)
later z m q v = each_from (suc v) (z.domain (length q) - suc v) (λ w. extensions z m (q ++ (w ∷ [])))

-- of the prefixes that extend `base`, those that come after `base ++ p` and all that extend it
abbrev pub after : Puzzle → List ℕ → List ℕ → ℕ → List (List ℕ)
after z base [] k = []
after z base (v ∷ p) zero = []
after z base (v ∷ p) (suc k) = after z (base ++ (v ∷ [])) p k ++ later z k base v

unfoldable pub rest_of : Puzzle → List ℕ → List (List ℕ)
rest_of z p = after z [] p z.slots

-- the prefixes from `p` on
unfoldable pub todo : Puzzle → List ℕ → List (List ℕ)
todo z p = extensions z (z.slots - length p) p ++ rest_of z p

-- lies_in, as a fact
abbrev pub LiesIn : Puzzle → List ℕ → ℕ → Type 0
LiesIn z p c = (s : ℕ) → s < z.slots → z.uses c s ≡ true → s < length p

-- the values lie below their domains
abbrev pub InDomain : Puzzle → List ℕ → Type 0
InDomain z p = (s : ℕ) → s < length p → get_or p s 0 < z.domain s

-- no shorter prefix is refuted
abbrev pub IsClear : Puzzle → List ℕ → Type 0
IsClear z p = (k : ℕ) → k < length p → is_refuted z (take k p) ≡ false

pub record IsStanding (z : Puzzle) (p : List ℕ) : Type 0 where
  pub in_domain : InDomain z p
  pub clear : IsClear z p
  pub short : length p ≤ z.slots

-- the search stands at a prefix, with so many counted
pub record IsAt (z : Puzzle) (n : ℕ) (p : List ℕ) : Type 0 where
  pub standing : IsStanding z p
  pub count : count_of z ≡ n + count_in z (todo z p)
  pub first : solution_of z ≡ first_in z (todo z p)

abbrev pub Advances : Puzzle → List ℕ → List ℕ → Bool → Type 0
Advances z p q true = IsStanding z q × (rest_of z p ≡ todo z q)
Advances z p q false = rest_of z p ≡ []

-- one more than the last slot that is used, or 0
abbrev pub reach_below : (ℕ → Bool) → ℕ → ℕ
reach_below u zero = 0
reach_below u (suc s) = cond (u s) (suc s) (reach_below u s)

unfoldable pub reach : Puzzle → ℕ → ℕ
reach z c = reach_below (z.uses c) z.slots

-- of the numbers below `n`, those where `f` gives `depth`
pub record IsGroupOf (f : ℕ → ℕ) (depth n : ℕ) (group : List ℕ) : Type 0 where
  pub sound : (k : ℕ) → k < length group → (get_or group k 0 < n) × (f (get_or group k 0) ≡ depth)
  pub complete : (c : ℕ) → c < n → f c ≡ depth → (k : ℕ) × (k < length group) × (get_or group k 0 ≡ c)

-- the constraints whose last slot is the last of so many
abbrev pub IsGroup : Puzzle → ℕ → List ℕ → Type 0
IsGroup z depth group = IsGroupOf (reach z) depth z.constraints group

-- so many groups: each has the numbers below `n` where `f` gives its place
pub record AreGroups (f : ℕ → ℕ) (n count : ℕ) (groups : List (List ℕ)) : Type 0 where
  pub many : length groups ≡ count
  pub each : (d : ℕ) → d < count → IsGroupOf f d n (get_or groups d [])

-- one group for each number of slots
abbrev pub AreAllGroups : Puzzle → List (List ℕ) → Type 0
AreAllGroups z groups = AreGroups (reach z) z.constraints (z.slots + 1) groups

-- so many groups, and nothing in them
pub record AreEmpty (count : ℕ) (groups : List (List ℕ)) : Type 0 where
  pub many : length groups ≡ count
  pub none : (d : ℕ) → get_or groups d [] ≡ []

-- the group at the place has one number more, and the other groups are as before
pub record Joins (old new : List (List ℕ)) (place n : ℕ) : Type 0 where
  pub many : length new ≡ length old
  pub here : get_or new place [] ≡ get_or old place [] ++ (n ∷ [])
  pub others : (d : ℕ) → d ≢ place → get_or new d [] ≡ get_or old d []
