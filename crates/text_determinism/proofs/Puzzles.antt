-- Puzzles that agree on slots, domains, constraints, uses and truth have one first solution and one count before it.
use Rattle.std.specs.Prelude.{◌≡◌, ◌<◌, ℕ, ◌&&◌, ◌||◌, not, cond, leb, eqb, Bool, List, [], ◌∷◌, ◌++◌, length, take, Some, filter, refl}
use Rattle.std.proofs.Common.{zero, suc, ap, ap₂, ◌∙◌, arith}
use Rattle.assign_search.specs.Puzzle.{Puzzle, any_below, lies_in, is_refuted, is_minimal, is_solution, each_from, extensions, prefixes}
use Rattle.assign_search.specs.Puzzle.{first_in, before_first, count_in, solution_of, count_of}

-- the puzzles have the same slots, domains and constraints
pub record AreAlike (z w : Puzzle) : Type 0 where
  pub slots : z.slots ≡ w.slots
  pub domain : (s : ℕ) → z.domain s ≡ w.domain s
  pub constraints : z.constraints ≡ w.constraints
  pub uses : (c s : ℕ) → c < z.constraints → z.uses c s ≡ w.uses c s
  pub truth : (c : ℕ) (p : List ℕ) → c < z.constraints → z.truth c p ≡ w.truth c p

any_same : (f g : ℕ → Bool) (n : ℕ) → ((k : ℕ) → k < n → f k ≡ g k) → any_below f n ≡ any_below g n
any_same f g zero same = refl
any_same f g (suc n) same = ap₂ (λ a b. a || b) (same n (omega arith)) (any_same f g n (λ k l. same k (omega (arith, l))))

-- the same numbers, up to a bound that is one
any_equal : (f g : ℕ → Bool) (n m : ℕ) → n ≡ m → ((k : ℕ) → k < n → f k ≡ g k) → any_below f n ≡ any_below g m
any_equal f g n m bound same = any_same f g n same ∙ ap (any_below g) bound

each_same : {A : Type 0} (f g : ℕ → List A) (v k : ℕ) → ((n : ℕ) → f n ≡ g n) → each_from v k f ≡ each_from v k g
each_same f g v zero same = refl
each_same f g v (suc k) same = ap₂ (λ xs ys. xs ++ ys) (same v) (each_same f g (suc v) k same)

filter_same : {A : Type 0} (f g : A → Bool) (xs : List A) → ((x : A) → f x ≡ g x) → filter f xs ≡ filter g xs
filter_same f g [] same = refl
filter_same f g (x ∷ xs) same = ap₂ (λ b ys. cond b (x ∷ ys) ys) (same x) (filter_same f g xs same)

module _ (z w : Puzzle) (alike : AreAlike z w) where
  lies_same : (p : List ℕ) (c : ℕ) → c < z.constraints → lies_in z p c ≡ lies_in w p c
  unfolding lies_in
  lies_same p c l =
      ap not (any_equal (λ s. z.uses c s && leb (length p) s) (λ s. w.uses c s && leb (length p) s) z.slots w.slots alike.slots
      (λ s _. ap (λ b. b && leb (length p) s) (alike.uses c s l)))

  refuted_same : (p : List ℕ) → is_refuted z p ≡ is_refuted w p
  unfolding is_refuted
  refuted_same p =
      any_equal (λ c. lies_in z p c && not (z.truth c p)) (λ c. lies_in w p c && not (w.truth c p)) z.constraints w.constraints alike.constraints
      (λ c l. ap₂ (λ a b. a && not b) (lies_same p c l) (alike.truth c p l))

  minimal_same : (p : List ℕ) → is_minimal z p ≡ is_minimal w p
  unfolding is_minimal
  minimal_same p =
      ap₂ (λ a b. a && not b) (refuted_same p)
      (any_same (λ k. is_refuted z (take k p)) (λ k. is_refuted w (take k p)) (length p) (λ k _. refuted_same (take k p)))

  solution_same : (p : List ℕ) → is_solution z p ≡ is_solution w p
  unfolding is_solution
  solution_same p =
      ap₂ (λ a b. a && not b) (ap (eqb (length p)) alike.slots)
      (any_equal (λ c. not (z.truth c p)) (λ c. not (w.truth c p)) z.constraints w.constraints alike.constraints (λ c l. ap not (alike.truth c p l)))

  extensions_same : (k : ℕ) (p : List ℕ) → extensions z k p ≡ extensions w k p
  extensions_same zero p = refl
  extensions_same (suc k) p =
      ap (λ xs. p ∷ xs)
      (each_same (λ v. extensions z k (p ++ (v ∷ []))) (λ v. extensions w k (p ++ (v ∷ []))) 0 (z.domain (length p))
      (λ v. extensions_same k (p ++ (v ∷ [])))
      ∙ ap (λ n. each_from 0 n (λ v. extensions w k (p ++ (v ∷ [])))) (alike.domain (length p)))

  prefixes_same : prefixes z ≡ prefixes w
  unfolding prefixes
  prefixes_same = extensions_same z.slots [] ∙ ap (λ k. extensions w k []) alike.slots

  first_same : (ps : List (List ℕ)) → first_in z ps ≡ first_in w ps
  first_same [] = refl
  first_same (p ∷ ps) = ap₂ (λ b found. cond b (Some p) found) (solution_same p) (first_same ps)

  before_same : (ps : List (List ℕ)) → before_first z ps ≡ before_first w ps
  before_same [] = refl
  before_same (p ∷ ps) = ap₂ (λ b before. cond b [] (p ∷ before)) (solution_same p) (before_same ps)

  counted_same : (ps : List (List ℕ)) → count_in z ps ≡ count_in w ps
  unfolding count_in
  counted_same ps =
      ap length (filter_same (is_minimal z) (is_minimal w) (before_first z ps) minimal_same ∙ ap (filter (is_minimal w)) (before_same ps))

  pub same_solution : solution_of z ≡ solution_of w
  same_solution = first_same (prefixes z) ∙ ap (first_in w) prefixes_same

  pub same_count : count_of z ≡ count_of w
  same_count = counted_same (prefixes z) ∙ ap (count_in w) prefixes_same
