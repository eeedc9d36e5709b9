-- Pairs that a map makes fall, or makes equal: the images of those that fall are a system, and a bound in this system of the
-- image of a term bounds the strict moves from the term.
use Rattle.std.proofs.Common.{◌≡◌, ℕ, zero, suc, ◌≤◌, refl, sym, ap, subst, arith, ◌∙◌, ◌⊎◌, inl, inr, List, [], ◌∷◌, map}
use Rattle.trs_defs.specs.Tree.{Tree, Trees}
use Rattle.trs_defs.specs.Substitution.{apply}
use Rattle.trs_defs.specs.System.{RewriteRule, Among}
use Rattle.trs_defs.specs.Member.{In, in_first, in_rest}
use Rattle.trs_defs.specs.Run.{Run, Stay, Go}
use Rattle.trs_defs.specs.Step.{RootStep, StepBy, here, deep, first, later}
use Rattle.trs_defs.specs.Bounded.{IsBounded, IsBoundedBy}
use Rattle.pair_theory.specs.Moves.{Moves, no_moves, weakly, strictly, MovesAtMost}
use Rattle.pair_theory.specs.Terminates.{ArgumentStep}
use Rattle.order_theory.specs.MovesInContexts.{MovesInContexts}
use Rattle.order_theory.specs.MovesInContexts as free
use Rattle.trs_defs.proofs.StepLaws.{step_of_more, run_in_app, run_in_cons}
use Rattle.trs_defs.proofs.BoundLaws.{bound_after_run}
use Rattle.trs_defs.proofs.Members.{in_map, of_map}
use Rattle.pair_theory.proofs.Matching.{same_term, pick}

abbrev pub image : (Tree → Tree) → RewriteRule → RewriteRule
image g p = record { left = g p.left; right = g p.right }

-- the images of those pairs whose images have different sides, before the others
abbrev pub fallers : (Tree → Tree) → List RewriteRule → List RewriteRule → List RewriteRule
fallers g base [] = base
fallers g base (p ∷ ps) = pick (same_term (g p.left) (g p.right)) (fallers g base ps) (image g p ∷ fallers g base ps)

module _ (g : Tree → Tree) (base : List RewriteRule) where
  put_in : {q : RewriteRule} {A : Type 0} (d : Dec A) (p : RewriteRule) (ps : List RewriteRule) → In q ps → In q (pick d ps (p ∷ ps))
  put_in (yes a) p ps i = i
  put_in (no n) p ps i = in_rest i

  base_in : (ps : List RewriteRule) {q : RewriteRule} → In q base → In q (fallers g base ps)
  base_in [] i = i
  base_in (p ∷ ps) i = put_in (same_term (g p.left) (g p.right)) (image g p) (fallers g base ps) (base_in ps i)

  faller : (ps : List RewriteRule) (p : RewriteRule) → In p ps → (g p.left ≡ g p.right) ⊎ In (image g p) (fallers g base ps)
  faller [] p i = elim i [ ]
  faller (q ∷ ps) p i = go i (same_term (g q.left) (g q.right)) (faller ps)
    where
      go : {p : RewriteRule} → In p (q ∷ ps) → (d : Dec (g q.left ≡ g q.right)) → ((p : RewriteRule) → In p ps → (g p.left ≡ g p.right) ⊎ In (image g p) (fallers g base ps))
          → (g p.left ≡ g p.right) ⊎ In (image g p) (pick d (fallers g base ps) (image g q ∷ fallers g base ps))
      go in_first (yes e) k = inl e
      go in_first (no n) k = inr in_first
      go {p = p} (in_rest j) (yes e) k = k p j
      go {p = p} (in_rest j) (no n) k = elim (k p j) [ inl e ↦ inl e | inr m ↦ inr (in_rest m) ]

  abbrev Origin : List RewriteRule → RewriteRule → Type 0
  Origin ps q = In q base ⊎ ((p : RewriteRule) × In p ps × (q ≡ image g p) × ((g p.left ≡ g p.right) → ⊥))

  wider : {p q : RewriteRule} {ps : List RewriteRule} → Origin ps q → Origin (p ∷ ps) q
  wider (inl i) = inl i
  wider (inr o) = inr (o.0, in_rest o.1, o.2, o.3)

  origin : (ps : List RewriteRule) (q : RewriteRule) → In q (fallers g base ps) → Origin ps q
  origin [] q i = inl i
  origin (p ∷ ps) q i = go (same_term (g p.left) (g p.right)) i (origin ps)
    where
      next : {q : RewriteRule} → In q (image g p ∷ fallers g base ps) → ((g p.left ≡ g p.right) → ⊥) → ((q : RewriteRule) → In q (fallers g base ps) → Origin ps q) → Origin (p ∷ ps) q
      next in_first n k = inr (p, in_first, refl, n)
      next (in_rest j) n k = wider (k _ j)

      go : (d : Dec (g p.left ≡ g p.right)) → In q (pick d (fallers g base ps) (image g p ∷ fallers g base ps)) → ((q : RewriteRule) → In q (fallers g base ps) → Origin ps q) → Origin (p ∷ ps) q
      go (yes e) i k = wider (k q i)
      go (no n) i k = next i n k

-- the system of the images of the strict pairs, and of those weak pairs that the map does not make equal
module _ (g : Tree → Tree) (ws ss : List RewriteRule) where
  abbrev pub system : List RewriteRule
  system = fallers g (map (image g) ss) ws

  pub each_of_system : (P : RewriteRule → Type 0) → ((p : RewriteRule) → In p ss → P (image g p))
      → ((p : RewriteRule) → In p ws → ((g p.left ≡ g p.right) → ⊥) → P (image g p)) → (q : RewriteRule) → In q system → P q
  each_of_system P strict weak q i = go (origin g (map (image g) ss) ws q i)
    where
      go : Origin g (map (image g) ss) ws q → P q
      go (inl j) = let o : (p : RewriteRule) × In p ss × (q ≡ image g p) = of_map (image g) ss j in subst P (sym o.2) (strict o.0 o.1)
      go (inr o) = subst P (sym o.2) (weak o.0 o.1 o.3)

  -- the map takes an instance to an instance of the image
  module _ (after : (ℕ → Tree) → ℕ → Tree) (instance : (σ : ℕ → Tree) (t : Tree) → g (apply σ t) ≡ apply (after σ) (g t)) where
    pub weak_at_root : {s t : Tree} → RootStep (Among ws) s t → Run (StepBy (Among system)) (g s) (g t)
    weak_at_root {s} {t} (l, r, σ, h, e, e') = go (faller g (map (image g) ss) ws (record { left = l; right = r }) h)
      where
        left : g s ≡ apply (after σ) (g l)
        left = ap g e ∙ instance σ l

        right : g t ≡ apply (after σ) (g r)
        right = ap g e' ∙ instance σ r

        go : (g l ≡ g r) ⊎ Among system (g l) (g r) → Run (StepBy (Among system)) (g s) (g t)
        go (inl same) = subst (Run (StepBy (Among system)) (g s)) (left ∙ ap (apply (after σ)) same ∙ sym right) Stay
        go (inr i) = Go (here (g l, g r, after σ, i, left, right)) Stay

    strict_step : {s t : Tree} → RootStep (Among ss) s t → StepBy (Among system) (g s) (g t)
    strict_step (l, r, σ, h, e, e') =
        here (g l, g r, after σ, base_in g (map (image g) ss) ws (in_map (image g) h), ap g e ∙ instance σ l, ap g e' ∙ instance σ r)

    module _ (weak_step : (s t : Tree) → StepBy (Among ws) s t → Run (StepBy (Among system)) (g s) (g t)) where
      few_moves : (n : ℕ) {m : ℕ} {s u : Tree} → Moves ws ss m s u → IsBoundedBy (StepBy (Among system)) n (g s) → m ≤ n
      few_moves n no_moves b = omega arith
      few_moves n (weakly {s = s} {t = t} d ms) b = few_moves n ms (bound_after_run (StepBy (Among system)) n (weak_step s t d) b)
      few_moves zero (strictly s ms) b = absurd (b _ (strict_step s))
      few_moves (suc n) (strictly {n = k} s ms) b = let h : k ≤ n = few_moves n ms (b _ (strict_step s)) in omega arith

      -- the strict moves from a term are no more than a bound of its image
      pub moves_bounded : (t : Tree) → IsBounded (StepBy (Among system)) (g t) → (n : ℕ) × MovesAtMost ws ss n t
      moves_bounded t b = (b.0, λ m u ms. few_moves b.0 ms b.1)

-- where the map changes nothing: a weak step anywhere is a run of the system, and a strict one is a step of it
module _ (ws ss : List RewriteRule) where
  abbrev pub falling : List RewriteRule
  falling = system (λ t. t) ws ss

  mutual
    pub weak_run : {s t : Tree} → StepBy (Among ws) s t → Run (StepBy (Among falling)) s t
    weak_run (here r) = weak_at_root (λ t. t) ws ss (λ σ. σ) (λ σ t. refl) r
    weak_run (deep {f = f} d) = run_in_app f (weak_runs d)

    weak_runs : {us vs : Trees} → ArgumentStep (Among ws) us vs → Run (ArgumentStep (Among falling)) us vs
    weak_runs (first d) = run_in_cons (weak_run d) Stay
    weak_runs (later d) = run_in_cons Stay (weak_runs d)

  pub strict_falls : {s t : Tree} → StepBy (Among ss) s t → StepBy (Among falling) s t
  strict_falls = step_of_more (Among ss) (Among falling) (λ l r i. base_in (λ t. t) (map (image (λ t. t)) ss) ws (in_map (image (λ t. t)) i))

  few_moves_in_contexts : (n : ℕ) {m : ℕ} {s u : Tree} → MovesInContexts ws ss m s u → IsBoundedBy (StepBy (Among falling)) n s → m ≤ n
  few_moves_in_contexts n free.no_moves b = omega arith
  few_moves_in_contexts n (free.weakly d ms) b = few_moves_in_contexts n ms (bound_after_run (StepBy (Among falling)) n (weak_run d) b)
  few_moves_in_contexts zero (free.strictly d ms) b = absurd (b _ (strict_falls d))
  few_moves_in_contexts (suc n) (free.strictly {n = k} d ms) b =
      let h : k ≤ n = few_moves_in_contexts n ms (b _ (strict_falls d)) in omega arith

  pub contexts_bounded : (t : Tree) → IsBounded (StepBy (Among falling)) t → (n : ℕ) × ((m : ℕ) (u : Tree) → MovesInContexts ws ss m t u → m ≤ n)
  contexts_bounded t b = (b.0, λ m u ms. few_moves_in_contexts b.0 ms b.1)
