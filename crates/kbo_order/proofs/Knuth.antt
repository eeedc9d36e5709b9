-- A term is greater where each variable sees it so.
use Rattle.std.proofs.Common.{◌≡◌, ℕ, ◌≤◌, ◌<◌, ◌⊎◌, inl, inr, refl, sym, ap, subst, arith}
use Rattle.trs_defs.specs.Tree.{Tree, Trees, var, app, nil, cons}
use Rattle.trs_defs.specs.Variable.{occurrences, occurrences_in_all}
use Rattle.order_theory.specs.KnuthBendix.{weigh, KeepsOccurrences, Tower, one_high, higher, KnuthGreater, by_weight, by_tower, by_head, by_args, KnuthLexGreater, heavier_here, heavier_later}
use Rattle.kbo_order.specs.Seen.{Decides, DecideLater, SeenGreater}

tower_keeps : (x : ℕ) {f y : ℕ} {s : Tree} → Tower f y s → occurrences x (var y) ≤ occurrences x s
tower_keeps x one_high = omega arith
tower_keeps x (higher t) = omega (arith, tower_keeps x t)

module _ (w rank : ℕ → ℕ) where
  module _ (x : ℕ) where
    tower_decides : {f y : ℕ} {s : Tree} → Tower f y s → Decides w rank x s (var y)
    tower_decides one_high = one_high
    tower_decides (higher t) = higher t

    mutual
      pub seen_of : {s t : Tree} → KnuthGreater w rank s t → SeenGreater w rank x s t
      seen_of (by_weight k lt) = (k x, inl lt)
      seen_of (by_tower t e) = (tower_keeps x t, inr (e, tower_decides t))
      seen_of (by_head k e r) = (k x, inr (e, inl r))
      seen_of (by_args k e l) = (k x, inr (e, inr (refl, later_of l)))

      later_of : {ss ts : Trees} → KnuthLexGreater w rank ss ts → DecideLater w rank x ss ts
      later_of (heavier_here g e) = inr (seen_of g, e)
      later_of (heavier_later l) = inl (refl, later_of l)

    mutual
      pub not_seen_self : (t : Tree) → SeenGreater w rank x t t → ⊥
      not_seen_self (var y) (k, inl lt) = omega arith
      not_seen_self (var y) (k, inr (e, d)) = d
      not_seen_self (app f ts) (k, inl lt) = omega arith
      not_seen_self (app f ts) (k, inr (e, inl r)) = omega arith
      not_seen_self (app f ts) (k, inr (e, inr (e', l))) = not_later_self ts l

      not_later_self : (ts : Trees) → DecideLater w rank x ts ts → ⊥
      not_later_self nil l = l
      not_later_self (cons t ts) (inl (e, l)) = not_later_self ts l
      not_later_self (cons t ts) (inr (g, e)) = not_seen_self t g

    pub not_same : (s t : Tree) → s ≡ t → SeenGreater w rank x s t → ⊥
    not_same s t e g = not_seen_self s (subst (SeenGreater w rank x s) (sym e) g)

  pub heavier_or : (s t : Tree) (x : ℕ) → weigh w s ≡ weigh w t → SeenGreater w rank x s t → Decides w rank x s t
  heavier_or s t x e (k, inl lt) = absurd (omega arith)
  heavier_or s t x e (k, inr (e', d)) = d

  later : (f g : ℕ) (ss ts : Trees) (x : ℕ) → f ≡ g → (rank g < rank f) ⊎ ((f ≡ g) × DecideLater w rank x ss ts) → DecideLater w rank x ss ts
  later f g ss ts x same (inl r) = let k : rank f ≡ rank g = ap rank same in absurd (omega arith)
  later f g ss ts x same (inr (e, l)) = l

  same_root : (f g : ℕ) (ss ts : Trees) → KeepsOccurrences (app f ss) (app g ts) → weigh w (app f ss) ≡ weigh w (app g ts) → f ≡ g → KnuthLexGreater w rank ss ts
      → KnuthGreater w rank (app f ss) (app g ts)
  same_root f g ss ts k e same l = let P : ℕ → Type 0 = λ h. KeepsOccurrences (app f ss) (app h ts) → weigh w (app f ss) ≡ weigh w (app h ts) → KnuthGreater w rank (app f ss) (app h ts) in
      (subst P same (λ k e. by_args k e l)) k e

  after : (x : ℕ) (s t : Tree) (ss ts : Trees) → s ≡ t → DecideLater w rank x (cons s ss) (cons t ts) → DecideLater w rank x ss ts
  after x s t ss ts e (inl (e', l)) = l
  after x s t ss ts e (inr (g, c)) = absurd (not_same x s t e g)

  here : (x : ℕ) (s t : Tree) (ss ts : Trees) → SeenGreater w rank 0 s t → DecideLater w rank x (cons s ss) (cons t ts) → SeenGreater w rank x s t
  here x s t ss ts g (inl (e, l)) = absurd (not_same 0 s t e g)
  here x s t ss ts g (inr (k, c)) = k

  mutual
    by_first : (s t : Tree) → ((x : ℕ) → SeenGreater w rank x s t) → (weigh w t < weigh w s) ⊎ ((weigh w s ≡ weigh w t) × Decides w rank 0 s t) → KnuthGreater w rank s t
    by_first (var y) t h (inl lt) = by_weight (λ x. (h x).0) lt
    by_first (var y) t h (inr (e, d)) = absurd d
    by_first (app f ss) t h (inl lt) = by_weight (λ x. (h x).0) lt
    by_first (app f ss) (var y) h (inr (e, d)) = by_tower d e
    by_first (app f ss) (app g ts) h (inr (e, inl r)) = by_head (λ x. (h x).0) e r
    by_first (app f ss) (app g ts) h (inr (e, inr (same, l))) =
        same_root f g ss ts (λ x. (h x).0) e same (later_greater ss ts (λ x. later f g ss ts x same (heavier_or (app f ss) (app g ts) x e (h x))))

    later_greater : (ss ts : Trees) → ((x : ℕ) → DecideLater w rank x ss ts) → KnuthLexGreater w rank ss ts
    later_greater nil ts h = absurd (h 0)
    later_greater (cons s ss) nil h = absurd (h 0)
    later_greater (cons s ss) (cons t ts) h = elim (h 0) [
      | inl p ↦ subst (λ z. KnuthLexGreater w rank (cons s ss) (cons z ts)) p.0 (heavier_later (later_greater ss ts (λ x. after x s t ss ts p.0 (h x))))
      | inr p ↦ heavier_here (by_first s t (λ x. here x s t ss ts p.0 (h x)) p.0.1) p.1
    ]

  pub greater_of : (s t : Tree) → ((x : ℕ) → SeenGreater w rank x s t) → KnuthGreater w rank s t
  greater_of s t h = by_first s t h (h 0).1

  -- a variable that does not occur in the second term sees what any other sees
  module _ (x y : ℕ) where
    mutual
      absent_decides : (s t : Tree) → occurrences x t ≡ 0 → Decides w rank y s t → Decides w rank x s t
      absent_decides (var z) t none d = d
      absent_decides (app f ss) (var z) none d = d
      absent_decides (app f ss) (app g ts) none (inl r) = inl r
      absent_decides (app f ss) (app g ts) none (inr (e, l)) = inr (e, absent_later ss ts none l)

      absent_later : (ss ts : Trees) → occurrences_in_all x ts ≡ 0 → DecideLater w rank y ss ts → DecideLater w rank x ss ts
      absent_later nil ts none l = l
      absent_later (cons s ss) nil none l = l
      absent_later (cons s ss) (cons t ts) none (inl (e, l)) = inl (e, absent_later ss ts (omega arith) l)
      absent_later (cons s ss) (cons t ts) none (inr ((k, inl lt), c)) = inr ((omega arith, inl lt), c)
      absent_later (cons s ss) (cons t ts) none (inr ((k, inr (e, d)), c)) = inr ((omega arith, inr (e, absent_decides s t (omega arith) d)), c)

    pub absent : (s t : Tree) → occurrences x t ≡ 0 → SeenGreater w rank y s t → SeenGreater w rank x s t
    absent s t none (k, inl lt) = (omega arith, inl lt)
    absent s t none (k, inr (e, d)) = (omega arith, inr (e, absent_decides s t none d))
