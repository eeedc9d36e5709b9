-- In the polynomial of an argument with a coefficient other than 0 nothing is greater than in that of the whole term.
use Rattle.std.proofs.Common.{◌≡◌, ℕ, ◌+◌, ◌*◌, ◌≤◌, ◌⊎◌, inl, inr, zero, suc, refl, ◌∙◌, arith, add-one}
use Rattle.trs_defs.specs.Tree.{Tree, Trees, app, nil, cons}
use Rattle.pair_theory.specs.Subterm.{itself, under, Subs, in_head, in_tail}
use Rattle.pair_theory.proofs.Subterms.{not_in_nil, head_or_tail}
use Rattle.order_theory.specs.LinearInterpretation.{constant, constants, coefficient, coefficients}
use Rattle.poly_lin.specs.TooBig.{IsBig, HasBigCoefficient}

pub multiple_at_least : (k n : ℕ) → (k ≡ 0 → ⊥) → n ≤ k * n
multiple_at_least zero n some = absurd (some refl)
multiple_at_least (suc k) n some = grind arith

module _ (c : ℕ → ℕ → ℕ) where
  pub itself_big : (t : Tree) → IsBig c t → HasBigCoefficient c t
  itself_big t big = (t, itself, big)

  -- what a walk over the arguments of a term has come to
  pub record Rest (f : ℕ) (ts rest : Trees) (i : ℕ) : Type 0 where
    pub constants_at_most : constants c f i rest ≤ constants c f 1 ts
    pub coefficients_at_most : (x : ℕ) → coefficients c x f i rest ≤ coefficients c x f 1 ts
    pub among : (u : Tree) → Subs u rest → Subs u ts
    pub others : (u : Tree) → Subs u ts → IsBig c u → Subs u rest ⊎ IsBig c (app f ts)

  pub all_rest : (f : ℕ) (ts : Trees) → Rest f ts ts 1
  all_rest f ts = record {
    constants_at_most = omega arith;
    coefficients_at_most = λ x. omega arith;
    among = λ u p. p;
    others = λ u p big. inl p;
  }

  module _ (f : ℕ) (ts : Trees) (t : Tree) (rest : Trees) (i k : ℕ) (is : k ≡ c f i) (h : Rest f ts (cons t rest) i) where
    pub big_argument : HasBigCoefficient c t → HasBigCoefficient c (app f ts)
    big_argument (u, p, big) = (u, under (h.among u (in_head p)), big)

    -- the coefficients grow with the term, unless they are multiplied by 0
    grows : (k ≡ 0 → ⊥) → IsBig c t → IsBig c (app f ts)
    grows some (inl big) =
        let whole = h.constants_at_most in
        let more : constant c t ≤ c f i * constant c t = multiple_at_least (c f i) (constant c t) (λ none. some (is ∙ none)) in
        inl (omega (arith, whole, more, big))
    grows some (inr (x, big)) =
        let whole = h.coefficients_at_most x in
        let more : coefficient c x t ≤ c f i * coefficient c x t = multiple_at_least (c f i) (coefficient c x t) (λ none. some (is ∙ none)) in
        inr (x, omega (arith, whole, more, big))

    pub next_rest : (k ≡ 0 → IsBig c t → ⊥) → (HasBigCoefficient c t → IsBig c t) → Rest f ts rest (i + 1)
    next_rest small whole = rw add-one (record {
      constants_at_most = omega (arith, h.constants_at_most);
      coefficients_at_most = λ x. let le = h.coefficients_at_most x in omega (arith, le);
      among = λ u p. h.among u (in_tail p);
      others = λ u p big. elim (h.others u p big) [
        | inl q ↦ elim (head_or_tail q) [
          | inl here ↦ inr (grows (λ none. small none (whole (u, here, big))) (whole (u, here, big)))
          | inr later ↦ inl later
        ]
        | inr there ↦ inr there
      ];
    })

  pub no_rest : (f : ℕ) (ts : Trees) (i : ℕ) → Rest f ts nil i → HasBigCoefficient c (app f ts) → IsBig c (app f ts)
  no_rest f ts i h (u, itself, big) = big
  no_rest f ts i h (u, under p, big) = elim (h.others u p big) [ inl q ↦ absurd (not_in_nil q) | inr there ↦ there ]
