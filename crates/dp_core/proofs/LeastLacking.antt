-- The least symbol without an entry, as it is found.
use Rattle.std.specs.Prelude.{◌≡◌, ◌<◌, ◌≤◌, ◌⊎◌, ℕ, ◌+◌, Bool, true, false, List, [], ◌∷◌, ◌++◌, drop, nat_lt, if◌then◌else◌, Option, Some, None, slice_get}
use Rattle.std.proofs.Common.{inl, inr, refl, sym, ap, subst, arith, ◌∙◌}
use Rattle.std.proofs.lemmas.Bool.{ltb-true, ltb-false, cond-true}
use Rattle.trs_defs.specs.Member.{In, in_first, in_rest}
use Rattle.trs_defs.proofs.Members.{in_or, no_in}
use Rattle.trs_defs.specs.Tree.{Tree, Trees, cons}
use Rattle.trs_defs.specs.System.{RewriteRule}
use Rattle.trs_defs.proofs.ListItems.{next_item}
use Rattle.pair_theory.specs.DependencyPair.{DependencyPair}
use Rattle.dp_core.specs.SubtermConditions.{roots_of}
use Rattle.dp_core.specs.Symbols.{symbols_of, symbols_of_all, symbols_of_rules}
use Rattle.dp_core.specs.LeastLacking.{lower_of, lacking_with, least_lacking}

-- the least number of which the fact holds, if there is one
abbrev pub IsLeast : (ℕ → Type 0) → Option ℕ → Type 0
IsLeast fact None = (f : ℕ) → fact f → ⊥
IsLeast fact (Some n) = fact n × ((f : ℕ) → f < n → fact f → ⊥)

same_least : (fact other : ℕ → Type 0) → ((f : ℕ) → fact f → other f) → ((f : ℕ) → other f → fact f) → (o : Option ℕ) → IsLeast fact o → IsLeast other o
same_least fact other to back None h = λ f k. h f (back f k)
same_least fact other to back (Some n) h = (to n h.0, λ f below k. h.1 f below (back f k))

module _ (has : ℕ → Bool) where
  pub least_lacking_both : (xs ys : List ℕ) (least : Option ℕ) → least_lacking has least (xs ++ ys) ≡ least_lacking has (least_lacking has least xs) ys
  least_lacking_both [] ys least = refl
  least_lacking_both (x ∷ xs) ys least = least_lacking_both xs ys (lacking_with has least x)

  not_both : (f : ℕ) → has f ≡ true → has f ≡ false → ⊥
  not_both f has_one lacks_one = let e : true ≡ false = sym has_one ∙ lacks_one in absurd cc

  module _ (fact : ℕ → Type 0) (g : ℕ) where
    abbrev OneMore : ℕ → Type 0
    OneMore f = fact f ⊎ ((f ≡ g) × (has f ≡ false))

    lower_is : (n : ℕ) (b : Bool) → nat_lt g n ≡ b → has g ≡ false → IsLeast fact (Some n) → IsLeast OneMore (Some (if b then g else n))
    lower_is n true is lacks h =
        let below : g < n = ltb-true g n is in
        (inr (refl, lacks), λ f lt k. elim k [ inl old ↦ h.1 f (omega (arith, lt, below)) old | inr new ↦ absurd (omega (arith, lt, new.0)) ])
    lower_is n false is lacks h =
        let above : n ≤ g = ltb-false g n is in
        (inl h.0, λ f lt k. elim k [ inl old ↦ h.1 f lt old | inr new ↦ absurd (omega (arith, lt, above, new.0)) ])

    with_lower : (least : Option ℕ) → has g ≡ false → IsLeast fact least → IsLeast OneMore (Some (lower_of least g))
    with_lower None lacks h = (inr (refl, lacks), λ f lt k. elim k [ inl old ↦ h f old | inr new ↦ absurd (omega (arith, lt, new.0)) ])
    with_lower (Some n) lacks h = lower_is n (nat_lt g n) refl lacks h

    one_more : (b : Bool) (least : Option ℕ) → has g ≡ b → IsLeast fact least → IsLeast OneMore (if b then least else Some (lower_of least g))
    one_more true least is h =
        same_least fact OneMore (λ f k. inl k)
        (λ f k. elim k [ inl old ↦ old | inr new ↦ absurd (not_both f (ap has new.0 ∙ is) new.1) ]) least h
    one_more false least is h = with_lower least is h

  all_more : (symbols : List ℕ) (fact : ℕ → Type 0) (least : Option ℕ) → IsLeast fact least
      → IsLeast (λ f. fact f ⊎ (In f symbols × (has f ≡ false))) (least_lacking has least symbols)
  all_more [] fact least h =
      same_least fact (λ f. fact f ⊎ (In f [] × (has f ≡ false))) (λ f k. inl k) (λ f k. elim k [ inl old ↦ old | inr new ↦ absurd (no_in new.0) ]) least h
  all_more (g ∷ symbols) fact least h =
      let rest = all_more symbols (OneMore fact g) (lacking_with has least g) (one_more fact g (has g) least refl h) in
      same_least (λ f. OneMore fact g f ⊎ (In f symbols × (has f ≡ false))) (λ f. fact f ⊎ (In f (g ∷ symbols) × (has f ≡ false)))
      (λ f k. elim k [
        | inl old ↦ elim old [ inl k ↦ inl k | inr new ↦ inr (subst (λ z. In z (g ∷ symbols)) (sym new.0) in_first, new.1) ]
        | inr later ↦ inr (in_rest later.0, later.1)
      ])
      (λ f k. elim k [
        | inl old ↦ inl (inl old)
        | inr new ↦ elim (in_or new.0) [ inl same ↦ inl (inr (same, new.1)) | inr later ↦ inr (later, new.1) ]
      ])
      (least_lacking has (lacking_with has least g) symbols) rest

  pub lacking_is_least : (symbols : List ℕ) → IsLeast (λ f. In f symbols × (has f ≡ false)) (least_lacking has None symbols)
  lacking_is_least symbols =
      same_least (λ f. ⊥ ⊎ (In f symbols × (has f ≡ false))) (λ f. In f symbols × (has f ≡ false))
      (λ f k. elim k [ inl none ↦ absurd none | inr is ↦ is ]) (λ f k. inr k) (least_lacking has None symbols)
      (all_more symbols (λ f. ⊥) None (λ f none. none))

  pub none_lacks : (symbols : List ℕ) → None ≡ least_lacking has None symbols → (f : ℕ) → In f symbols × (has f ≡ false) → ⊥
  none_lacks symbols e = subst (IsLeast (λ f. In f symbols × (has f ≡ false))) (sym e) (lacking_is_least symbols)

  pub least_that_lacks : (symbols : List ℕ) (n : ℕ) → Some n ≡ least_lacking has None symbols
      → (In n symbols × (has n ≡ false)) × ((f : ℕ) → f < n → In f symbols × (has f ≡ false) → ⊥)
  least_that_lacks symbols n e = subst (IsLeast (λ f. In f symbols × (has f ≡ false))) (sym e) (lacking_is_least symbols)

  -- where each symbol has an entry the best so far stays
  pub all_have : (symbols : List ℕ) (least : Option ℕ) → ((f : ℕ) → In f symbols → has f ≡ true) → least ≡ least_lacking has least symbols
  all_have [] least h = refl
  all_have (f ∷ symbols) least h =
      all_have symbols least (λ g i. h g (in_rest i)) ∙ ap (λ o. least_lacking has o symbols) (sym (cond-true (has f) least (Some (lower_of least f)) (h f in_first)))

  -- one argument more of those that are left
  pub argument_asked : (t : Tree) (ts : Trees) (least next whole : Option ℕ) → next ≡ least_lacking has least (symbols_of t)
      → least_lacking has least (symbols_of_all (cons t ts)) ≡ whole → least_lacking has next (symbols_of_all ts) ≡ whole
  argument_asked t ts least next whole e h =
      ap (λ o. least_lacking has o (symbols_of_all ts)) e ∙ (sym (least_lacking_both (symbols_of t) (symbols_of_all ts) least) ∙ h)

  -- one rule more of those that are left
  pub rule_asked : (chosen : List RewriteRule) (i : ℕ) (r : RewriteRule) (least next whole : Option ℕ) → slice_get chosen i ≡ Some r
      → next ≡ least_lacking has least (symbols_of r.left ++ symbols_of r.right)
      → least_lacking has least (symbols_of_rules (drop i chosen)) ≡ whole → least_lacking has next (symbols_of_rules (drop (i + 1) chosen)) ≡ whole
  rule_asked chosen i r least next whole there e h =
      let opened : drop i chosen ≡ r ∷ drop (i + 1) chosen = next_item chosen i r there in
      let rest = symbols_of_rules (drop (i + 1) chosen) in
      ap (λ o. least_lacking has o rest) e
      ∙ (sym (least_lacking_both (symbols_of r.left ++ symbols_of r.right) rest least) ∙ (ap (λ rs. least_lacking has least (symbols_of_rules rs)) (sym opened) ∙ h))

  -- both sides of a rule
  pub sides_asked : (l t : Tree) (r : RewriteRule) (least first whole : Option ℕ) → record { left = l; right = t } ≡ r
      → first ≡ least_lacking has least (symbols_of l) → whole ≡ least_lacking has first (symbols_of t)
      → whole ≡ least_lacking has least (symbols_of r.left ++ symbols_of r.right)
  sides_asked l t r least first whole same e d =
      subst (λ (q : RewriteRule). whole ≡ least_lacking has least (symbols_of q.left ++ symbols_of q.right)) same
      (d ∙ (ap (λ o. least_lacking has o (symbols_of t)) e ∙ sym (least_lacking_both (symbols_of l) (symbols_of t) least)))

  -- the roots of one pair more
  pub roots_asked : (taken : List DependencyPair) (i : ℕ) (p : DependencyPair) (least next whole : Option ℕ) → slice_get taken i ≡ Some p
      → next ≡ lacking_with has (lacking_with has least p.from.symbol) p.to.symbol
      → least_lacking has least (roots_of (drop i taken)) ≡ whole → least_lacking has next (roots_of (drop (i + 1) taken)) ≡ whole
  roots_asked taken i p least next whole there e h =
      let opened : drop i taken ≡ p ∷ drop (i + 1) taken = next_item taken i p there in
      ap (λ o. least_lacking has o (roots_of (drop (i + 1) taken))) e ∙ (ap (λ ps. least_lacking has least (roots_of ps)) (sym opened) ∙ h)
