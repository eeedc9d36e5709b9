-- The spots are places of symbols of left sides, and none is a rule with itself at the root.
use Rattle.std.specs.Prelude.{◌≡◌, ◌≢◌, ℕ, ◌+◌, Bool, true, false, ◌&&◌, ◌==◌, ◌⊎◌, List, [], ◌∷◌, map, Some, slice_get}
use Rattle.std.specs.Option.{option_and_then}
use Rattle.std.proofs.Common.{zero, suc, inl, inr, sym, ◌∙◌, ap, subst, refl, arith}
use Rattle.std.proofs.lemmas.Option.{same_Some}
use Rattle.trs_defs.specs.Member.{In, in_first, in_rest}
use Rattle.trs_defs.specs.Tree.{Tree, Trees, var, app, nil, cons, items}
use Rattle.trs_defs.specs.Position.{subterm_at}
use Rattle.trs_defs.specs.System.{RewriteRule}
use Rattle.trs_defs.proofs.Members.{in_either, no_in, in_or, of_map}
use Rattle.trs_defs.proofs.Substitutions.{apply_apply}
use Rattle.confluence_theory.specs.CriticalPeak.{Overlaps}
use Rattle.rewrite_core.specs.PlacedPeak.{PlacedPeak}
use Rattle.crit_pairs.specs.PeakList.{Spot, symbol_places, symbol_places_of_all, is_root, unless, spots_at, spots_of, spots_from, spots, OverlapsAt, IsPeakAt}

-- a symbol stands at the position
abbrev pub HasSymbolAt : List ℕ → Tree → Type 0
HasSymbolAt p t = (f : ℕ) × (us : Trees) × (subterm_at p t ≡ Some (app f us))

-- the same below argument number n of those that are counted from k on
record HasSymbolBelow (k : ℕ) (ts : Trees) (p : List ℕ) : Type 0 where
  index : ℕ
  below : List ℕ
  place : p ≡ (k + index) ∷ below
  symbol : ℕ
  arguments : Trees
  there : option_and_then (subterm_at below) (slice_get (items ts) index) ≡ Some (app symbol arguments)

mutual
  pub symbol_there : (t : Tree) (p : List ℕ) → In p (symbol_places t) → HasSymbolAt p t
  symbol_there (var v) p h = absurd (no_in h)
  symbol_there (app f ts) p h = elim (in_or h) [
    | inl e ↦ (f, ts, rw e refl)
    | inr k ↦
        let s = symbols_there 1 ts p k in
        let place : p ≡ suc s.index ∷ s.below = s.place ∙ ap (λ n. n ∷ s.below) (omega arith) in
        (s.symbol, s.arguments, ap (λ q. subterm_at q (app f ts)) place ∙ s.there)
  ]

  symbols_there : (k : ℕ) (ts : Trees) (p : List ℕ) → In p (symbol_places_of_all k ts) → HasSymbolBelow k ts p
  symbols_there k nil p h = absurd (no_in h)
  symbols_there k (cons t ts) p h = elim (in_either (map (λ q. k ∷ q) (symbol_places t)) (symbol_places_of_all (k + 1) ts) h) [
    | inl l ↦
        let (q, at, e) = of_map (λ q. k ∷ q) (symbol_places t) l in
        let (f, us, there) = symbol_there t q at in
        record { index = zero; below = q; place = e ∙ ap (λ n. n ∷ q) (omega arith); symbol = f; arguments = us; there = there }
    | inr l ↦
        let s = symbols_there (k + 1) ts p l in
        record { index = suc s.index; below = s.below; place = s.place ∙ ap (λ n. n ∷ s.below) (omega arith); symbol = s.symbol; arguments = s.arguments; there = s.there }
  ]

-- rule number j is not put on itself at the root
record IsSpotAt (j : ℕ) (p : List ℕ) (s : Spot) : Type 0 where
  outer : s.outer ≡ j
  place : s.place ≡ p
  passed : (is_root p && s.inner == j) ≡ false

unless_kept : {X : Type 0} (b : Bool) (x y : X) (xs : List X) → In y (unless b x xs) → (((y ≡ x) × (b ≡ false)) ⊎ In y xs)
unless_kept true x y xs h = inr h
unless_kept false x y xs h = elim (in_or h) [ inl e ↦ inl (e, refl) | inr k ↦ inr k ]

spot_at : (j : ℕ) (p : List ℕ) (k : ℕ) (rules : List RewriteRule) (s : Spot) → In s (spots_at j p k rules) → IsSpotAt j p s
spot_at j p k [] s h = absurd (no_in h)
spot_at j p k (rule ∷ rules) s h =
    elim (unless_kept (is_root p && k == j) (record { outer = j; place = p; inner = k }) s (spots_at j p (k + 1) rules) h) [
      | inl e ↦ rw e.0 (record { outer = refl; place = refl; passed = e.1 })
      | inr l ↦ spot_at j p (k + 1) rules s l
    ]

-- a symbol of rule number j's left side stands at the place
record IsSpotOf (j : ℕ) (left : Tree) (s : Spot) : Type 0 where
  at : IsSpotAt j s.place s
  symbol : HasSymbolAt s.place left

spot_of : (rules : List RewriteRule) (j : ℕ) (left : Tree) (places : List (List ℕ)) (s : Spot) → ((p : List ℕ) → In p places → HasSymbolAt p left) → In s (spots_of rules j places) → IsSpotOf j left s
spot_of rules j left [] s symbols h = absurd (no_in h)
spot_of rules j left (p ∷ places) s symbols h = elim (in_either (spots_at j p 0 rules) (spots_of rules j places) h) [
  | inl k ↦
      let at = spot_at j p 0 rules s k in
      record { at = subst (λ q. IsSpotAt j q s) (sym at.place) at; symbol = subst (λ q. HasSymbolAt q left) (sym at.place) (symbols p in_first) }
  | inr k ↦ spot_of rules j left places s (λ q l. symbols q (in_rest l)) k
]

record IsSpotFrom (k : ℕ) (rest : List RewriteRule) (s : Spot) : Type 0 where
  index : ℕ
  outer : RewriteRule
  numbered : slice_get rest index ≡ Some outer
  spot : IsSpotOf (k + index) outer.left s

spot_from : (rules : List RewriteRule) (k : ℕ) (rest : List RewriteRule) (s : Spot) → In s (spots_from rules k rest) → IsSpotFrom k rest s
spot_from rules k [] s h = absurd (no_in h)
spot_from rules k (rule ∷ rest) s h = elim (in_either (spots_of rules k (symbol_places rule.left)) (spots_from rules (k + 1) rest) h) [
  | inl l ↦
      let spot = spot_of rules k rule.left (symbol_places rule.left) s (λ p at. symbol_there rule.left p at) l in
      let same : k ≡ k + zero = omega arith in
      record { index = zero; outer = rule; numbered = refl; spot = subst (λ n. IsSpotOf n rule.left s) same spot }
  | inr l ↦
      let r = spot_from rules (k + 1) rest s l in
      let same : k + 1 + r.index ≡ k + suc r.index = omega arith in
      record { index = suc r.index; outer = r.outer; numbered = r.numbered; spot = subst (λ n. IsSpotOf n r.outer.left s) same r.spot }
]

passed_root : (p : List ℕ) (i j : ℕ) → (is_root p && i == j) ≡ false → p ≡ [] → i ≢ j
passed_root [] i j h e same = let self : (i == j) ≡ true = grind arith in absurd cc
passed_root (n ∷ p) i j h e same = absurd cc

-- where there is a critical peak at a spot, the rules overlap
pub peak_overlaps : (rules : List RewriteRule) (s : Spot) (p : PlacedPeak) → In s (spots rules) → IsPeakAt rules s p → OverlapsAt rules s
peak_overlaps rules s p h is =
    let r = spot_from rules 0 rules s h in
    let number : s.outer ≡ r.index = r.spot.at.outer ∙ omega arith in
    let outer : is.outer ≡ r.outer = same_Some is.outer r.outer (sym is.outer_numbered ∙ (ap (slice_get rules) number ∙ r.numbered)) in
    let c = is.critical in
    let (f, us, there) = r.spot.symbol in
    let part : c.part ≡ app f us = same_Some c.part (app f us) (sym c.there ∙ (ap (λ (z : RewriteRule). subterm_at s.place z.left) outer ∙ there)) in
    let passed : (is_root s.place && s.inner == s.outer) ≡ false = subst (λ n. (is_root s.place && s.inner == n) ≡ false) (sym r.spot.at.outer) r.spot.at.passed in
    let overlap : Overlaps rules s.inner s.outer is.inner is.outer s.place =
    record {
      inner_numbered = is.inner_numbered;
      outer_numbered = is.outer_numbered;
      not_itself = passed_root s.place s.inner s.outer passed;
      part = c.part;
      there = c.there;
      no_variable = λ v. let e : app f us ≡ var v.0 = sym part ∙ v.1 in absurd cc;
      outer_instance = c.unifier;
      inner_instance = λ v. c.unifier (c.offset + v);
      meet = c.most_general.unifies ∙ apply_apply c.unifier (λ v. var (c.offset + v)) is.inner.left;
    } in
    (is.inner, is.outer, overlap)
