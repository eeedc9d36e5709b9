-- The sides of a pair, as they are found.
use Rattle.std.specs.Prelude.{◌≡◌, ◌≤◌, ◌<◌, ℕ, ◌+◌, List, [], ◌∷◌, ◌++◌, length, take, get_or, All, Some, slice_get}
use Rattle.std.proofs.Common.{suc, refl, sym, ap, subst, arith, ◌∙◌, add-one}
use Rattle.std.proofs.Math.Seq.{take-suc}
use Rattle.std.proofs.lemmas.Option.{slice_get_within, slice_get-get_or, get_or_from_slice_get, slice_get_read, same_Some}
use Rattle.trs_defs.specs.Member.{In}
use Rattle.trs_defs.proofs.Members.{in_of_get}
use Rattle.trs_defs.specs.Tree.{Tree, nil, count}
use Rattle.trs_defs.specs.WellFormed.{IsWellFormed}
use Rattle.trs_defs.specs.Position.{subterm_at}
use Rattle.trs_defs.specs.System.{RewriteRule, System, IsSystem}
use Rattle.trs_defs.specs.Path.{PlacedRule}
use Rattle.trs_defs.proofs.WellFormedness.{subterm_there}
use Rattle.pair_theory.specs.Marked.{Marked, plain}
use Rattle.pair_theory.specs.DependencyPair.{DependencyPair, dependency_pairs}
use Rattle.pair_theory.specs.PairProblem.{IsPair}
use Rattle.dp_core.specs.Markable.{IsMarkable}
use Rattle.dp_core.specs.PlacedPairs.{placed_pairs, IsPairAt, IsPlacedPair}
use Rattle.dp_core.specs.Laws.{AllPairsArePlaced, PairsArePlacedInOrder}

pub small_symbol : (arities : List ℕ) → length arities ≤ 4095 → (t : Tree) (m : Marked) → IsWellFormed arities t → t ≡ plain m → m.symbol < 4096
small_symbol arities few t m well is =
    let w : IsWellFormed arities (plain m) = subst (IsWellFormed arities) is well in
    let h = slice_get_within arities m.symbol (count m.args) w.0 in
    omega (arith, h, few)

-- the rule whose number the pair has, as it is read
module _ (system : System) (valid : IsSystem system) (few : length system.arities ≤ 4095) (read : List RewriteRule) (same : read ≡ system.rules)
    (s : PlacedRule) (place : List ℕ) (k : ℕ) (is_pair : record { place = place; rule = k } ≡ s)
    (got : RewriteRule) (at : got ≡ get_or read k got) (l r : Tree) (seen : record { left = l; right = r } ≡ got) where
  is_rule : (want : RewriteRule) → slice_get system.rules s.rule ≡ Some want → record { left = l; right = r } ≡ want
  is_rule want e =
      let number : k ≡ s.rule = ap (λ (z : PlacedRule). z.rule) is_pair in
      let there : slice_get read k ≡ Some want = rw (same, number) e in
      seen ∙ (at ∙ get_or_from_slice_get read k want got there)

  numbered : (want : RewriteRule) → slice_get system.rules s.rule ≡ Some want → slice_get system.rules s.rule ≡ Some (record { left = l; right = r })
  numbered want e = e ∙ ap (λ x. Some x) (sym (is_rule want e))

  pub left_small : IsPlacedPair system.rules s → (m : Marked) → l ≡ plain m → m.symbol < 4096
  left_small p m is = small_symbol system.arities few l m (valid.each s.rule (record { left = l; right = r }) (numbered p.rule p.numbered)).left_well_formed is

  pub right_small : IsPlacedPair system.rules s → (part : Tree) → subterm_at place r ≡ Some part → (m : Marked) → part ≡ plain m → m.symbol < 4096
  right_small p part there m is =
      small_symbol system.arities few part m
      (subterm_there system.arities place r part (valid.each s.rule (record { left = l; right = r }) (numbered p.rule p.numbered)).right_well_formed there).well_formed is

  pub left_is : (pair : DependencyPair) → IsPairAt system.rules s pair → l ≡ plain pair.from
  left_is pair p = ap (λ (z : RewriteRule). z.left) (is_rule p.rule p.numbered) ∙ p.left

  pub right_is : (pair : DependencyPair) → IsPairAt system.rules s pair → (part : Tree) → subterm_at place r ≡ Some part → part ≡ plain pair.to
  right_is pair p part there =
      let right : r ≡ p.rule.right = ap (λ (z : RewriteRule). z.right) (is_rule p.rule p.numbered) in
      let position : place ≡ s.place = ap (λ (z : PlacedRule). z.place) is_pair in
      let stands : subterm_at place r ≡ Some (plain pair.to) = rw (position, right) p.right in
      same_Some part (plain pair.to) (sym there ∙ stands)

-- pair number i, whose place is known
pub pair_there : AllPairsArePlaced → PairsArePlacedInOrder → (system : System) → IsSystem system → (all : List PlacedRule) → all ≡ placed_pairs system.rules
    → (i : ℕ) (p : PlacedRule) → i < length all → p ≡ get_or all i p
    → (pair : DependencyPair) × (slice_get (dependency_pairs system.rules) i ≡ Some pair) × IsPairAt system.rules p pair
pair_there whole order system valid all is i p h e =
    let d : DependencyPair = record { from = record { symbol = 0; args = nil }; to = record { symbol = 0; args = nil } } in
    let lengths : length all ≡ length (dependency_pairs system.rules) = ap length is ∙ whole system valid in
    let pair : DependencyPair = get_or (dependency_pairs system.rules) i d in
    let numbered : slice_get (dependency_pairs system.rules) i ≡ Some pair = slice_get-get_or (dependency_pairs system.rules) i d (omega (arith, lengths, h)) in
    let place : slice_get (placed_pairs system.rules) i ≡ Some p = ap (λ ps. slice_get ps i) (sym is) ∙ slice_get_read all (length all) i p refl h e in
    (pair, numbered, order system i p pair valid place numbered)

-- one more item
pub one_more_taken : {A : Type 0} (xs items new : List A) (i : ℕ) (x y : A) → slice_get xs i ≡ Some x → y ≡ x → items ≡ take i xs → new ≡ items ++ y ∷ [] → new ≡ take (i + 1) xs
one_more_taken xs items new i x y e same before grown =
    let whole : take (suc i) xs ≡ take i xs ++ x ∷ [] = take-suc xs i x (slice_get_within xs i x e) ∙ ap (λ z. take i xs ++ z ∷ []) (get_or_from_slice_get xs i x x e) in
    grown ∙ (ap (λ l. l ++ y ∷ []) before ∙ (ap (λ z. take i xs ++ z ∷ []) same ∙ rw add-one (sym whole)))

-- the sides of dependency pairs can be marked
pub all_markable : (system : System) → length system.arities ≤ 4095 → ((p : DependencyPair) → In p (dependency_pairs system.rules) → IsPair system.arities p)
    → All IsMarkable (dependency_pairs system.rules)
all_markable system few good k d within =
    let p = get_or (dependency_pairs system.rules) k d in
    let over = good p (in_of_get (dependency_pairs system.rules) k p (slice_get-get_or (dependency_pairs system.rules) k d within)) in
    record {
      from = small_symbol system.arities few (plain p.from) p.from over.from_well_formed refl;
      to = small_symbol system.arities few (plain p.to) p.to over.to_well_formed refl;
    }
