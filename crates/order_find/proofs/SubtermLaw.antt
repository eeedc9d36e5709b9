-- The places that are found meet the conditions of a step by the subterm criterion.
use Rattle.std.specs.Prelude.{ℕ, ◌+◌, ◌<◌, Bool, true, false, ◌&&◌, ◌||◌, ◌==◌, if◌then◌else◌, List, [], ◌∷◌, length, map, zip, get_or, Option, Some, None, Ok, ◌≡◌}
use Rattle.std.specs.Option.{option_and_then}
use Rattle.std.proofs.Common.{suc, refl, sym, ap, subst, arith, ◌∙◌, inl, inr}
use Rattle.std.proofs.lemmas.Option.{slice_get_within}
use Rattle.trs_defs.specs.Member.{In, in_first, in_rest}
use Rattle.trs_defs.proofs.Members.{in_or, no_in, get_of_in}
use Rattle.trs_defs.specs.Tree.{Tree}
use Rattle.trs_defs.specs.Position.{argument_at}
use Rattle.pair_theory.specs.Marked.{Marked, plain}
use Rattle.pair_theory.specs.Subterm.{Sub, ProperSubterm}
use Rattle.pair_theory.specs.DependencyPair.{DependencyPair, dependency_pairs}
use Rattle.rewrite_core.specs.Check.{Asks, returned, goes_on, holds, never, collect, yes_it_does, no_it_does_not}
use Rattle.order_search.specs.dp_core.Numbered.{ArePairsOf, taken}
use Rattle.order_search.specs.dp_core.SubtermConditions.{place_for, projected, ProjectedAre, roots_of, projects_within, unflagged, subterm_conditions}
use Rattle.order_search.proofs.dp_core.NumberedPairs.{as_many}
use Rattle.assign_search.proofs.Refuting.{true_or_false}
use Rattle.order_search.specs.Slots.{table_from, table_of, puzzle_of}
use Rattle.order_search.specs.Ascending.{AreAscending}
use Rattle.order_search.proofs.Solutions.{solved}
use Rattle.order_search.proofs.Tests.{self_test}
use Rattle.order_find.specs.Subterms.{has_subterm, has_proper_subterm}
use Rattle.order_find.specs.SubtermSpace.{both_pass, passes, some_passes, subterm_slots, subterm_search}
use Rattle.order_find.specs.SubtermRow.{places_of}
use Rattle.order_find.specs.Laws.{FoundPlacesApply}
use Rattle.order_find.proofs.Subterms.{is_sub, is_proper, proper_is}
use Rattle.order_find.proofs.SubtermPuzzle.{many_slots, many_constraints, truth_pair, truth_last}

choose_place : (b : Bool) (x y : Option ℕ) (u v : ℕ) → (b ≡ true → x ≡ Some (u + 1)) → (b ≡ false → y ≡ Some (v + 1))
    → (if b then x else y) ≡ Some ((if b && true then u else v) + 1)
choose_place true x y u v first later = first refl
choose_place false x y u v first later = later refl

-- the entry of a root has the place that the value says
place_from : (roots vs values : List ℕ) (k f : ℕ) → length vs ≡ length roots → ((i : ℕ) → i < length vs → get_or vs i 0 ≡ get_or values (k + i) 0) → In f roots
    → place_for (places_of roots vs) f ≡ Some (table_from k (subterm_slots roots) values f 0 + 1)
place_from [] vs values k f e same i = absurd (no_in i)
place_from (g ∷ roots) [] values k f e same i = absurd (omega (arith, e))
place_from (g ∷ roots) (v ∷ vs) values k f e same i =
    choose_place (g == f) _ _ _ _
    (λ _.
    let first : v ≡ get_or values (k + 0) 0 = same 0 (omega arith) in
    let at : k + 0 ≡ k = omega arith in
    ap (λ (x : ℕ). Some (x + 1)) (first ∙ ap (λ (j : ℕ). get_or values j 0) at))
    (λ other. elim (in_or i) [
      | inl here ↦
          (let same_root : (f == f) ≡ false = subst (λ (x : ℕ). (x == f) ≡ false) (sym here) other in
          let self : (f == f) ≡ true = self_test f in
          absurd cc)
      | inr there ↦
          place_from roots vs values (suc k) f (omega (arith, e))
          (λ j below.
          let next : get_or vs j 0 ≡ get_or values (k + suc j) 0 = same (suc j) (omega (arith, below)) in
          let at : k + suc j ≡ suc k + j = omega arith in
          next ∙ ap (λ (x : ℕ). get_or values x 0) at)
          there
    ])

pub record Sides (test : Tree → Tree → Bool) (a b : Option Tree) : Type 0 where
  pub left : Tree
  pub right : Tree
  pub left_is : a ≡ Some left
  pub right_is : b ≡ Some right
  pub pass : test left right ≡ true

sides_of : (test : Tree → Tree → Bool) (a b : Option Tree) → both_pass test a b ≡ true → Sides test a b
sides_of test None b e = absurd cc
sides_of test (Some s) None e = absurd cc
sides_of test (Some s) (Some t) e = record { left = s; right = t; left_is = refl; right_is = refl; pass = e }

sides_pass : (test : Tree → Tree → Bool) (a b : Option Tree) (s t : Tree) → a ≡ Some s → b ≡ Some t → test s t ≡ true → both_pass test a b ≡ true
sides_pass test None b s t d e h = absurd cc
sides_pass test (Some x) None s t d e h = absurd cc
sides_pass test (Some x) (Some y) s t d e h =
    let one : x ≡ s = cc in
    let two : y ≡ t = cc in
    subst (λ u. test u y ≡ true) (sym one) (subst (λ u. test s u ≡ true) (sym two) h)

from_root : (ps : List DependencyPair) (p : DependencyPair) → In p ps → In p.from.symbol (roots_of ps)
from_root [] p i = absurd (no_in i)
from_root (q ∷ ps) p i = elim (in_or i) [
  | inl same ↦ subst (λ (x : DependencyPair). In x.from.symbol (roots_of (q ∷ ps))) (sym same) in_first
  | inr later ↦ in_rest (in_rest (from_root ps p later))
]

to_root : (ps : List DependencyPair) (p : DependencyPair) → In p ps → In p.to.symbol (roots_of ps)
to_root [] p i = absurd (no_in i)
to_root (q ∷ ps) p i = elim (in_or i) [
  | inl same ↦ subst (λ (x : DependencyPair). In x.to.symbol (roots_of (q ∷ ps))) (sym same) (in_rest in_first)
  | inr later ↦ in_rest (in_rest (to_root ps p later))
]

module _ (roots values : List ℕ) (pairs : List DependencyPair) (are : AreAscending (roots_of pairs) roots) (full : length values ≡ length roots) where
  root_place : (f : ℕ) → In f (roots_of pairs) → place_for (places_of roots values) f ≡ Some (table_of (subterm_slots roots) values f 0 + 1)
  root_place f i = place_from roots values values 0 f full (λ j below. let at : j ≡ 0 + j = omega arith in ap (λ (x : ℕ). get_or values x 0) at) ((are.each f).1 i)

  side_projected : (m : Marked) → In m.symbol (roots_of pairs) → projected (places_of roots values) m ≡ argument_at (plain m) (table_of (subterm_slots roots) values m.symbol 0 + 1)
  side_projected m i = ap (λ o. option_and_then (argument_at (plain m)) o) (root_place m.symbol i)

  related : (p : DependencyPair) → In p pairs → (test : Tree → Tree → Bool) (R : Tree → Tree → Type 0) → ((s t : Tree) → test s t ≡ true → R s t)
      → passes test (table_of (subterm_slots roots) values) p ≡ true → ProjectedAre (places_of roots values) R p
  related p i test R sound e =
      let s = sides_of test _ _ e in
      record {
        left = s.left;
        right = s.right;
        left_there = side_projected p.from (from_root pairs p i) ∙ s.left_is;
        right_there = side_projected p.to (to_root pairs p i) ∙ s.right_is;
        relation = sound s.left s.right s.pass;
      }

  proper_flag : (p : DependencyPair) → In p pairs → ProjectedAre (places_of roots values) ProperSubterm p → passes has_proper_subterm (table_of (subterm_slots roots) values) p ≡ true
  proper_flag p i h =
      sides_pass has_proper_subterm _ _ h.left h.right (sym (side_projected p.from (from_root pairs p i)) ∙ h.left_there)
      (sym (side_projected p.to (to_root pairs p i)) ∙ h.right_there) (proper_is h.relation)

  asked : (p : DependencyPair) → In p pairs → (b : Bool) → passes has_proper_subterm (table_of (subterm_slots roots) values) p ≡ b
      → Asks (ProjectedAre (places_of roots values) ProperSubterm p) (Ok b)
  asked p i true e = yes_it_does (related p i has_proper_subterm ProperSubterm is_proper e)
  asked p i false e = no_it_does_not (λ h. let set = proper_flag p i h in absurd cc)

  one_within : (n : ℕ) (p : DependencyPair) → In p pairs → passes has_subterm (table_of (subterm_slots roots) values) p ≡ true
      → projects_within (places_of roots values) n p (Ok (passes has_proper_subterm (table_of (subterm_slots roots) values) p))
  one_within n p i e = goes_on tt _ (holds (related p i has_subterm (λ s t. Sub t s) is_sub e)) (asked p i _ refl)

  abbrev flags : List DependencyPair → List Bool
  flags ps = map (λ p. passes has_proper_subterm (table_of (subterm_slots roots) values) p) ps

  all_within : (k : ℕ) (ns : List ℕ) (ps : List DependencyPair) → length ps ≡ length ns
      → ((p : DependencyPair) → In p ps → In p pairs × (passes has_subterm (table_of (subterm_slots roots) values) p ≡ true))
      → collect (λ _ item. projects_within (places_of roots values) item.0 item.1) k (zip ns ps) (Ok (flags ps))
  all_within k [] [] e weak = returned
  all_within k [] (p ∷ ps) e weak = absurd (omega (arith, e))
  all_within k (n ∷ ns) [] e weak = absurd (omega (arith, e))
  all_within k (n ∷ ns) (p ∷ ps) e weak =
      let here = weak p in_first in
      goes_on _ _ (one_within n p here.0 here.1)
      (goes_on (flags ps) _ (all_within (k + 1) ns ps (omega (arith, e)) (λ q i. weak q (in_rest i))) returned)

  some_flag : (ps : List DependencyPair) → some_passes (table_of (subterm_slots roots) values) ps ≡ true → In true (flags ps)
  some_flag [] e = absurd cc
  some_flag (p ∷ ps) e = elim (true_or_false (passes has_proper_subterm (table_of (subterm_slots roots) values) p)) [
    | inl set ↦ subst (λ b. In true (b ∷ flags ps)) (sym set) in_first
    | inr unset ↦ in_rest (some_flag ps (sym (ap (λ b. b || some_passes (table_of (subterm_slots roots) values) ps) unset) ∙ e))
  ]

  no_missing : (f : ℕ) → In f (roots_of pairs) × (place_for (places_of roots values) f ≡ None) → ⊥
  no_missing f (i, e) = let there = root_place f i in absurd cc

  pub places_apply : (all : List DependencyPair) (numbers : List ℕ) → ArePairsOf all numbers pairs
      → ((p : DependencyPair) → In p pairs → passes has_subterm (table_of (subterm_slots roots) values) p ≡ true)
      → some_passes (table_of (subterm_slots roots) values) pairs ≡ true
      → subterm_conditions all (places_of roots values) numbers (Ok (unflagged numbers (flags pairs)))
  places_apply all numbers of weak some =
      goes_on pairs _ (taken pairs of)
      (goes_on tt _ (never no_missing)
      (goes_on (flags pairs) _ (all_within 0 numbers pairs (as_many all numbers pairs of) (λ p i. (i, weak p i)))
      (goes_on tt _ (holds (some_flag pairs some)) returned)))

pub found_apply : FoundPlacesApply
found_apply system numbers budget projection h =
    let pairs = h.pairs in
    let values = h.found.values in
    let z = puzzle_of (subterm_search system.arities h.roots pairs) in
    let s = solved z values h.found.first.0 in
    let full : length values ≡ length h.roots = s.full ∙ sym (many_slots system.arities h.roots pairs) in
    let count = many_constraints system.arities h.roots pairs in
    let weak : (p : DependencyPair) → In p pairs → passes has_subterm (table_of (subterm_slots h.roots) values) p ≡ true = λ p i.
    (let (c, at) = get_of_in i in
    let below : c < length pairs = slice_get_within pairs c p at in
    sym (truth_pair system.arities h.roots pairs c values p at) ∙ s.meets c (omega (arith, below, count))) in
    let some : some_passes (table_of (subterm_slots h.roots) values) pairs ≡ true =
    sym (truth_last system.arities h.roots pairs (length pairs) values refl) ∙ s.meets (length pairs) (omega (arith, count)) in (
      _,
      subst (λ l. subterm_conditions (dependency_pairs system.rules) l numbers (Ok (unflagged numbers (map (λ p. passes has_proper_subterm (table_of (subterm_slots h.roots) values) p) pairs)))) (sym h.found.are)
          (places_apply h.roots values pairs h.of_problem.are_roots full (dependency_pairs system.rules) numbers h.of_problem.taken weak some),
    )
