-- What a containment says of a pair.
use Rattle.std.specs.Prelude.{◌≡◌, ℕ, ◌+◌, ◌<◌, Bool, true, false, ◌||◌, List, [], ◌∷◌, length, drop, Option, Some, None, IfSome, slice_get, get_or}
use Rattle.std.proofs.Common.{zero, suc, refl, sym, ap, ap₂, subst, arith, ◌∙◌}
use Rattle.std.proofs.lemmas.Option.{slice_get-get_or, slice_get_within, get_or_from_slice_get, same_Some}
use Rattle.trs_defs.specs.Tree.{Tree}
use Rattle.trs_defs.specs.Position.{argument_at}
use Rattle.pair_theory.specs.Marked.{Marked, plain}
use Rattle.pair_theory.specs.DependencyPair.{DependencyPair}
use Rattle.order_theory.specs.PathTest.{same_tree}
use Rattle.order_theory.proofs.PathDecides.{same_self}
use Rattle.assign_search.proofs.Refuting.{or_left, or_right}
use Rattle.order_search.specs.dp_core.Containment.{IsContainment}
use Rattle.order_search.specs.dp_core.declared.contained.Containment.{Containment}
use Rattle.order_search.specs.dp_core.declared.contained.Containment.TheVariants.{Equal, Proper, Missing}
use Rattle.order_search.proofs.dp_core.Subterms.{not_proper, sub_of_proper}
use Rattle.order_search.proofs.dp_core.Collecting.{next_item}
use Rattle.order_search.proofs.Tests.{never_true}
use Rattle.order_search.specs.Slots.{Table}
use Rattle.order_find.specs.Subterms.{has_subterm, has_proper_subterm}
use Rattle.order_find.specs.SubtermSpace.{both_pass, passes, some_passes}
use Rattle.order_find.specs.Remembered.{is_subterm, is_proper, ProjectsSo, PairProjectsSo, IsTrueOf, IsKnown}
use Rattle.order_find.specs.declared.memo.Known.{Known}
use Rattle.order_find.proofs.Subterms.{is_sub, is_proper as proper_by, proper_is}

within_is : (s t : Tree) (found : Containment) → IsContainment s t found → has_subterm s t ≡ is_subterm found
within_is s t Equal e = or_left (same_tree s t) (has_proper_subterm s t) (subst (λ u. same_tree s u ≡ true) e (same_self s))
within_is s t Proper p = or_right (same_tree s t) (has_proper_subterm s t) (proper_is p)
within_is s t Missing none = sym (never_true (has_subterm s t) (λ e. none (is_sub s t e)))

properly_is : (s t : Tree) (found : Containment) → IsContainment s t found → has_proper_subterm s t ≡ is_proper found
properly_is s t Equal e = sym (never_true (has_proper_subterm s t) (λ h. not_proper s t e (proper_by s t h)))
properly_is s t Proper p = proper_is p
properly_is s t Missing none = sym (never_true (has_proper_subterm s t) (λ h. none (sub_of_proper s t (proper_by s t h))))

no_second : (test : Tree → Tree → Bool) (o : Option Tree) → both_pass test o None ≡ false
no_second test None = refl
no_second test (Some s) = refl

module _ (from to : Marked) (p : DependencyPair) (is : record { from = from; to = to } ≡ p) (left right : ℕ) where
  pub no_left : argument_at (plain from) (left + 1) ≡ None → ProjectsSo p left right Missing
  no_left none = subst (λ (q : DependencyPair). ProjectsSo q left right Missing) is (record {
    within = ap (λ o. both_pass has_subterm o (argument_at (plain to) (right + 1))) none;
    properly = ap (λ o. both_pass has_proper_subterm o (argument_at (plain to) (right + 1))) none;
  })

  pub no_right : argument_at (plain to) (right + 1) ≡ None → ProjectsSo p left right Missing
  no_right none = subst (λ (q : DependencyPair). ProjectsSo q left right Missing) is (record {
    within = ap (λ o. both_pass has_subterm (argument_at (plain from) (left + 1)) o) none ∙ no_second has_subterm (argument_at (plain from) (left + 1));
    properly = ap (λ o. both_pass has_proper_subterm (argument_at (plain from) (left + 1)) o) none ∙ no_second has_proper_subterm (argument_at (plain from) (left + 1));
  })

  pub both_there : (s t : Tree) (found : Containment) → argument_at (plain from) (left + 1) ≡ Some s → argument_at (plain to) (right + 1) ≡ Some t
      → IsContainment s t found → ProjectsSo p left right found
  both_there s t found first second contained = subst (λ (q : DependencyPair). ProjectsSo q left right found) is (record {
    within = ap₂ (both_pass has_subterm) first second ∙ within_is s t found contained;
    properly = ap₂ (both_pass has_proper_subterm) first second ∙ properly_is s t found contained;
  })

-- the values of the roots are those of the table
pub by_table : (table : Table) (p q : DependencyPair) (f g left right : ℕ) (found : Containment) → q ≡ p → f ≡ q.from.symbol → g ≡ q.to.symbol
    → left ≡ table f 0 → right ≡ table g 0 → ProjectsSo p left right found → ProjectsSo p (table p.from.symbol 0) (table p.to.symbol 0) found
by_table table p q f g left right found same first second first_is second_is h =
    let l : left ≡ table p.from.symbol 0 = first_is ∙ ap (λ (k : ℕ). table k 0) (first ∙ ap (λ (x : DependencyPair). x.from.symbol) same) in
    let r : right ≡ table p.to.symbol 0 = second_is ∙ ap (λ (k : ℕ). table k 0) (second ∙ ap (λ (x : DependencyPair). x.to.symbol) same) in
    subst (λ (v : ℕ). ProjectsSo p v (table p.to.symbol 0) found) l (subst (λ (v : ℕ). ProjectsSo p left v found) r h)

-- the pair of a number that is there
pub the_pair : (pairs : List DependencyPair) (n : ℕ) (d p : DependencyPair) → n < length pairs → slice_get pairs n ≡ Some p → get_or pairs n d ≡ p
the_pair pairs n d p below there = same_Some (get_or pairs n d) p (sym (slice_get-get_or pairs n d below) ∙ there)

pub pair_there : (pairs : List DependencyPair) (n : ℕ) → n < length pairs → (p : DependencyPair) × (slice_get pairs n ≡ Some p)
pair_there [] n below = absurd (omega (arith, below))
pair_there (q ∷ pairs) zero below = (q, refl)
pair_there (q ∷ pairs) (suc n) below = pair_there pairs n (omega (arith, below))

-- the pairs from one on, where that one does not project to a proper subterm
pub none_here : (table : Table) (pairs : List DependencyPair) (n : ℕ) (p : DependencyPair) → slice_get pairs n ≡ Some p → passes has_proper_subterm table p ≡ false
    → some_passes table (drop n pairs) ≡ some_passes table (drop (n + 1) pairs)
none_here table pairs n p there e = ap (some_passes table) (next_item pairs n p there) ∙ ap (λ b. b || some_passes table (drop (n + 1) pairs)) e

-- where it does
pub one_here : (table : Table) (pairs : List DependencyPair) (n : ℕ) (p : DependencyPair) → slice_get pairs n ≡ Some p → passes has_proper_subterm table p ≡ true
    → some_passes table pairs ≡ true
one_here table [] n p there e = absurd cc
one_here table (q ∷ pairs) zero p there e =
    let same : q ≡ p = cc in
    or_left (passes has_proper_subterm table q) (some_passes table pairs) (subst (λ (x : DependencyPair). passes has_proper_subterm table x ≡ true) (sym same) e)
one_here table (q ∷ pairs) (suc n) p there e =
    or_right (passes has_proper_subterm table q) (some_passes table pairs) (one_here table pairs n p there e)

-- what is remembered of the values is known
pub remembered : (known : List Known) (i : ℕ) (k : Known) (pair left right : ℕ) → slice_get known i ≡ Some k → k.pair ≡ pair → k.left ≡ left → k.right ≡ right
    → (o : Option Containment) → k.containment ≡ o → IfSome o (IsKnown known pair left right)
remembered known i k pair left right there a b c None e = tt
remembered known i k pair left right there a b c (Some found) e = λ pairs true p at.
    let here : IsTrueOf pairs k = subst (λ (x : Known). IsTrueOf pairs x) (get_or_from_slice_get known i k k there) (true i k (slice_get_within known i k there)) in
    let third : PairProjectsSo pairs k.pair k.left right found = subst (λ (v : ℕ). PairProjectsSo pairs k.pair k.left v found) c (here found e) in
    let second : PairProjectsSo pairs k.pair left right found = subst (λ (v : ℕ). PairProjectsSo pairs k.pair v right found) b third in
    let first : PairProjectsSo pairs pair left right found = subst (λ (v : ℕ). PairProjectsSo pairs v left right found) a second in
    first p at
