-- The test of subterms decides them.
use Rattle.std.specs.Prelude.{Bool, true, false, ◌||◌, ◌≡◌}
use Rattle.std.proofs.Common.{refl, sym, subst, inl, inr}
use Rattle.trs_defs.specs.Tree.{Tree, Trees, var, app, nil, cons}
use Rattle.pair_theory.specs.Subterm.{Sub, itself, under, Subs, in_head, in_tail, ProperSubterm, proper}
use Rattle.order_theory.specs.PathTest.{same_tree}
use Rattle.order_theory.proofs.PathDecides.{same_is, same_self}
use Rattle.assign_search.proofs.Refuting.{or_left, or_right}
use Rattle.order_find.specs.Subterms.{has_subterm, has_below, has_proper_subterm}
use Rattle.order_search.proofs.Tests.{either}

sub_here : (s t : Tree) → same_tree s t ≡ true → Sub t s
sub_here s t e = subst (λ u. Sub t u) (sym (same_is s t e)) itself

sub_of : {s t : Tree} → ProperSubterm s t → Sub t s
sub_of (proper p) = under p

regroup : (a b c : Bool) → (a || b) ≡ true → (a || (b || c)) ≡ true
regroup true b c e = refl
regroup false true c e = refl
regroup false false c e = absurd cc

mutual
  pub is_proper : (s t : Tree) → has_proper_subterm s t ≡ true → ProperSubterm s t
  is_proper (var x) t e = absurd cc
  is_proper (app f ss) t e = proper (are_subs ss t e)

  pub are_subs : (ss : Trees) (t : Tree) → has_below ss t ≡ true → Subs t ss
  are_subs nil t e = absurd cc
  are_subs (cons s ss) t e = elim (either (same_tree s t) (has_proper_subterm s t || has_below ss t) e) [
    | inl same ↦ in_head (sub_here s t same)
    | inr more ↦ elim (either (has_proper_subterm s t) (has_below ss t) more) [
      | inl below ↦ in_head (sub_of (is_proper s t below))
      | inr later ↦ in_tail (are_subs ss t later)
    ]
  ]

pub is_sub : (s t : Tree) → has_subterm s t ≡ true → Sub t s
is_sub s t e = elim (either (same_tree s t) (has_proper_subterm s t) e) [ inl same ↦ sub_here s t same | inr below ↦ sub_of (is_proper s t below) ]

mutual
  sub_is : {t s : Tree} → Sub t s → has_subterm s t ≡ true
  sub_is (itself {t = t}) = or_left (same_tree t t) (has_proper_subterm t t) (same_self t)
  sub_is {t = t} (under {f = f} {ts = ts} p) = or_right (same_tree (app f ts) t) (has_below ts t) (subs_are p)

  subs_are : {t : Tree} {ss : Trees} → Subs t ss → has_below ss t ≡ true
  subs_are {t = t} (in_head {t = s} {ts = ss} p) = regroup (same_tree s t) (has_proper_subterm s t) (has_below ss t) (sub_is p)
  subs_are {t = t} (in_tail {t = s} {ts = ss} p) =
      or_right (same_tree s t) (has_proper_subterm s t || has_below ss t) (or_right (has_proper_subterm s t) (has_below ss t) (subs_are p))

pub proper_is : {s t : Tree} → ProperSubterm s t → has_proper_subterm s t ≡ true
proper_is (proper p) = subs_are p
