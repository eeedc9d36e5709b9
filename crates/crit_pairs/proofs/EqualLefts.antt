-- Numbers of rules with equal left sides.
use Rattle.std.proofs.Common.{◌≡◌, ℕ, List, [], ◌∷◌, ◌++◌, inl, inr, Some, length, slice_get, sym, ◌∙◌, ap, subst}
use Rattle.trs_defs.specs.Tree.{Tree}
use Rattle.trs_defs.specs.System.{RewriteRule}
use Rattle.trs_defs.proofs.ListItems.{item_of_more}
use Rattle.crit_pairs.specs.EqualLefts.{left_side, NameEqualLefts}

pub no_left_numbers : (rules : List RewriteRule) (firsts : List ℕ) → firsts ≡ [] → NameEqualLefts rules firsts
no_left_numbers rules firsts none =
    let N : List ℕ → Type 0 = NameEqualLefts rules in
    let empty : NameEqualLefts rules [] = λ k first there. absurd cc in
    subst N (sym none) empty

pub one_left_more : (rules : List RewriteRule) (firsts new : List ℕ) (k first : ℕ) → k ≡ length firsts → left_side (slice_get rules first) ≡ left_side (slice_get rules k) → new ≡ firsts ++ first ∷ []
    → NameEqualLefts rules firsts → NameEqualLefts rules new
one_left_more rules firsts new k first count is put h = λ i n there.
    let N : List ℕ → Type 0 = λ ns. slice_get ns i ≡ Some n in
    elim (item_of_more firsts first n i (subst N put there)) [
      | inl old ↦ h i n old
      | inr e ↦
          let here : k ≡ i = count ∙ sym e.0 in
          let E : ℕ → Type 0 = λ m. left_side (slice_get rules n) ≡ left_side (slice_get rules m) in
          let F : ℕ → Type 0 = λ m. left_side (slice_get rules m) ≡ left_side (slice_get rules k) in
          subst E here (subst F (sym e.1) is)
    ]

-- the left side of a rule, as it is read
pub left_read : (rules : List RewriteRule) (k : ℕ) (rule : RewriteRule) (left : Tree) → slice_get rules k ≡ Some rule → left ≡ rule.left → left_side (slice_get rules k) ≡ Some left
left_read rules k rule left there is = ap left_side there ∙ ap (λ t. Some t) (sym is)
