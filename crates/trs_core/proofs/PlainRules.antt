-- A rule whose variables are numbered in order of first occurrence: what one walk over each side counts.
use Rattle.std.proofs.Common.{◌≡◌, ℕ, ◌≤◌, ◌||◌, Bool, false, IsTrue, nat_lt, Option, Some, None, refl, ◌∙◌, arith}
use Rattle.std.proofs.lemmas.Bool.{ltb-true, or_right}
use Rattle.std.proofs.lemmas.Bool.Decides.{nat_tests}
use Rattle.trs_defs.specs.Tree.{Tree}
use Rattle.trs_defs.specs.Variable.{has_var}
use Rattle.trs_defs.specs.System.{RewriteRule}
use Rattle.trs_core.specs.SystemLimits.{HasSmallVariables}
use Rattle.trs_core.specs.Occurrences.{extra_variable}
use Rattle.trs_core.proofs.Unknown.{is_extra}

-- the walk over the term counts on from n variables to m
abbrev pub CountsOn : ℕ → ℕ → Tree → Type 0
CountsOn n m t = (v : ℕ) → nat_lt v m ≡ (nat_lt v n || has_var v t)

pub small_variables : (n m : ℕ) (t : Tree) → CountsOn n m t → m ≤ 65536 → HasSmallVariables t
small_variables n m t counts small v is =
    let less = ltb-true v m (counts v ∙ or_right (nat_lt v n) (has_var v t) is) in
    omega arith

module _ (r : RewriteRule) (n : ℕ) (left : CountsOn 0 n r.left) (right : CountsOn n n r.right) where
  counted : (v : ℕ) (a b : Bool) → nat_lt v n ≡ (nat_lt v 0 || a) → nat_lt v n ≡ (nat_lt v n || b) → IsTrue b → a ≡ false → ⊥
  counted v a b is also met not_met = absurd (grind (arith, nat_tests))

  pub none_extra : extra_variable r ≡ None
  none_extra = go (extra_variable r) refl
    where
      go : (o : Option ℕ) → extra_variable r ≡ o → o ≡ None
      go None is = refl
      go (Some v) is =
          let extra = is_extra r.left r.right v is in
          absurd (counted v (has_var v r.left) (has_var v r.right) (left v) (right v) extra.0 extra.1)
