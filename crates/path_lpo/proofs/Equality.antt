-- Terms are equal where their symbols and all their arguments are.
use Rattle.std.proofs.Common.{◌≡◌, ℕ, ◌+◌, ◌<◌, ◌≤◌, List, length, drop, get_or, ap, ap₂, sym, ◌∙◌, arith}
use Rattle.std.proofs.lemmas.List.{drop_all}
use Rattle.trs_defs.specs.Tree.{Tree, app, cons}
use Rattle.trs_defs.proofs.ArgumentLists.{cell}
use Rattle.trs_core.specs.declared.terms.Term.{Term}
use Rattle.trs_core.specs.View.{tree, forest}

-- what is left of two lists of arguments is equal only if the lists are
abbrev pub EqualFrom : List Term → List Term → ℕ → Type 0
EqualFrom xs ys i = forest (drop i xs) ≡ forest (drop i ys) → forest xs ≡ forest ys

module _ (xs ys : List Term) (i : ℕ) where
  pub next_equal : (x y : Term) → i < length xs → length xs ≡ length ys → x ≡ get_or xs i x → y ≡ get_or ys i y → tree x ≡ tree y → EqualFrom xs ys i → EqualFrom xs ys (i + 1)
  next_equal x y h long is_x is_y one before rest =
      before (ap forest (cell xs i x h is_x) ∙ (ap₂ cons one rest ∙ sym (ap forest (cell ys i y (omega (arith, h, long)) is_y))))

  pub all_equal : length xs ≡ length ys → length xs ≤ i → EqualFrom xs ys i → forest xs ≡ forest ys
  all_equal long past before = before (ap forest (drop_all i xs past ∙ sym (drop_all i ys (omega (arith, past, long)))))

pub equal_terms : (f g : ℕ) (xs ys : List Term) (a b : Tree) → a ≡ app f (forest xs) → b ≡ app g (forest ys) → f ≡ g → forest xs ≡ forest ys → a ≡ b
equal_terms f g xs ys a b is_a is_b same args = is_a ∙ (ap₂ app same args ∙ sym is_b)
