-- A set of numbers with a number more or less, and a table by numbers.
use Rattle.std.specs.Prelude.{◌≡◌, ℕ, Bool, true, false, ◌<◌, cond, length, List, [], ◌∷◌, IsTrue}
use Rattle.std.specs.Ordering.{nat_cmp}
use Rattle.std.specs.List.{list_any}
use Rattle.std.specs.BTreeMap.{is_at}
use Rattle.std.specs.BTreeSet.{BTreeSet, contains}
use Rattle.dp_graph.specs.Waiting.{Sets}
use Rattle.std.proofs.Common.{refl, sym, ap, arith, ◌∙◌}
use Rattle.std.proofs.lemmas.Grind.{common_steps}

pub at_itself : (k : ℕ) → is_at (nat_cmp k) k ≡ true
at_itself k = grind (arith, common_steps)

pub not_at : (k q : ℕ) → (q ≡ k → ⊥) → is_at (nat_cmp k) q ≡ false
not_at k q other = grind (arith, common_steps)

module _ (old new : BTreeSet ℕ) (k : ℕ) (b : Bool) (sets : Sets old new k b) where
  pub at_number : contains nat_cmp new k ≡ b
  at_number = sets k ∙ ap (λ t. cond t b (contains nat_cmp old k)) (at_itself k)

  pub at_others : (q : ℕ) → (q ≡ k → ⊥) → contains nat_cmp new q ≡ contains nat_cmp old q
  at_others q other = sets q ∙ ap (λ t. cond t b (contains nat_cmp old q)) (not_at k q other)

pub true_is_not_false : (b : Bool) → b ≡ true → b ≡ false → ⊥
true_is_not_false b e d = let h : true ≡ false = sym e ∙ d in absurd cc

pub none_in_empty : (set : BTreeSet ℕ) (n : ℕ) → set.keys ≡ [] → IsTrue (contains nat_cmp set n) → ⊥
none_in_empty set n e h = true_is_not_false (contains nat_cmp set n) h (ap (λ ks. list_any (is_at (nat_cmp n)) ks) e)

pub no_keys : {A : Type 0} (xs : List A) → (0 < length xs → ⊥) → xs ≡ []
no_keys [] h = refl
no_keys (x ∷ xs) h = absurd (h (omega arith))
