-- One more variable is seen.
use Rattle.std.specs.Prelude.{◌==◌}
use Rattle.std.proofs.Common.{◌≡◌, ℕ, Bool, true, false, ◌||◌, List, [], ◌∷◌, ◌++◌, refl, subst}
use Rattle.trs_defs.specs.Variable.{is_listed}
use Rattle.trs_defs.proofs.VariableLaws.{has_var_same}
use Rattle.trs_core.specs.declared.variable_set.VariableSet.{VariableSet}
use Rattle.trs_core.specs.VariableSet.{holds}
use Rattle.trs_core.specs.Seen.{HasItems}

swap_tests : (a b c : Bool) → (a || (b || c)) ≡ ((a || b) || c)
swap_tests true b c = refl
swap_tests false b c = refl

last_test : (b : Bool) → (b || false) ≡ b
last_test true = refl
last_test false = refl

listed_last : (v n : ℕ) (ns : List ℕ) → is_listed v (ns ++ n ∷ []) ≡ (is_listed v ns || n == v)
listed_last v n [] = last_test (n == v)
listed_last v n (m ∷ ns) = rw (listed_last v n ns) (swap_tests (m == v) (is_listed v ns) (n == v))

pub one_more_seen : (old new : VariableSet) (items : List ℕ) (n : ℕ) → ((x : ℕ) → holds new x ≡ (holds old x || n == x)) → HasItems old items
    → HasItems new (items ++ n ∷ [])
one_more_seen old new items n more h v = rw (more v, h v, listed_last v n items) refl

known_test : (a b : Bool) → a ≡ true → a ≡ b → (a || true) ≡ b
known_test true b is e = e
known_test false b is e = absurd cc

-- one that was seen is no other
pub seen_again : (old new : VariableSet) (items : List ℕ) (n : ℕ) → ((x : ℕ) → holds new x ≡ (holds old x || n == x)) → holds old n ≡ true
    → HasItems old items → HasItems new items
seen_again old new items n more is h v = rw (more v) (go (n == v) refl)
  where
    go : (b : Bool) → (n == v) ≡ b → (holds old v || b) ≡ is_listed v items
    go true e = subst (λ m. (holds old m || true) ≡ is_listed m items) (has_var_same v n e) (known_test (holds old n) (is_listed n items) is (h n))
    go false e = rw (last_test (holds old v)) (h v)
