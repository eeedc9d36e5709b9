-- Numbers that stand once each, and what is said of each of them.
use Rattle.std.specs.Prelude.{◌≡◌, ◌<◌, ℕ, false, ◌==◌, List, [], ◌∷◌, map, length, get_or}
use Rattle.std.specs.List.{AllByRecursion}
use Rattle.std.specs.List.Sorted.{IsStrictlyIncreasing}
use Rattle.std.proofs.Common.{suc, refl, sym, subst, ap₂, arith}
use Rattle.std.proofs.lemmas.Bool.{or_from}
use Rattle.std.proofs.lemmas.Option.{slice_get_within, slice_get-get_or}
use Rattle.trs_defs.specs.Member.{In, in_first, in_rest}
use Rattle.trs_defs.specs.Variable.{is_listed}
use Rattle.trs_defs.proofs.Members.{get_of_in}
use Rattle.order_find.specs.order_search.Distinct as placed
use Rattle.order_find.proofs.order_search.Repeats.{once_distinct, distinct_of, tail_distinct}
use Rattle.order_find.proofs.order_search.Tests.{other_test}
use Rattle.cert_step.specs.Entries.{AreDistinct}

not_listed : (x : ℕ) (xs : List ℕ) → (In x xs → ⊥) → is_listed x xs ≡ false
not_listed x [] none = refl
not_listed x (y ∷ ys) none =
    or_from (y == x) (is_listed x ys) (other_test y x (λ e. none (subst (λ (z : ℕ). In z (y ∷ ys)) (sym e) in_first)))
    (not_listed x ys (λ i. none (in_rest i)))

pub listed_distinct : (xs : List ℕ) → placed.AreDistinct xs → AreDistinct xs
listed_distinct [] are = tt
listed_distinct (x ∷ xs) are = (
  not_listed x xs (λ i.
      (let (k, at) = get_of_in i in
      let below : k < length xs = slice_get_within xs k x at in
      let there = slice_get-get_or xs k 0 below in
      let here : x ≡ get_or xs k 0 = cc in
      are 0 (suc k) (omega arith) (omega (arith, below)) here)),
  listed_distinct xs (tail_distinct x xs are),
)

pub increasing_distinct : (xs : List ℕ) → IsStrictlyIncreasing xs → AreDistinct xs
increasing_distinct xs up = listed_distinct xs (once_distinct xs (distinct_of xs up))

module _ {Entry : Type 0} (said : ℕ → Entry) where
  pub names_said : (symbol_of : Entry → ℕ) → ((f : ℕ) → symbol_of (said f) ≡ f) → (symbols : List ℕ) → map symbol_of (map said symbols) ≡ symbols
  names_said symbol_of named [] = refl
  names_said symbol_of named (f ∷ symbols) = ap₂ (λ (x : ℕ) (l : List ℕ). x ∷ l) (named f) (names_said symbol_of named symbols)

  pub each_said : (P : Entry → Type 0) (symbols : List ℕ) → ((f : ℕ) → In f symbols → P (said f)) → AllByRecursion P (map said symbols)
  each_said P [] holds = tt
  each_said P (f ∷ symbols) holds = (holds f in_first, each_said P symbols (λ g i. holds g (in_rest i)))
