use Rattle.std.proofs.Common.{◌≡◌, ◌↔◌, ℕ, ℤ, pos, negsuc, ◌≤ℤ◌, ◌<◌, ◌≤◌, ◌+◌, refl, ◌∙◌, arith, suc, cond, IsTrue, nat_eq, List, [], ◌∷◌, length, get_or, count_by}
use Rattle.std.proofs.lemmas.Bool.{eqb-true, eq-eqb}
use Rattle.std.proofs.lemmas.Int.{ints}
use Rattle.std.proofs.lemmas.List.Sums.{sum_by-cons, get_or-le-sum_by}
use Rattle.kbo_order.specs.Balances.{is_deficit, HaveNoDeficit}
use Rattle.kbo_order.proofs.balances.Balances.have_no_deficit.Goals as goal

not_negative : (z : ℤ) → cond (is_deficit z) 1 0 ≤ 0 → pos 0 ≤ℤ z
not_negative (pos n) h = omega (arith, ints)
not_negative (negsuc n) h = absurd (omega arith)

none_counted : (ds : List ℤ) → ((i : ℕ) → i < length ds → pos 0 ≤ℤ get_or ds i (pos 0)) → count_by is_deficit ds ≡ 0
none_counted [] h = refl
none_counted (pos n ∷ ds) h =
    let rest : count_by is_deficit ds ≡ 0 = none_counted ds (λ i small. h (suc i) (omega arith)) in
    let more : count_by is_deficit (pos n ∷ ds) ≡ 0 + count_by is_deficit ds = sum_by-cons (λ z. cond (is_deficit z) 1 0) (pos n) ds in
    omega arith
none_counted (negsuc n ∷ ds) h = let le : pos 0 ≤ℤ negsuc n = h 0 (omega arith) in absurd (omega (arith, ints))

no_deficits : (ds : List ℤ) (size deficits : ℕ) → length ds ≡ size → deficits ≡ count_by is_deficit ds → IsTrue (nat_eq deficits 0) ↔ HaveNoDeficit size ds
no_deficits ds size deficits is_size counted = (
  λ yes i small.
      let none : deficits ≡ 0 = eqb-true deficits 0 yes in
      let one : cond (is_deficit (get_or ds i (pos 0))) 1 0 ≤ count_by is_deficit ds = get_or-le-sum_by (λ z. cond (is_deficit z) 1 0) ds i (pos 0) (omega arith) in
      not_negative (get_or ds i (pos 0)) (omega arith),
  λ h. eq-eqb deficits 0 (counted ∙ none_counted ds (λ i small. h i (omega arith))),
)

pub returns : goal.returns
returns g c =
    rw (← c.self.view_is) (no_deficits c.self.inside.differences g.row.N c.self.inside.deficits c.self.told c.self.invariant)
