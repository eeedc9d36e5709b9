-- A reduct has at least as many nodes as the right side.
use Rattle.std.specs.Prelude.{◌≡◌, ◌<◌, ◌≤◌, ℕ, List}
use Rattle.std.proofs.Common.{inl, sym, ap, Some, ◌∙◌, arith, false}
use Rattle.std.proofs.lemmas.Bool.Decides.{nat_tests}
use Rattle.std.specs.BTreeSet.{BTreeSet}
use Rattle.trs_defs.specs.Tree.{Tree}
use Rattle.trs_defs.specs.Size.{size_of}
use Rattle.trs_defs.specs.Substitution.{apply}
use Rattle.trs_defs.specs.System.{RewriteRule}
use Rattle.trs_defs.specs.Path.{PlacedRule, StepsAt}
use Rattle.trs_defs.proofs.Contexts.{replaced_somehow}
use Rattle.trs_defs.proofs.Limits.{size_replaced, size_there}
use Rattle.term_pool.specs.Redexes.{IsRedexAt}
use Rattle.term_pool.specs.Reach.{is_kept}
use Rattle.term_pool.specs.Reaching.{IsPassedOver}
use Rattle.term_pool.proofs.KnownLaws.{size_instance}

too_large : (size : ℕ) (u : Tree) → size < size_of u → is_kept size u ≡ false
too_large size u large = grind (arith, nat_tests, large)

-- where a term has a redex, there is a reduct, and it has no fewer nodes than the right side
pub reduct_at : (rules : List RewriteRule) (t : Tree) (s : PlacedRule) (h : IsRedexAt rules t s)
    → (u : Tree) × StepsAt rules s.place s.rule t u × (size_of h.rule.right ≤ size_of u)
reduct_at rules t s h =
    let σ = h.instance.0 in
    let contractum = apply σ h.rule.right in
    let u = replaced_somehow s.place t h.part contractum h.there in
    let nodes = size_replaced s.place t h.part contractum u.0 h.there u.1 in
    let steps : StepsAt rules s.place s.rule t u.0 = record { rule = h.rule; numbered = h.numbered; substitution = σ; from = h.there ∙ ap Some (sym h.instance.1); to = u.1 } in
    (u.0, steps, omega (arith, nodes, size_instance σ h.rule.right, size_there s.place t h.part h.there))

module _ (rules : List RewriteRule) (t : Tree) (s : PlacedRule) (size : ℕ) (h : IsRedexAt rules t s) (large : size < size_of h.rule.right) where
  pub large_reduct : (u : Tree) × StepsAt rules s.place s.rule t u × (is_kept size u ≡ false)
  large_reduct =
      let found = reduct_at rules t s h in
      (found.0, found.1, too_large size found.0 (omega (arith, large, found.2)))

  pub passed_over : (ids : BTreeSet ℕ) (pool : List Tree) → IsPassedOver rules size s t ids pool
  passed_over ids pool = record { result = large_reduct.0; steps = large_reduct.1; why = inl large_reduct.2 }
