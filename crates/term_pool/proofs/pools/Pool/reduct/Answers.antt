use Rattle.std.proofs.Common.{ℕ, sym, subst}
use Rattle.trs_defs.specs.Path.{PlacedRule}
use Rattle.term_pool.specs.Pooled.{tree_at}
use Rattle.term_pool.specs.Placing.{HasPut, IsPlaced, IsTooLargePut}
use Rattle.term_pool.specs.Steps.{IsTooLarge}
use Rattle.term_pool.specs.Reaching.{IsReduct}
use Rattle.term_pool.specs.Known.{IsContractumAt}
use Rattle.term_pool.proofs.KnownLaws.{contractum_put, on_made, on_none, placed_reduct, too_large_reduct}
use Rattle.term_pool.proofs.pools.Pool.reduct.Goals.{After-places}
use Rattle.term_pool.proofs.pools.Pool.reduct.Goals as goal

found : (c : After-places) → IsContractumAt c.args.trs.now.rules c.args.self.now (tree_at c.args.self.now c.args.id) c.args.step.now c.in-Some.by
found c = c.in-Some.ensures c.args.trs.now.rules c.requires.known

pub put_within-requires-clause-by : goal.put_within-requires-clause-by
put_within-requires-clause-by c = (found (goal.at.put_within-requires-clause-by c).After-places).there

pub put_within-requires-clause-put : goal.put_within-requires-clause-put
put_within-requires-clause-put c =
    let pool = c.args.self.now in
    let P : PlacedRule → Type 0 = λ s. HasPut pool s.place c.args.id c.in-Some.by in
    let put = subst P (sym c.step.view_is) (contractum_put c.args.trs.now.rules pool c.args.id c.args.step.now c.in-Some.by (found (goal.at.put_within-requires-clause-put c).After-places)) in
    rw c.places.ensures.places put

pub returns-in-Some-clause-reduct : goal.returns-in-Some-clause-reduct
returns-in-Some-clause-reduct c =
    let pool = c.args.self.now in
    let t = tree_at pool c.args.id in
    let by = tree_at pool c.in-Some.by in
    let new = c.put_within.new.self in
    let P : PlacedRule → ℕ → Type 0 = λ s. IsPlaced s.place t by pool new in
    on_made c.put_within.result (P (record { place = c.step.inside.place; rule = c.step.inside.rule })) (IsReduct c.args.trs.now.rules c.args.step.now t pool new)
    (λ n made. placed_reduct c.args.trs.now.rules pool c.args.id c.args.step.now c.in-Some.by (found (goal.at.returns-in-Some-clause-reduct c).After-places) new n
    (subst (λ s. P s n) c.step.view_is made)) (rw c.places.ensures.places at c.put_within.ensures.put)

pub returns-in-Some-clause-none : goal.returns-in-Some-clause-none
returns-in-Some-clause-none c =
    let pool = c.args.self.now in
    let t = tree_at pool c.args.id in
    let by = tree_at pool c.in-Some.by in
    let P : PlacedRule → Type 0 = λ s. IsTooLargePut s.place t by in
    on_none c.put_within.result (P (record { place = c.step.inside.place; rule = c.step.inside.rule })) (IsTooLarge c.args.trs.now.rules c.args.step.now.place c.args.step.now.rule t)
    (λ large. too_large_reduct c.args.trs.now.rules pool c.args.id c.args.step.now c.in-Some.by (found (goal.at.returns-in-Some-clause-none c).After-places)
    (subst P c.step.view_is large)) (rw c.places.ensures.places at c.put_within.ensures.none)
