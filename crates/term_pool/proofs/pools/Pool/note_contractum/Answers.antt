use Rattle.std.proofs.Common.{◌≡◌, Some, refl, sym, subst}
use Rattle.trs_defs.specs.Position.{subterm_at}
use Rattle.trs_defs.specs.Path.{PlacedRule, StepsAt}
use Rattle.term_pool.specs.Pooled.{tree_at}
use Rattle.term_pool.proofs.KnownLaws.{one_contractum_more, contractum_of}
use Rattle.term_pool.proofs.pools.Pool.note_contractum.Goals as goal

pub returns : goal.returns
returns c = λ rules known steps.
    let pool = c.args.self.now in
    let t = tree_at pool c.args.id in
    let u = tree_at pool c.args.reduct in
    let P : PlacedRule → Type 0 = λ s. StepsAt rules s.place s.rule t u in
    let there : subterm_at c.step.inside.place t ≡ Some (tree_at pool c.in-Some.part) = rw c.places-places.ensures.places at (sym c.in-Some.ensures.is) in
    let put : subterm_at c.step.inside.place u ≡ Some (tree_at pool c.in-Some-at.by) = rw c.places-places.ensures.places at (sym c.in-Some-at.ensures.is) in
    one_contractum_more rules pool c.args.known.now _ known c.in-Some.part c.step.inside.rule c.in-Some-at.by
    (record {
      from = c.in-Some.ensures.there;
      to = c.in-Some-at.ensures.there;
      steps = contractum_of rules c.step.inside.place c.step.inside.rule t u (tree_at pool c.in-Some.part) (tree_at pool c.in-Some-at.by) (subst P (sym c.step.view_is) steps) there put;
    }) c.in_ok-insert.ensures.updates refl refl
