use Rattle.std.proofs.Common.{ap, ◌∙◌, sym, [], ◌∷◌, ◌++◌, append_assoc}
use Rattle.trs_core.specs.View.{tree}
use Rattle.rewrite_core.proofs.ReadTerms.{one_more_read}
use Rattle.rewrite_core.proofs.reaching.terms_of.Goals as goal

pub loop-id-preserved : goal.loop-id-preserved
loop-id-preserved c =
    let before = c.loop-id.yielded in
    let i = c.loop-id.invariant in
    record {
      made = one_more_read c.args.pool.now before c.in-Some.id c.in-Some.path (tree c.in_ok-term.term) c.loop-id.terms.items c.push.new.self.items i.made c.in_ok-term.ensures c.in_ok-push.ensures.items;
      all = append_assoc before ((c.in-Some.id, c.in-Some.path) ∷ []) c.next.new.self.rest.items ∙ (sym (ap (λ rest. before ++ rest) c.in-Some.ensures.steps.0) ∙ i.all);
    }
