use Rattle.std.proofs.Common.{◌∙◌, ◌++◌, ◌∷◌, [], ap}
use Rattle.term_pool.proofs.ReachedIds.{begins_with}
use Rattle.term_pool.proofs.reached.Reached.new.Goals as goal

pub returns : goal.returns
returns c =
    begins_with c.args.id c.new-2.result c.push.new.self c.new-3.result c.new-2.ensures.empty c.new-3.ensures.items c.in_ok-push.ensures.ids
    (c.in_ok-push.ensures.list ∙ ap (λ l. l ++ (c.args.id, c.new-3.result) ∷ []) c.new.ensures.items)
