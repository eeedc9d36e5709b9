use Rattle.std.proofs.Common.{◌∷◌, [], ◌++◌, ap, ◌∙◌}
use Rattle.completion.proofs.GrowingLaws.{put_here, put_elsewhere}
use Rattle.completion.proofs.growing.put_behind.Goals as goal

pub returns-clause-here : goal.returns-clause-here
returns-clause-here c =
    put_here c.make_lists.new.by_root.items c.args.f c.args.number c.index_mut-numbers.result.now c.push.new.self c.in_ok-make_lists.ensures.there c.index_mut-numbers.ensures.value c.in_ok-push.ensures.items
    ∙ ap (λ ks. ks ++ c.args.number ∷ []) (c.in_ok-make_lists.ensures.same c.args.f)

pub returns-clause-others : goal.returns-clause-others
returns-clause-others c =
    λ g other. put_elsewhere c.make_lists.new.by_root.items c.args.f g c.push.new.self other ∙ c.in_ok-make_lists.ensures.same g
