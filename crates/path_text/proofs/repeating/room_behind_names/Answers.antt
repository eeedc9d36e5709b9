use Rattle.std.proofs.Common.{sym, ◌∙◌}
use Rattle.path_text.proofs.TableOfPaths.{path_weighed, path_heavy}
use Rattle.path_text.proofs.repeating.room_behind_names.Goals as goal
use Rattle.trs_defs.proofs.ListItems.{next_item}

pub returns-in_default : goal.returns-in_default
returns-in_default c =
    path_heavy _ _ c.get.result.now c.loop-k.room _ (next_item c.args.names.now c.loop-k.k c.get.result.now c.get.ensures.path) c.loop-k.invariant
    (sym c.room_behind_path.ensures ∙ c.in_default.is)

pub loop-k-preserved : goal.loop-k-preserved
loop-k-preserved c =
    path_weighed _ _ c.get.result.now c.loop-k.room c.in-Some.left _ (next_item c.args.names.now c.loop-k.k c.get.result.now c.get.ensures.path) c.loop-k.invariant
    (sym c.room_behind_path.ensures ∙ c.in-Some.is)
