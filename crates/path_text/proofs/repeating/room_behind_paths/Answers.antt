use Rattle.std.proofs.Common.{map, sym, ap, ◌∙◌}
use Rattle.path_text.proofs.Weighing.{next_of}
use Rattle.path_text.proofs.TableOfPaths.{path_weighed, path_heavy}
use Rattle.path_text.proofs.repeating.room_behind_paths.Goals as goal

pub returns-in_default : goal.returns-in_default
returns-in_default c =
    path_heavy _ _ c.path-item.result.now c.loop-path.room _ (ap (map (λ p. p.now)) (next_of c.args.paths.now c.path-item.result c.loop-path.path-index c.loop-path-test.true c.path-item.is)) c.loop-path.invariant
    (sym c.room_behind_path.ensures ∙ c.in_default.is)

pub loop-path-preserved : goal.loop-path-preserved
loop-path-preserved c =
    path_weighed _ _ c.path-item.result.now c.loop-path.room c.in-Some.left _ (ap (map (λ p. p.now)) (next_of c.args.paths.now c.path-item.result c.loop-path.path-index c.loop-path-test.true c.path-item.is)) c.loop-path.invariant
    (sym c.room_behind_path.ensures ∙ c.in-Some.is)
