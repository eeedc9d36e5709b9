use Rattle.std.proofs.Common.{◌++◌, [], ◌∷◌, drop, map, sym, ap, ◌∙◌, ◌+◌, append_assoc}
use Rattle.path_text.specs.PathNames.{distinct_behind}
use Rattle.path_text.proofs.Weighing.{next_of}
use Rattle.path_text.proofs.SeenPaths.{distinct_more, seen_more, seen_by}
use Rattle.path_text.proofs.repeating.seen_paths.Goals as goal

pub loop-path-preserved : goal.loop-path-preserved
loop-path-preserved c =
    let (done, split, known, seen) = c.loop-path.invariant in
    let p = c.path-item.result in
    let more = ap (map (λ q. q.now)) (next_of c.args.paths.now p c.loop-path.path-index c.loop-path-test.true c.path-item.is) in
    let rest = map (λ q. q.now) (drop (c.loop-path.path-index + 1) c.args.paths.now) in (
      done ++ p.now ∷ [],
      append_assoc done (p.now ∷ []) rest ∙ ap (λ l. done ++ l) (sym more) ∙ split,
      c.in_ok-see_path.ensures.known ∙ ap (λ k. distinct_behind k (p.now ∷ [])) known ∙ sym (distinct_more [] done (p.now ∷ [])),
      seen_by c.in_ok-see_path.ensures.known c.in_ok-see_path.ensures.again (seen_more c.loop-path.known c.loop-path.again done seen p.now),
    )
