use Rattle.std.proofs.Common.{◌≡◌, ◌<◌, ◌⊎◌, inl, inr, get_or, length, arith, ap}
use Rattle.trs_defs.specs.Tree.{trees}
use Rattle.trs_core.specs.View.{tree}
use Rattle.trs_core.proofs.Putting.{put_past, put_inside}
use Rattle.trs_core.proofs.replacing.+put_at.Goals.{then-index-eq0-via-then-index-eq0, then-index-eq0-via-else-index-eq0+then-len-index}
use Rattle.trs_core.proofs.replacing.+put_at.Goals as goal

pub returns-then-index-eq0-clause-put : goal.returns-then-index-eq0-clause-put
returns-then-index-eq0-clause-put t c =
    let no : (get_or c.args.places.now 0 0 ≡ 0) ⊎ (length c.args-in-App.inside.items.items < get_or c.args.places.now 0 0) = elim c.then-index-eq0.branch [
      | then-index-eq0-via-then-index-eq0 w ↦ inl (omega (arith, c.from-index.ensures))
      | then-index-eq0-via-else-index-eq0+then-len-index w ↦ inr (omega (arith, c.from-index.ensures, w.len.ensures, c.args-in-App.inside.items.ok.0))
    ] in
    rw c.in-App.is (put_past c.args.places.now c.in-App.field-0 _ _ (tree c.args.by) (omega arith) (ap trees c.args-in-App.view_is) no)

pub returns-else-len-index-clause-put : goal.returns-else-len-index-clause-put
returns-else-len-index-clause-put t c =
    rw c.in-App.is (put_inside c.args.places.now c.in-App.field-0 c.args-in-App.inside.items.items _ (tree c.args.by) c.from-index.result c.index_mut.result.now c.put_at.new.term c.put_at.result (omega arith) (ap trees c.args-in-App.view_is)
    c.from-index.ensures c.if-index-eq0.false (omega (arith, c.len.ensures, c.args-in-App.inside.items.ok.0)) c.index_mut.ensures.value c.put_at.ensures.put)
