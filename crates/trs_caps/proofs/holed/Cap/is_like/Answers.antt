use Rattle.std.proofs.Common.{ap, sym, ◌∙◌, refl}
use Rattle.trs_caps.specs.HoledTree.{symbol, holed_trees}
use Rattle.trs_caps.specs.View.{holed}
use Rattle.trs_caps.proofs.Rows.{alike_symbols}
use Rattle.trs_caps.proofs.holed.Cap.is_like.Goals as goal

pub returns-then-f-g : goal.returns-then-f-g
returns-then-f-g c =
    let a = c.in-Symbol-Symbol in
    alike_symbols (holed c.args.self.now) (holed c.args.other.now) a.f a.g c.cs.inside.items.items c.ds.inside.items.items _
    (ap holed a.is-0 ∙ ap (λ z. symbol a.f (holed_trees z)) (sym c.cs.view_is)) (ap holed a.is-1 ∙ ap (λ z. symbol a.g (holed_trees z)) (sym c.ds.view_is)) c.if-f-g.true
    (rw (c.len.ensures, c.len-then-f-g.ensures, c.cs.inside.items.ok.0, c.ds.inside.items.ok.0) refl)
