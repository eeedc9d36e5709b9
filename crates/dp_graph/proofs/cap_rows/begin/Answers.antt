use Rattle.std.proofs.Common.{◌≡◌, not, refl, sym, ap, ◌∙◌}
use Rattle.trs_defs.specs.System.{is_defined}
use Rattle.dp_core.proofs.DefinedSymbols.{defined_by}
use Rattle.dp_graph.proofs.cap_rows.begin.Goals.{After-is_empty}
use Rattle.dp_graph.proofs.cap_rows.begin.Goals as goal

-- whether the symbol is defined
defined : (c : After-is_empty) → not c.is_empty.result ≡ is_defined c.args.by_root.now.rules c.args.f
defined c = rw (c.is_empty.ensures, c.with_root.ensures.numbers) (defined_by c.args.f c.args.by_root.now.rules)

pub returns-then-is_empty : goal.returns-then-is_empty
returns-then-is_empty c = (sym (defined (goal.at.returns-then-is_empty c).After-is_empty) ∙ ap not c.if-is_empty.true, refl)

pub returns : goal.returns
returns c = (sym (defined (goal.at.returns c).After-is_empty) ∙ ap not c.if-is_empty.false, c.len-place.ensures ∙ c.args.ends.now.ok.0, c.in_ok-push.ensures.items)
