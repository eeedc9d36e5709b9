use Rattle.dp_core.proofs.DefinedSymbols.{defined_by}
use Rattle.dp_core.proofs.defined.is_defined.Goals as goal

pub returns : goal.returns
returns c = rw (c.is_empty.ensures, c.with_root.ensures.numbers) (defined_by c.args.f c.args.by_root.now.rules)
