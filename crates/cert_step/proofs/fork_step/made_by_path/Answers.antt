use Rattle.std.specs.Prelude.{refl}
use Rattle.rewrite_core.specs.PathCheck.{followed}
use Rattle.rewrite_core.proofs.PathLemmas.{is_empty}
use Rattle.cert_step.proofs.fork_step.made_by_path.Goals as goal

pub returns-then-is_empty : goal.returns-then-is_empty
returns-then-is_empty c =
    rw (is_empty c.args.path.now c.is_empty.result c.is_empty.ensures c.if-is_empty.true) (followed _ refl)
