use Rattle.std.proofs.Common.{◌≡◌, rules}
use Rattle.names_text.specs.declared.names_fault.NamesFault.TheVariants.{OutOfMemory}
use Rattle.sampling.proofs.SampleSystems.{only_memory}
use Rattle.sampling.proofs.family.sample_system.Goals as goal

pub unreachable-requires : goal.unreachable-requires
unreachable-requires c =
    let memory : c.in-Err.field-0 ≡ OutOfMemory = only_memory c.args.n _ _ c.in-Err.field-0 c.requires.1 c.in_ok-names.ensures c.in_ok-trs.ensures c.in-Err.ensures.exact in
    search rules
