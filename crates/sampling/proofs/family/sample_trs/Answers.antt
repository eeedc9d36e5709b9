use Rattle.std.proofs.Common.{◌≡◌, rules}
use Rattle.trs_core.specs.Valid.{system, IsValid}
use Rattle.trs_core.specs.declared.faults.TrsFault.TheVariants.{OutOfMemory}
use Rattle.sampling.proofs.SampleSystems.{sample_valid}
use Rattle.sampling.proofs.family.sample_trs.Goals as goal

pub unreachable-requires : goal.unreachable-requires
unreachable-requires c =
    let valid : IsValid (system c.in_ok-arities.arities.items c.in_ok-rules.rules.items) =
    rw (c.in_ok-arities.ensures, c.in_ok-rules.ensures) (sample_valid c.args.n c.requires) in
    let memory : c.in-Err.field-0 ≡ OutOfMemory = c.in-Err.ensures.only valid in
    search rules
