-- What so many workers are asked for.
use Rattle.std.specs.Prelude.{◌≡◌, ℕ, List, Option, Some, None}
use Rattle.sampling.specs.Line.{IsSampleLine, IsSerialLine}
use Rattle.command_line.specs.Request.{Asked, certifies, proves, completes, samples}

-- the line of a sample system is true, and is that of the serial history where there is one worker
pub record IsSampledBy (workers size budget : ℕ) (line : List ℕ) : Type 0 where
  pub is_true : IsSampleLine size budget line
  pub serial : workers ≡ 1 → IsSerialLine size budget line

-- what is asked for, of so many workers
abbrev pub asked_of : ℕ → Option Asked → Option Asked
asked_of workers None = None
asked_of workers (Some (certifies wanted problem certificate)) = Some (certifies wanted problem certificate)
asked_of workers (Some (proves question problem others budget)) = Some (proves question problem workers budget)
asked_of workers (Some (completes problem order budget)) = Some (completes problem order budget)
asked_of workers (Some (samples size others budget)) = Some (samples size workers budget)
