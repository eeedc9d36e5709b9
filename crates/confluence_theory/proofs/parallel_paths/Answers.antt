use Rattle.confluence_theory.proofs.ParallelPaths.{parallel_path}
use Rattle.confluence_theory.proofs.parallel_paths.Goals as goal

pub returns : goal.returns
returns c = record { parallel = parallel_path }
