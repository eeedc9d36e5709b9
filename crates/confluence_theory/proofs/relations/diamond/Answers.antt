use Rattle.confluence_theory.proofs.Joins.{confluent_of}
use Rattle.confluence_theory.proofs.BetweenRuns.{between_confluent}
use Rattle.confluence_theory.proofs.relations.diamond.Goals as goal

pub returns : goal.returns
returns g c =
    record {
      confluent = confluent_of g.T.Refined.fine
          (between_confluent g.T.Refined.fine g.T.Refined.coarse c.requires.up c.requires.down c.requires.peaks);
    }
