use Rattle.confluence_theory.specs.Ranks.{AnyRank}
use Rattle.confluence_theory.proofs.Joins.{confluent_of}
use Rattle.confluence_theory.proofs.Decreasing.{decreasing_confluent}
use Rattle.confluence_theory.proofs.relations.decreasing_ranks.Goals as goal

pub returns : goal.returns
returns g c = record { confluent = confluent_of (AnyRank g.T.Ranked.step) (decreasing_confluent g.T.Ranked.step c.requires.peaks) }
