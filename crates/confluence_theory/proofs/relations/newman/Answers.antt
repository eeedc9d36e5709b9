use Rattle.confluence_theory.proofs.Joins.{joins_of, confluent_of}
use Rattle.confluence_theory.proofs.BoundedRuns.{newman}
use Rattle.confluence_theory.proofs.relations.newman.Goals as goal

pub returns : goal.returns
returns g c =
    record {
      confluent = confluent_of g.T.Relation.step
          (newman g.T.Relation.step c.requires.bounded (λ s t u r q. joins_of g.T.Relation.step (c.requires.peaks s t u r q)));
    }
