use Rattle.confluence_theory.proofs.Joins.{meets_of, confluent_of}
use Rattle.confluence_theory.proofs.Strong.{strong_confluent}
use Rattle.confluence_theory.proofs.relations.strongly_confluent.Goals as goal

pub returns : goal.returns
returns g c =
    record {
      confluent = confluent_of g.T.Relation.step
          (strong_confluent g.T.Relation.step (λ s t u r q. meets_of g.T.Relation.step (c.requires.peaks s t u r q)));
    }
