use Rattle.path_lpo.proofs.Readings.{keeps_all, new_stands, added_stands}
use Rattle.path_lpo.proofs.graph.Graph.number.Goals as goal

pub returns-in-Some : goal.returns-in-Some
returns-in-Some c =
    let ns = c.args.self.now.nodes.items in
    record {
      stands = new_stands ns ns c.args.node c.in-Some.n c.args.self.now.earlier (keeps_all ns) c.requires c.in-Some.ensures;
      kept = keeps_all ns;
    }

pub returns-in-None-clause-stands : goal.returns-in-None-clause-stands
returns-in-None-clause-stands c =
    added_stands c.args.self.now.nodes.items c.add.new.self.nodes.items c.args.node c.add.result c.add.new.self.earlier c.add.ensures.kept c.requires c.add.ensures.there
