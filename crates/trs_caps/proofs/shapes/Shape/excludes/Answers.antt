use Rattle.std.proofs.lemmas.Bool.{ltb-true}
use Rattle.trs_caps.proofs.ShapeLaws.{too_many_nodes, too_few_nodes}
use Rattle.trs_caps.proofs.shapes.Shape.excludes.Goals as goal

pub returns-then-self-ground_size : goal.returns-then-self-ground_size
returns-then-self-ground_size c = λ _ d l shape ground size.
    too_many_nodes d l c.args.self c.args.ground_size shape (ground c.if-ground_size-eq0.false) (size c.if-ground_size-eq0.false) c.if-self-ground_size.true

pub returns : goal.returns
returns c = λ less d l shape ground size.
    too_few_nodes d l c.args.self c.args.ground_size shape (ground c.if-ground_size-eq0.false) (size c.if-ground_size-eq0.false) c.if-self.false
    (ltb-true c.args.self.nodes c.args.ground_size less)
