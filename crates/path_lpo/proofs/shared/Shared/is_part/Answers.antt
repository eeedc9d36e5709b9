use Rattle.std.proofs.Common.{arith}
use Rattle.std.specs.Slice.{IsItemAt}
use Rattle.std.proofs.Common.{subst}
use Rattle.path_lpo.specs.declared.nodes.Node.TheVariants.{App}
use Rattle.path_lpo.specs.Graph.{tree_at}
use Rattle.path_lpo.proofs.Spans.{read_item}
use Rattle.path_lpo.proofs.shared.Shared.is_part.Goals as goal

pub returns : goal.returns
returns g c = λ is_term rank.
    let ns = c.args.self.now.pair.now.graph.nodes.items in
    let spans = c.args.self.now.pair.now.spans.items in
    let item : IsItemAt spans c.args.s c.get.result = subst (λ xs. IsItemAt xs c.args.s c.get.result) c.deref.ensures.value c.get.ensures.lookup in
    let span = read_item spans c.args.s c.get.result c.in-Some.span item c.in-Some.is in
    let (f, args, there) = c.is_application.ensures c.if-not-is_application.false in
    c.requires c.args.s (App f args) c.in-Some.span.now there span c.args.t (tree_at ns c.args.t) (omega (arith, c.if-t-span.false), omega (arith, c.if-span-t.false)) (c.is_term.ensures is_term) rank
