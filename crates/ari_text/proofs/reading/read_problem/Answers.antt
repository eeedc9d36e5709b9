use Rattle.std.proofs.Common.{rules}
use Rattle.sexp_core.specs.Items.{views}
use Rattle.ari_text.specs.Problem.{IsProblemRefused}
use Rattle.ari_text.specs.PartsView.{parts_view}
use Rattle.ari_text.proofs.Faultless.{named_of_faultless}
use Rattle.ari_text.proofs.Refusals.{refused_items}
use Rattle.ari_text.proofs.reading.read_problem.Goals as goal

pub returns-in_err-parts-clause-refused : goal.returns-in_err-parts-clause-refused
returns-in_err-parts-clause-refused c =
    let items = rw c.deref.ensures.value at c.in_err-parts.ensures.fault in
    let refused : IsProblemRefused c.args.text.now c.in_err-parts.field-0.0 =
    refused_items c.args.text.now (views c.in_ok-items.items.items) c.in_err-parts.field-0.0 c.in_ok-items.ensures.found c.in_ok-items.ensures.exact items in
    search rules

pub named_system-requires : goal.named_system-requires
named_system-requires c =
    let parts = rw c.deref.ensures.value at c.in_ok-parts.ensures.parts in
    let faultless = rw c.deref.ensures.value at c.in_ok-parts.ensures.faultless in
    named_of_faultless c.args.text.now (views c.in_ok-items.items.items) (parts_view c.in_ok-parts.parts) c.in_ok-items.ensures.found faultless parts
