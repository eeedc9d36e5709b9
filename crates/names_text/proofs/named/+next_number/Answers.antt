use Rattle.std.proofs.Common.{◌+◌, ◌∙◌, drop, ap}
use Rattle.std.specs.Option.{option_and_then}
use Rattle.trs_core.specs.View.{forest}
use Rattle.names_text.specs.Named.{next_number_behind}
use Rattle.names_text.proofs.Loops.{one_more}
use Rattle.names_text.proofs.named.+next_number.Goals as goal

pub loop-arg-preserved : goal.loop-arg-preserved
loop-arg-preserved t c =
    let args = c.deref-arg-items.result.now in
    ap (option_and_then (λ m. next_number_behind m (forest (drop (c.loop-arg.arg-index + 1) args)))) c.in-Some.ensures
    ∙ one_more (λ ts. next_number_behind c.loop-arg.next (forest ts)) args c.loop-arg.arg-index c.arg-item.result c.loop-arg-test.true c.arg-item.is
    ∙ c.loop-arg.invariant
