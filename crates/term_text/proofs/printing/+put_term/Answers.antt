use Rattle.std.proofs.Common.{[], ◌+◌, ◌++◌, ◌∙◌, drop, get_or, rules}
use Rattle.sexp_core.specs.Printed.{spaced}
use Rattle.trs_core.specs.View.{tree, forest}
use Rattle.term_text.specs.PrintedTerm.{term_item, term_items}
use Rattle.names_text.proofs.Loops.{one_more}
use Rattle.term_text.proofs.PrintedArguments.{application_text, spaced_step}
use Rattle.term_text.proofs.printing.+put_term.Goals as goal

pub returns-in_ok-push-in-App-3 : goal.returns-in_ok-push-in-App-3
returns-in_ok-push-in-App-3 t c =
    let names = c.args.system.now.names in
    rw (c.in-App.is, ← c.args-in-App.view_is)
    (application_text c.args.underscores names (get_or names c.in-App.f []) c.args-in-App.inside.items.items c.loop-arg.arg-index
    c.args.out.now.items c.push.new.self.items c.put_name-in-App.new.out.items c.loop-arg.out.items c.push-in-App.new.self.items
    (search rules) (search rules) (search rules) c.in_ok-put_name-in-App.ensures (search rules) (search rules))

pub loop-arg-preserved : goal.loop-arg-preserved
loop-arg-preserved t c =
    let names = c.args.system.now.names in
    let k = c.args.underscores in
    let args = c.deref-arg-items.result.now in
    let out = c.loop-arg.out.items in
    let left = one_more (λ ts. out ++ spaced (term_items k names (forest ts))) args c.loop-arg.arg-index c.arg-item.result c.loop-arg-test.true c.arg-item.is in
    spaced_step out c.push-in-loop-arg.new.self.items c.put_term.new.out.items _ (term_item k names (tree c.arg-item.result)) (term_items k names (forest (drop (c.loop-arg.arg-index + 1) args)))
    c.in_ok-push-in-App-2.ensures.items c.in_ok-put_term-in-App.ensures (left ∙ c.loop-arg.invariant)
