use Rattle.std.proofs.Common.{refl, ap, sym, ◌∙◌}
use Rattle.trs_core.specs.View.{tree}
use Rattle.loop_find.specs.Bindings.{term_for}
use Rattle.loop_find.proofs.QuickUnifiers.{added, found_none}
use Rattle.loop_find.proofs.binding.add_binding.Goals as goal

pub returns : goal.returns
returns c =
    added c.args.v (tree c.args.term.now) c.args.found.now.items c.push.new.self.items _ refl refl c.in_ok-push.ensures.items
    (ap (λ z. term_for z c.args.v) (sym c.deref.ensures.value) ∙ found_none c.deref.result.now c.args.v c.bound_term.result c.bound_term.ensures c.in_default.is)
