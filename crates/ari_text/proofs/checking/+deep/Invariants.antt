use Rattle.std.proofs.Common.{◌≡◌, drop}
use Rattle.sexp_core.specs.Items.{views}
use Rattle.ari_text.specs.Least.{noted}
use Rattle.ari_text.specs.Faults.{all_deep_faults}
use Rattle.ari_text.proofs.checking.+deep.Given as goal

abbrev pub invariant-note_all_deep-loop-arg : goal.invariant-note_all_deep-loop-arg
invariant-note_all_deep-loop-arg l =
    noted l.least (all_deep_faults l.levels (views (drop l.arg-index l.args))) ≡ noted l.fn.least (all_deep_faults l.levels (views l.args))
