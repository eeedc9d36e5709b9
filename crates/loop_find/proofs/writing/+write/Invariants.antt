use Rattle.std.proofs.Common.{◌+◌, drop}
use Rattle.trs_defs.specs.Size.{size_of}
use Rattle.trs_defs.specs.Substitution.{apply, apply_all}
use Rattle.trs_core.specs.View.{tree, forest}
use Rattle.loop_find.specs.Bindings.{resolved}
use Rattle.loop_find.specs.Flat.{tokens_of, tokens_of_all}
use Rattle.loop_find.proofs.Renumbering.{IsUnderWay}
use Rattle.loop_find.proofs.writing.+write.Given as goal

abbrev pub invariant-loop-arg : goal.invariant-loop-arg
invariant-loop-arg l =
    IsUnderWay (tokens_of (apply (resolved l.found l.steps) (tree l.t))) l.fn.names.items l.fn.tokens.items l.names.items l.tokens.items
    (tokens_of_all (apply_all (resolved l.found l.steps) (forest (drop l.arg-index l.arg-items))))

abbrev pub decreases-write : goal.decreases-write
decreases-write l = size_of (apply (resolved l.found.now l.steps) (tree l.t.now)) + l.steps
