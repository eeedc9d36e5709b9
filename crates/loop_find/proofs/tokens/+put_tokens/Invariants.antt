use Rattle.std.proofs.Common.{◌≡◌, ◌++◌, drop}
use Rattle.trs_defs.specs.Size.{size_of}
use Rattle.trs_core.specs.View.{tree, forest}
use Rattle.loop_find.specs.Flat.{tokens_of, tokens_of_all}
use Rattle.loop_find.proofs.tokens.+put_tokens.Given as goal

abbrev pub invariant-loop-arg : goal.invariant-loop-arg
invariant-loop-arg l = l.tokens.items ++ tokens_of_all (forest (drop l.arg-index l.arg-items)) ≡ l.fn.tokens.items ++ tokens_of (tree l.t)

abbrev pub decreases-put_tokens : goal.decreases-put_tokens
decreases-put_tokens l = size_of (tree l.t.now)
