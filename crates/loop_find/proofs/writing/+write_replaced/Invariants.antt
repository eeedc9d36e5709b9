use Rattle.std.proofs.Common.{◌-◌, drop}
use Rattle.std.specs.Option.{option_map}
use Rattle.trs_defs.specs.Size.{size_of}
use Rattle.trs_defs.specs.Substitution.{apply, apply_all}
use Rattle.trs_core.specs.View.{tree, forest}
use Rattle.loop_find.specs.Bindings.{resolved}
use Rattle.loop_find.specs.Flat.{tokens_of, tokens_of_all}
use Rattle.loop_find.specs.Written.{put_into, put_way}
use Rattle.loop_find.proofs.Renumbering.{IsUnderWay}
use Rattle.loop_find.proofs.writing.+write_replaced.Given as goal

abbrev pub invariant-loop-i : goal.invariant-loop-i
invariant-loop-i l =
    IsUnderWay (tokens_of (apply (resolved l.found 2) (put_way (option_map (λ w. w.now) l.way) (tree l.t) (tree l.by)))) l.fn.names.items l.fn.tokens.items l.names.items l.tokens.items
    (tokens_of_all (apply_all (resolved l.found 2) (put_into (forest (drop l.i l.arg-items)) (l.first - l.i) l.below (tree l.by))))

abbrev pub decreases-write_replaced : goal.decreases-write_replaced
decreases-write_replaced l = size_of (tree l.t.now)
