use Rattle.std.proofs.Common.{◌≡◌, ◌++◌, map, drop}
use Rattle.sexp_core.specs.Items.{items_of}
use Rattle.sexp_core.specs.Printed.{spaced}
use Rattle.text_reading.specs.Printed.{number_item}
use Rattle.report_text.proofs.problem_words.put_pairs.Given as goal

abbrev pub invariant-loop-pair : goal.invariant-loop-pair
invariant-loop-pair l =
    l.out.items ++ spaced (items_of (map number_item (drop l.pair-index l.pairs))) ≡ l.initial.out.items ++ spaced (items_of (map number_item l.pairs))
