use Rattle.std.proofs.Common.{◌≡◌, ◌++◌, map, drop}
use Rattle.sexp_core.specs.Items.{items_of}
use Rattle.sexp_core.specs.Printed.{spaced}
use Rattle.text_reading.specs.Printed.{number_item}
use Rattle.text_reading.proofs.printing.put_numbers.Given as goal

abbrev pub invariant-loop-number : goal.invariant-loop-number
invariant-loop-number l =
    l.out.items ++ spaced (items_of (map number_item (drop l.number-index l.numbers))) ≡ l.initial.out.items ++ spaced (items_of (map number_item l.numbers))
