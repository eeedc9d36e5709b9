use Rattle.std.proofs.Common.{◌≡◌, drop}
use Rattle.trs_core.specs.View.{forest}
use Rattle.term_text.proofs.BuiltTerms.{behind}
use Rattle.term_text.specs.Renumbered.{all_with_numbers}
use Rattle.term_text.proofs.renumbering.+numbered.Given as goal

abbrev pub invariant-all_with_numbers-loop-term : goal.invariant-all_with_numbers-loop-term
invariant-all_with_numbers-loop-term l =
    behind (forest l.copies.items) (all_with_numbers l.numbers (forest (drop l.term-index l.terms)))
    ≡ all_with_numbers l.numbers (forest l.terms)
