use Rattle.std.proofs.Common.{◌≡◌, ◌-◌, ◌^◌, drop}
use Rattle.sexp_core.specs.Items.{views}
use Rattle.text_reading.specs.Reading.{many}
use Rattle.text_reading.specs.Numbers.{number}
use Rattle.text_reading.specs.Seen.{seen, joined}
use Rattle.pair_text.proofs.linear_entries.read_numbers.Given as goal

abbrev pub invariant-loop-item : goal.invariant-loop-item
invariant-loop-item l =
    joined (seen (λ v. v.items) l.numbers) (many (number (2 ^ 63 - 1)) (views (drop l.item-index l.items))) ≡ many (number (2 ^ 63 - 1)) (views l.items)
