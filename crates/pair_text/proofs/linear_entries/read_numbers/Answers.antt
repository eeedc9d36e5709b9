use Rattle.std.proofs.Common.{◌≤◌, ◌∙◌, length, sym, arith}
use Rattle.std.proofs.lemmas.List.{drop_all}
use Rattle.text_reading.specs.Seen.{seen}
use Rattle.text_reading.proofs.SeenParts.{joined_end}
use Rattle.pair_text.proofs.linear_entries.read_numbers.Goals as goal

pub returns : goal.returns
returns c =
    let xs = c.args.items.now in
    let past : length xs ≤ c.loop-item.item-index = omega (arith, c.loop-item-test.false) in
    sym (joined_end (seen (λ v. v.items) c.loop-item.numbers)) ∙ rw (drop_all c.loop-item.item-index xs past) at c.loop-item.invariant
