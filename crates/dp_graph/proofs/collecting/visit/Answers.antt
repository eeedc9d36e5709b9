use Rattle.std.proofs.Common.{◌≡◌, ◌+◌, ◌⊎◌, ℕ, take, get_or, refl, sym, subst}
use Rattle.std.proofs.lemmas.List.{take_all}
use Rattle.trs_defs.specs.Member.{In}
use Rattle.trs_defs.proofs.Members.{no_in}
use Rattle.dp_graph.proofs.FoundLaws.{finds_none, finds_more, finds_same, taken_more, more_taken}
use Rattle.dp_graph.proofs.collecting.visit.Goals as goal

pub loop-j-init : goal.loop-j-init
loop-j-init c = finds_none (λ j. In j (take 0 c.args.row.now)) c.args.flags.now.items c.args.found.now.items (λ j i lt. absurd (no_in i))

pub loop-j-preserved : goal.loop-j-preserved
loop-j-preserved c =
    let i = c.loop-j.j-index in
    let row = c.args.row.now in
    let x = get_or row i 0 in
    let before : ℕ → Type 0 = λ j. In j (take i row) in
    finds_same (λ j. In j (take i row) ⊎ (j ≡ x)) (λ j. In j (take (i + 1) row)) c.args.flags.now.items c.mark.new.flags.items c.args.found.now.items c.mark.new.found.items
    (λ j h. more_taken row i x j c.loop-j-test.true refl h) (λ j h. taken_more row i x j c.loop-j-test.true refl h)
    (finds_more before (λ j. j ≡ x) c.args.flags.now.items c.loop-j.flags.items c.mark.new.flags.items c.args.found.now.items c.loop-j.found.items c.mark.new.found.items c.loop-j.invariant
    c.in_ok-mark.ensures)

pub returns : goal.returns
returns c =
    let all = take_all c.loop-j.j-index c.args.row.now c.loop-j-test.false in
    finds_same (λ j. In j (take c.loop-j.j-index c.args.row.now)) (λ j. In j c.args.row.now) c.args.flags.now.items c.loop-j.flags.items c.args.found.now.items c.loop-j.found.items
    (λ j h. subst (In j) all h) (λ j h. subst (In j) (sym all) h) c.loop-j.invariant
