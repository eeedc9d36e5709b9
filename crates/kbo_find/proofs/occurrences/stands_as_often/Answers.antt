use Rattle.std.proofs.Common.{ℕ, ◌+◌, get_or, refl, sym, subst}
use Rattle.kbo_find.proofs.Standing.{ComesTo, is_found, is_other_one, all_found, ended}
use Rattle.kbo_find.proofs.occurrences.stands_as_often.Goals.{then-found-few+then-few-found, else-found-few, else-found-few-via-then-found-few+else-few-found, else-found-few-via-else-found-few}
use Rattle.kbo_find.proofs.occurrences.stands_as_often.Goals as goal

pub loop-x-preserved : goal.loop-x-preserved
loop-x-preserved c =
    let many = c.args.many.now in
    let few = c.args.few.now in
    let i = c.loop-x.x-index in
    let found = c.loop-x.found in
    let x = get_or many i 0 in
    let comes = c.loop-x.invariant in
    elim c.if-found-few.branch [
      | then-found-few+then-few-found w ↦ subst (λ (n : ℕ). ComesTo many few (i + 1) n) (sym w.found-is)
          (is_found many few i found x c.loop-x-test.true refl comes w.if-found-few.true w.if-few-found.true)
      | else-found-few w ↦ subst (λ (n : ℕ). ComesTo many few (i + 1) n) (sym w.found-is) (elim w.else-found-few.branch [
        | else-found-few-via-then-found-few+else-few-found u ↦
            is_other_one many few i found x c.loop-x-test.true refl comes c.requires.many c.requires.few u.if-found-few.true u.if-few-found.false
        | else-found-few-via-else-found-few u ↦ all_found many few i found x c.loop-x-test.true refl comes u.if-found-few.false
      ])
    ]

pub returns : goal.returns
returns c = ended c.args.many.now c.args.few.now c.loop-x.x-index c.loop-x.found c.loop-x-test.false c.loop-x.invariant
