use Rattle.std.proofs.Common.{◌≡◌, length, Some, None, refl, rules}
use Rattle.std.proofs.lemmas.Option.{slice_get_read, slice_get_past}
use Rattle.std.proofs.lemmas.Bool.{eq-eqb, ne_eqb}
use Rattle.std.specs.Prelude.{slice_get}
use Rattle.term_text.proofs.CheckedSteps.{taking_by_extra}
use Rattle.term_text.proofs.checked.check_count.Goals as goal

pub returns-in-Some : goal.returns-in-Some
returns-in-Some g c =
    let xs = c.args.args.now in
    let n = c.args.symbol.arity in
    let found : slice_get xs n ≡ Some c.in-Some.extra.now =
    slice_get_read xs (length xs) n c.in-Some.extra.now refl c.in-Some.ensures.lookup.3.0 c.in-Some.ensures.lookup.1 in
    rw (taking_by_extra c.args.symbol.number c.args.at n xs, found) (search rules)

pub returns-then-args-symbol : goal.returns-then-args-symbol
returns-then-args-symbol g c =
    let xs = c.args.args.now in
    let n = c.args.symbol.arity in
    let found : slice_get xs n ≡ None = slice_get_past xs n c.in-None.ensures.lookup.3 in
    rw (taking_by_extra c.args.symbol.number c.args.at n xs, found, eq-eqb (length xs) n c.if-args-symbol.true) refl

pub returns-else-args-symbol : goal.returns-else-args-symbol
returns-else-args-symbol g c =
    let xs = c.args.args.now in
    let n = c.args.symbol.arity in
    let found : slice_get xs n ≡ None = slice_get_past xs n c.in-None.ensures.lookup.3 in
    rw (taking_by_extra c.args.symbol.number c.args.at n xs, found, ne_eqb (length xs) n c.if-args-symbol.false) (search rules)
