use Rattle.std.proofs.Common.{◌≡◌, ℕ, suc, ◌+◌, ◌-◌, ◌^◌, ◌<◌, ◌≤◌, List, length, take, drop, Vec, Global, Ok, refl, sym, ap, ap₂, ◌∙◌, add-one, arith}
use Rattle.sexp_core.specs.declared.sexp.Sexp.{Sexp}
use Rattle.sexp_core.specs.Items.{Items, views}
use Rattle.names_text.specs.declared.table.Symbol.{Symbol}
use Rattle.text_reading.specs.Reading.{Read, ◌<*>◌, ended, many}
use Rattle.text_reading.specs.Numbers.{number}
use Rattle.text_reading.specs.Seen.{seen}
use Rattle.text_reading.proofs.SeenParts.{first, last, value_read, place_read}
use Rattle.pair_text.proofs.LongListLaws.{exactly_views, exactly_lacks}
use Rattle.pair_text.specs.LinearEntries.{polynomial, coefficients}
use Rattle.pair_text.proofs.linear_entries.read_coefficients.Goals as goal

-- the numbers that the code reads
numbers_seen : (s : Symbol) (at count : ℕ) (xs front back : List Sexp) (r t : Read (Vec ℕ Global)) → count ≡ s.arity + 1 → count ≤ length xs → front ≡ take count xs → back ≡ drop count xs
    → seen (λ v. v.items) r ≡ many (number (2 ^ 63 - 1)) (views front) → t ≡ ended r (views back)
    → seen (λ v. polynomial s v.items) t ≡ coefficients s at (Ok (polynomial s)) (views xs)
numbers_seen s at count xs front back r t is le front_is back_is reads ends =
    let same : count ≡ suc s.arity = is ∙ add-one s.arity in
    let fits : suc s.arity ≤ length xs = omega arith in
    let numbers = first (polynomial s) (λ (v : Vec ℕ Global). v.items) r (many (number (2 ^ 63 - 1)) (views front)) reads in
    last (λ (v : Vec ℕ Global). polynomial s v.items) r t _ (views back) numbers ends
    ∙ ap₂ (λ (ys zs : List Sexp). ended (Ok (polynomial s) <*> many (number (2 ^ 63 - 1)) (views ys)) (views zs))
    (front_is ∙ ap (λ n. take n xs) same) (back_is ∙ ap (λ n. drop n xs) same)
    ∙ sym (exactly_views (suc s.arity) (number (2 ^ 63 - 1)) at (Ok (polynomial s)) xs fits)

pub returns-then-items-count-clause-value : goal.returns-then-items-count-clause-value
returns-then-items-count-clause-value c =
    let s = c.args.symbol in
    sym (exactly_lacks (suc s.arity) (number (2 ^ 63 - 1)) c.args.at (Ok (polynomial s)) c.args.items.now (omega (arith, c.if-items-count.true, c.from-count.ensures)))

pub returns-in-Ok-clause-value : goal.returns-in-Ok-clause-value
returns-in-Ok-clause-value c =
    let s = c.args.symbol in
    let seen_all = numbers_seen s c.args.at (c.from-count.result + 1) c.args.items.now c.split_at.result.0.now c.split_at.result.1.now c.in_ok-numbers.numbers c.refuse_more.result (ap (λ n. n + 1) c.from-count.ensures)
    (omega (arith, c.if-items-count.false)) c.split_at.ensures.front c.split_at.ensures.back c.in_ok-numbers.ensures c.refuse_more.ensures in
    value_read (λ (v : Vec ℕ Global). polynomial s v.items) c.refuse_more.result _ c.in-Ok.numbers seen_all c.in-Ok.is

pub returns-in-Err-clause-value : goal.returns-in-Err-clause-value
returns-in-Err-clause-value c =
    let s = c.args.symbol in
    let seen_all = numbers_seen s c.args.at (c.from-count.result + 1) c.args.items.now c.split_at.result.0.now c.split_at.result.1.now c.in_ok-numbers.numbers c.refuse_more.result (ap (λ n. n + 1) c.from-count.ensures)
    (omega (arith, c.if-items-count.false)) c.split_at.ensures.front c.split_at.ensures.back c.in_ok-numbers.ensures c.refuse_more.ensures in
    place_read (λ (v : Vec ℕ Global). polynomial s v.items) c.refuse_more.result _ c.in-Err.at seen_all c.in-Err.is
