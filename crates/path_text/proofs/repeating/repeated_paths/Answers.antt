use Rattle.std.proofs.Common.{◌≤◌, nat_lt, Bool, List, is_some, length, take, map, sym, ap, ◌∙◌, arith}
use Rattle.std.specs.Prelude.{filter}
use Rattle.std.proofs.lemmas.List.{take_all, length-map}
use Rattle.trs_defs.specs.Path.{PlacedRule}
use Rattle.path_text.specs.PathNames.{path_number, occurrences}
use Rattle.path_text.proofs.FewPaths.{few_repeat}
use Rattle.path_text.proofs.SeenPaths.{kept_more, kept_is, filter_none}
use Rattle.path_text.proofs.repeating.repeated_paths.Goals as goal

pub returns-then-paths-lt2 : goal.returns-then-paths-lt2
returns-then-paths-lt2 c =
    let same = length-map c.args.paths.now (λ p. p.now) in
    c.new.ensures ∙ sym (few_repeat (map (λ p. p.now) c.args.paths.now) (omega (arith, same, c.if-paths-lt2.true)))

pub keep_path-requires-clause-new : goal.keep_path-requires-clause-new
keep_path-requires-clause-new c =
    let ps = map (λ q. q.now) c.args.paths.now in
    let f : List PlacedRule → Bool = λ p. nat_lt 1 (occurrences p ps) in
    ap (λ names. path_number names c.get.result.now) c.loop-k.invariant ∙ filter_none f (take c.loop-k.k c.in_ok-seen.seen.known) c.get.result.now c.get.ensures.alone

pub loop-k-preserved : goal.loop-k-preserved
loop-k-preserved c =
    let ps = map (λ q. q.now) c.args.paths.now in
    let f : List PlacedRule → Bool = λ p. nat_lt 1 (occurrences p ps) in
    let seen = c.in_ok-seen.seen in
    kept_more f seen.known c.loop-k.names c.loop-k.k c.get.result.now (is_some (path_number seen.again c.get.result.now)) c.keep_path.new.names c.get.ensures.path c.loop-k.invariant
    (kept_is seen.known seen.again ps c.loop-k.k c.get.result.now c.in_ok-seen.ensures.known c.in_ok-seen.ensures.seen c.get.ensures.path) c.in_ok-keep_path.ensures

pub returns : goal.returns
returns c =
    let ps = map (λ q. q.now) c.args.paths.now in
    let f : List PlacedRule → Bool = λ p. nat_lt 1 (occurrences p ps) in
    let known = c.in_ok-seen.seen.known in
    let past : length known ≤ c.loop-k.k = omega (arith, c.loop-k-test.false, c.len-k-end.ensures) in
    c.loop-k.invariant ∙ ap (filter f) (take_all c.loop-k.k known past ∙ c.in_ok-seen.ensures.known)
