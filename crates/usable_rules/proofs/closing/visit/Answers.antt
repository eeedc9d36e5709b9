use Rattle.std.proofs.Common.{◌≡◌, ◌∙◌, Some, ap, sym, subst, length, slice_get, slice_index}
use Rattle.trs_defs.specs.Tree.{Tree}
use Rattle.trs_defs.specs.System.{RewriteRule}
use Rattle.trs_core.specs.View.{tree}
use Rattle.term_pool.proofs.RootRules.{rule_read}
use Rattle.usable_rules.specs.Worklist.{IsCalled}
use Rattle.usable_rules.proofs.Found.{one_visited, led_here, all_visited, next_only, in_grown, grown_twice}
use Rattle.usable_rules.proofs.closing.visit.Goals.{After-index-rules-k}
use Rattle.usable_rules.proofs.closing.visit.Goals as goal

-- the rule of the next number
here : (c : After-index-rules-k) → slice_get c.args.by_root.now.rules (slice_index c.with_root-k-items.result.now c.loop-k.k-index) ≡ Some c.index-rules-k.result
here c =
    rw (← c.rules-rules.ensures.rules) (rule_read c.args.by_root.now.rules c.rules-rules.result.now c.with_root-k-items.result.now c.loop-k.k-index c.index-rules-k.result c.rules-rules.ensures.rules
    c.with_root-k-items.ensures.within c.loop-k-test.true c.index-rules-k.is)

pub loop-k-preserved : goal.loop-k-preserved
loop-k-preserved c =
    let rules = c.args.by_root.now.rules in
    let ks = c.with_root-k-items.result.now in
    let i = c.loop-k.k-index in
    let rule = c.index-rules-k.result in
    let there = here (goal.at.loop-k-preserved c).After-index-rules-k in
    let old = c.args.found.now.items in
    let found = c.loop-k.found.items in
    let new = c.mark_below.new.found.items in
    let n = length c.args.flags.now.items in
    let e = c.in_ok-mark_below.ensures in
    let right : tree c.rule.inside.right ≡ rule.right = ap (λ (x : RewriteRule). x.right) c.rule.view_is in
    record {
      marked = e.marked;
      flags = e.flags ∙ c.loop-k.invariant.flags;
      grown = grown_twice old found new e.grown c.loop-k.invariant.grown;
      all = one_visited rules c.args.f n ks c.with_root-k-items.ensures.numbers i rule c.loop-k-test.true there found new (λ g. in_grown found new g e.grown)
          (λ g call low. e.all g (subst (λ (t : Tree). IsCalled t g) (sym right) call) (rw c.loop-k.invariant.flags low)) c.loop-k.invariant.all;
      only = next_only old found new e.only
          (λ g call. led_here rules c.args.f n ks c.with_root-k-items.ensures.numbers i rule c.loop-k-test.true there found new g (subst (λ (t : Tree). IsCalled t g) right call)) c.loop-k.invariant.only;
    }

pub returns-clause-all : goal.returns-clause-all
returns-clause-all c =
    all_visited c.args.by_root.now.rules c.args.f (length c.args.flags.now.items) c.with_root-k-items.result.now c.with_root-k-items.ensures.numbers c.loop-k.k-index c.loop-k.found.items c.loop-k-test.false c.loop-k.invariant.all
