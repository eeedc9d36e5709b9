use Rattle.std.proofs.Common.{◌≡◌, ◌+◌, ◌∷◌, [], All, drop, refl, subst, arith}
use Rattle.std.proofs.lemmas.List.{drop_all, take_all}
use Rattle.std.proofs.lemmas.List.Elements.{All-more}
use Rattle.trs_defs.proofs.ArgumentLists.{cell}
use Rattle.trs_core.specs.SystemLimits.{IsShallow, nodes_of}
use Rattle.trs_core.proofs.RuleLists.{more_rules, all_rules}
use Rattle.trs_core.proofs.plain.are_plain.Goals as goal

pub loop-rule-preserved : goal.loop-rule-preserved
loop-rule-preserved c =
    let h = c.loop-rule.invariant in
    let i = c.loop-rule.rule-index in
    let rules = c.args.rules.now in
    let rule = c.rule-item.result in
    let rest : drop i rules ≡ rule ∷ drop (i + 1) rules = cell rules i rule c.loop-rule-test.true c.rule-item.is in
    let before : c.loop-rule.nodes + nodes_of rules ≡ 65536 + nodes_of (rule ∷ drop (i + 1) rules) = rw rest at h.nodes in
    record {
      faultless = more_rules _ _ i _ h.faultless c.loop-rule-test.true c.rule-item.is (c.if-not-is_plain_rule.ensures.faultless refl);
      shallow = All-more IsShallow rules i rule c.loop-rule-test.true h.shallow
          (subst IsShallow c.rule-item.is (c.if-not-is_plain_rule.ensures.shallow refl));
      nodes = omega (arith, before, c.if-not-is_plain_rule.ensures.nodes refl);
    }

pub returns : goal.returns
returns c _ =
    let h = c.loop-rule.invariant in
    let i = c.loop-rule.rule-index in
    let rules = c.args.rules.now in
    let none : drop i rules ≡ [] = drop_all i rules (omega arith) in
    let all : c.loop-rule.nodes + nodes_of rules ≡ 65536 + nodes_of [] = rw none at h.nodes in
    all_rules _ _ i h.faultless (omega arith) (record {
      symbols = omega (arith, c.if-arities-gt-MOST_SYMBOLS.false);
      rules = omega (arith, c.if-rules-gt-MOST_RULES.false);
      nodes = omega (arith, all);
      shallow = subst (All IsShallow) (take_all i rules (omega arith)) h.shallow;
    })
