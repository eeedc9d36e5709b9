use Rattle.std.proofs.Common.{◌≡◌, length, map, rules, ap, sym, ◌∙◌}
use Rattle.std.proofs.lemmas.List.{length-map}
use Rattle.trs_core.specs.Valid.{IsValid}
use Rattle.names_text.proofs.NamedSteps.{is_named, fault_of_rules, fails_by}
use Rattle.names_text.proofs.named.NamedTrs.new.Goals as goal

pub returns-in-Some-clause-exact : goal.returns-in-Some-clause-exact
returns-in-Some-clause-exact c =
    let l : length (map (λ n. n.items) c.args.names.items) ≡ length c.args.trs.arities =
    length-map c.args.names.items (λ n. n.items) ∙ sym c.args.names.ok.0 ∙ sym c.len.ensures ∙ c.if-len-arities.false ∙ ap length c.arities.ensures in
    fails_by c.in-Some.fault _ (fault_of_rules _ c.args.trs _ l c.in_ok-names.ensures.exact (search rules))

pub invariant_of-result : goal.invariant_of-result
invariant_of-result c =
    let valid : IsValid c.args.trs = record {
      is_system = c.rules.ensures.valid;
      within_limits = c.rules.ensures.limits;
      small_variables = c.rules.ensures.variables;
    } in
    let l : length (map (λ n. n.items) c.args.names.items) ≡ length c.args.trs.arities =
    length-map c.args.names.items (λ n. n.items) ∙ sym c.args.names.ok.0 ∙ sym c.len.ensures ∙ c.if-len-arities.false ∙ ap length c.arities.ensures in
    rw c.in_ok-names.ensures.names (is_named (map (λ n. n.items) c.args.names.items) c.args.trs valid l c.in_ok-names.ensures.exact (search rules))

pub returns-in-None-clause-exact : goal.returns-in-None-clause-exact
returns-in-None-clause-exact c =
    let l : length (map (λ n. n.items) c.args.names.items) ≡ length c.args.trs.arities =
    length-map c.args.names.items (λ n. n.items) ∙ sym c.args.names.ok.0 ∙ sym c.len.ensures ∙ c.if-len-arities.false ∙ ap length c.arities.ensures in
    fault_of_rules _ c.args.trs _ l c.in_ok-names.ensures.exact (search rules)
