use Rattle.std.proofs.Common.{◌≡◌, ◌+◌, ◌≤◌, max, length, arith, rules}
use Rattle.std.proofs.lemmas.List.{drop_all}
use Rattle.std.proofs.lemmas.Grind.{common_steps}
use Rattle.names_text.specs.VariableNames.{underscores, leading_underscores}
use Rattle.names_text.proofs.UnderscoreSteps.{underscores_pos, underscores_step}
use Rattle.names_text.proofs.variable_names.underscores.Goals as goal

pub loop-f-init : goal.loop-f-init
loop-f-init c = record { same = omega (arith, underscores_pos c.args.system.now.names); some = omega arith }

pub loop-f-preserved : goal.loop-f-preserved
loop-f-preserved c =
    let greatest : c.max-most.result ≡ max c.loop-f.most (leading_underscores c.name.result.now + 1) = grind (arith, common_steps) in
    record {
      same = rw greatest (underscores_step c.args.system.now.names c.loop-f.f c.name.result.now c.loop-f.most c.name.ensures c.loop-f.invariant.same);
      some = omega (arith, greatest, c.loop-f.invariant.some);
    }

pub returns-clause-underscores : goal.returns-clause-underscores
returns-clause-underscores c =
    let names = c.args.system.now.names in
    let past : length names ≤ c.loop-f.f = search rules in
    let end : max c.loop-f.most 1 ≡ underscores names = rw (drop_all c.loop-f.f names past) at c.loop-f.invariant.same in
    omega (arith, end, c.loop-f.invariant.some)
