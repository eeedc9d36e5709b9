use Rattle.std.proofs.Common.{◌≡◌, ◌++◌, replicate, decimal, append_assoc, arith, rules}
use Rattle.names_text.proofs.UnderscoreSteps.{underscore_step}
use Rattle.names_text.proofs.variable_names.put_variable.Goals as goal

pub loop-i-preserved : goal.loop-i-preserved
loop-i-preserved c = rw (c.in_ok-push.ensures.items, c.loop-i.invariant) (underscore_step c.args.out.now.items c.loop-i._i)

pub returns : goal.returns
returns c =
    let written : c.extend_from_slice.new.self.items ≡ c.loop-i.out.items ++ decimal c.args.variable = search rules in
    let all : c.loop-i._i ≡ c.args.underscores = omega arith in
    rw (written, c.loop-i.invariant, all) (append_assoc c.args.out.now.items (replicate c.args.underscores 95) (decimal c.args.variable))
