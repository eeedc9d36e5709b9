use Rattle.std.proofs.Common.{subst, arith}
use Rattle.conclusion.specs.Concludes.{Concludes}
use Rattle.program_edge.specs.Conclusions.{concluded}
use Rattle.program_edge.proofs.asking.conclude_about_with.Goals as goal

pub returns-in-Ok : goal.returns-in-Ok
returns-in-Ok g c = λ problem says.
    let system = c.args.system.now in
    concluded system says (record {
      concludes = subst (λ question. Concludes system question c.args.budget c.in-Ok.text.items) c.question_of-asked.ensures c.in-Ok.ensures.concludes;
      serial = λ one. absurd (omega (arith, one, c.requires.0));
    })
