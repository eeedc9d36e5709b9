use Rattle.std.proofs.Common.{subst}
use Rattle.conclusion.specs.Concludes.{Concludes}
use Rattle.conclusion.specs.SerialText.{IsSerialText}
use Rattle.program_edge.specs.Conclusions.{concluded}
use Rattle.program_edge.proofs.asking.conclude_about.Goals as goal

pub returns-in-Ok : goal.returns-in-Ok
returns-in-Ok c = λ problem says.
    let system = c.args.system.now in
    let text = c.in-Ok.text.items in
    concluded system says (record {
      concludes = subst (λ question. Concludes system question c.args.budget text) c.question_of.ensures c.in-Ok.ensures.concludes;
      serial = λ one. subst (λ question. IsSerialText system question c.args.budget text) c.question_of.ensures c.in-Ok.ensures.serial;
    })
