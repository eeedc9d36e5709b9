use Rattle.trs_defs.specs.Step.{Step}
use Rattle.trs_defs.proofs.NormalForms.{joinable_equal, forked_by_normal_forms}
use Rattle.confluence_theory.proofs.NormalForms.{split_forked}
use Rattle.confluence_theory.proofs.nonconfluence.different_normal_forms.Goals as goal

pub returns : goal.returns
returns c =
    record {
      apart = λ rules t u normal normal' different j. different (joinable_equal (Step rules) t u normal normal' j);
      forked = forked_by_normal_forms;
      split = split_forked;
    }
