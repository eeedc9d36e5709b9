use Rattle.std.proofs.Common.{◌≤◌, List, ℕ, rules, sym, subst}
use Rattle.std.proofs.lemmas.List.Elements.{recursion_from_All}
use Rattle.ari_text.specs.Problem.{SaysSystem}
use Rattle.ari_text.proofs.PrintedText.{problem_text}
use Rattle.ari_text.proofs.PrintedItems.{AreBytes}
use Rattle.ari_text.proofs.OneSystem.{one_system}
use Rattle.ari_text.proofs.ReadBack.{says_printed}
use Rattle.ari_text.proofs.printing.print_problem.Goals as goal

pub returns-clause-text : goal.returns-clause-text
returns-clause-text c =
    problem_text c.args.system.now c.underscores.result c.rules.result.now c.extend_from_slice.new.self.items c.put_symbols.new.out.items c.put_rules.new.out.items
    (search rules) (search rules) (search rules) (search rules) (search rules)

pub returns-clause-read : goal.returns-clause-read
returns-clause-read c =
    let system = c.args.system.now in
    let bytes : AreBytes system.system.arities = rw c.arities.ensures.arities at (recursion_from_All (λ a. a ≤ 255) c.arities.result.now c.arities.ensures.bytes) in
    subst (λ (text : List ℕ). SaysSystem text system) (sym (returns-clause-text c)) (says_printed system c.trs.ensures.named bytes)

pub returns-clause-alone : goal.returns-clause-alone
returns-clause-alone c = λ other says. one_system c.put_rules.new.out.items other c.args.system.now says (returns-clause-read c)
