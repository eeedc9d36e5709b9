use Rattle.std.proofs.Common.{◌++◌, get_or, refl, subst, sym, take}
use Rattle.std.proofs.lemmas.List.{take_all}
use Rattle.dp_graph.specs.Unnamed.{AreUnnamed}
use Rattle.dp_graph.proofs.Sets.{true_is_not_false}
use Rattle.dp_graph.proofs.UnnamedPairs.{next_named, next_is_not, all_named, member_taken}
use Rattle.dp_graph.proofs.naming.name.Goals as goal

pub returns-then-not-name-clause-answers : goal.returns-then-not-name-clause-answers
returns-then-not-name-clause-answers c = λ numbers named are.
    let i = c.loop-n.n-index in
    let members = c.args.members.now in
    let n = get_or members i 0 in
    next_is_not numbers named members i n c.loop-n-test.true refl
    (λ new. true_is_not_false c.name.result ((c.name.ensures.answer numbers (named ++ take i members) (c.loop-n.invariant.unnamed numbers named are)).1 new) c.if-not-name.true)
    (c.loop-n.invariant.passed numbers named are)

pub loop-n-preserved : goal.loop-n-preserved
loop-n-preserved c =
    let i = c.loop-n.n-index in
    let members = c.args.members.now in
    let n = get_or members i 0 in
    record {
      passed = λ numbers named are. next_named numbers named members i n c.loop-n-test.true refl
          ((c.name.ensures.answer numbers (named ++ take i members) (c.loop-n.invariant.unnamed numbers named are)).0 c.if-not-name.false) (c.loop-n.invariant.passed numbers named are);
      unnamed = λ numbers named are. subst (λ z. AreUnnamed numbers z c.name.new.self) (sym (member_taken numbers named members i n c.loop-n-test.true refl))
          (c.name.ensures.named c.if-not-name.false numbers (named ++ take i members) (c.loop-n.invariant.unnamed numbers named are));
    }

pub returns-clause-answers : goal.returns-clause-answers
returns-clause-answers c = λ numbers named are. all_named numbers named c.args.members.now c.loop-n.n-index c.loop-n-test.false (c.loop-n.invariant.passed numbers named are)

pub returns-clause-left : goal.returns-clause-left
returns-clause-left c = λ numbers named are.
    subst (λ z. AreUnnamed numbers (named ++ z) c.loop-n.left) (take_all c.loop-n.n-index c.args.members.now c.loop-n-test.false) (c.loop-n.invariant.unnamed numbers named are)
