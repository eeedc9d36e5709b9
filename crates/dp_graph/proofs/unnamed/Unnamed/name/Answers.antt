use Rattle.std.proofs.Common.{◌≡◌, true, false, refl, arith}
use Rattle.std.proofs.lemmas.Option.{slice_get_within}
use Rattle.dp_graph.proofs.Sets.{true_is_not_false}
use Rattle.dp_graph.proofs.UnnamedPairs.{not_there, named_before, one_named}
use Rattle.dp_graph.proofs.unnamed.Unnamed.name.Goals as goal

pub returns-in_default-clause-answer : goal.returns-in_default-clause-answer
returns-in_default-clause-answer c = λ numbers named are. (
  λ yes_. absurd (let d : false ≡ true = yes_ in cc),
  λ wanted. absurd (not_there numbers named c.args.self.now are c.args.n (c.in_default.ensures.none are.ascending) wanted),
)

pub returns-then-not-is_unnamed-clause-answer : goal.returns-then-not-is_unnamed-clause-answer
returns-then-not-is_unnamed-clause-answer c = λ numbers named are. (
  λ yes_. absurd (let d : false ≡ true = yes_ in cc),
  λ wanted. absurd (named_before numbers named c.args.self.now are c.args.n c.in-Some.place c.in-Some.ensures.there
      (λ free. true_is_not_false c.is_unnamed.result (c.is_unnamed.ensures.1 free) c.if-not-is_unnamed.true) wanted),
)

pub returns-clause-answer : goal.returns-clause-answer
returns-clause-answer c = λ numbers named are. (
  λ _. (are.exact c.args.n).0 (c.in-Some.place, (c.in-Some.ensures.there, c.is_unnamed.ensures.0 c.if-not-is_unnamed.false)),
  λ _. refl,
)

pub returns-clause-named : goal.returns-clause-named
returns-clause-named c = λ _ numbers named are.
    one_named numbers named c.args.self.now are _ c.args.n c.in-Some.place (c.in-Some.ensures.there, c.is_unnamed.ensures.0 c.if-not-is_unnamed.false) refl refl

pub index_mut-requires : goal.index_mut-requires
index_mut-requires c =
    let within = slice_get_within c.args.self.now.named.items c.in-Some.place false (c.is_unnamed.ensures.0 c.if-not-is_unnamed.false) in
    omega (arith, within, c.args.self.now.named.ok.0)
