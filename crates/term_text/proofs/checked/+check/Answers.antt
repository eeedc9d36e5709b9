use Rattle.std.proofs.Common.{◌∙◌, ◌+◌, ◌≤◌, length, drop, sym, arith}
use Rattle.std.proofs.lemmas.List.{drop_all}
use Rattle.sexp_core.specs.Items.{view, views}
use Rattle.trs_core.specs.View.{forest}
use Rattle.names_text.proofs.Loops.{one_more}
use Rattle.term_text.specs.Checked.{judged}
use Rattle.term_text.specs.Viewed.{unless_refused}
use Rattle.term_text.specs.Terms.{variables_after, all_variables_after, term, terms}
use Rattle.term_text.proofs.CheckedSteps.{together, one_more_term, no_more_terms}
use Rattle.term_text.proofs.checked.+check.Goals as goal

pub arguments-loop-item-preserved : goal.arguments-loop-item-preserved
arguments-loop-item-preserved g t c =
    let new = c.args.new in
    let symbols = c.args.symbols.now in
    let one_of = g.F.Refusal.of in
    let both_of = g.F.Refusal.both in
    let xs = c.args.items.now in
    let i = c.loop-item.item-index in
    let x = view c.item-item.result in
    let more = views (drop (i + 1) xs) in
    let variables = c.loop-item.variables in
    let refused = c.loop-item.refused in
    let known = c.loop-item.terms.items in
    record {
      read =
          rw c.in_ok-term.ensures.variables
          (one_more_term one_of both_of refused c.item_term.new.refused known c.push.new.self.items c.in_ok-term.term (term new symbols variables x) (terms new symbols (variables_after new symbols variables x) more)
          g.met.F.Refusal.associative c.in_ok-term.ensures.term c.in_ok-push.ensures.items
          ∙ one_more (λ ys. together one_of both_of (unless_refused refused (forest known)) (judged one_of both_of (terms new symbols variables (views ys)))) xs i c.item-item.result c.loop-item-test.true c.item-item.is
          ∙ c.loop-item.invariant.read);
      names =
          rw c.in_ok-term.ensures.variables
          (one_more (λ ys. all_variables_after new symbols variables (views ys)) xs i c.item-item.result c.loop-item-test.true c.item-item.is
          ∙ c.loop-item.invariant.names);
    }

pub arguments-returns-clause-terms : goal.arguments-returns-clause-terms
arguments-returns-clause-terms g t c =
    let xs = c.args.items.now in
    let past : length xs ≤ c.loop-item.item-index = omega (arith, c.loop-item-test.false) in
    sym (no_more_terms g.F.Refusal.of g.F.Refusal.both (unless_refused c.loop-item.refused (forest c.loop-item.terms.items)))
    ∙ rw (drop_all c.loop-item.item-index xs past) at c.loop-item.invariant.read
