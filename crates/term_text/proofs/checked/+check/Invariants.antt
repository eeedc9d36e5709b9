use Rattle.std.proofs.Common.{◌≡◌, drop}
use Rattle.sexp_core.specs.Items.{views}
use Rattle.trs_core.specs.View.{forest}
use Rattle.term_text.specs.Checked.{judged}
use Rattle.term_text.specs.Viewed.{unless_refused, read_behind}
use Rattle.term_text.specs.Terms.{all_variables_after, terms}
use Rattle.term_text.proofs.CheckedSteps.{together}
use Rattle.term_text.proofs.checked.+check.Given as goal

abbrev pub invariant-arguments-loop-item : goal.invariant-arguments-loop-item
invariant-arguments-loop-item g l = record {
  read :
      together g.F.Refusal.of g.F.Refusal.both (unless_refused l.refused (forest l.terms.items))
      (judged g.F.Refusal.of g.F.Refusal.both (terms l.new l.symbols l.variables (views (drop l.item-index l.items))))
      ≡ read_behind g.F.Refusal.both l.fn.refused (judged g.F.Refusal.of g.F.Refusal.both (terms l.new l.symbols l.fn.variables (views l.items)));
  names :
      all_variables_after l.new l.symbols l.variables (views (drop l.item-index l.items))
      ≡ all_variables_after l.new l.symbols l.fn.variables (views l.items);
}
