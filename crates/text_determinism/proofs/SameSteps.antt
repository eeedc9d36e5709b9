-- Two steps that a strategy finds for a problem are the same, but for the numbers of the variables of a loop, and leave the same problems.
use Rattle.std.specs.Prelude.{◌≡◌, ◌⊎◌, ℕ, List, [], refl}
use Rattle.std.proofs.Common.{ap, ap₂, sym, ◌∙◌, subst, inl, inr}
use Rattle.trs_defs.specs.Tree.{Tree}
use Rattle.trs_defs.specs.System.{System}
use Rattle.trs_defs.specs.Path.{PlacedRule}
use Rattle.trs_core.specs.Valid.{IsValid}
use Rattle.term_text.specs.Renumbered.{in_order}
use Rattle.rewrite_core.specs.Check.{goes_on, returned}
use Rattle.conclusion.specs.report_text.strategies.nonjoin.Apart.{AreApart}
use Rattle.conclusion.specs.report_text.strategies.order_search.OrderOver.{search_of}
use Rattle.conclusion.specs.report_text.strategies.poly_find.PolyRow.{poly_search, poly_entry}
use Rattle.conclusion.specs.report_text.strategies.lpo_find.LpoRow.{lpo_search, lpo_entry}
use Rattle.conclusion.specs.report_text.strategies.kbo_find.KboRow.{kbo_search, kbo_entry}
use Rattle.conclusion.specs.report_text.strategies.order_search.OrderSpace.{arity_with_mark}
use Rattle.conclusion.specs.report_text.strategies.conf_find.ForkRows.{AreDifferentNormalForms}
use Rattle.conclusion.specs.report_text.strategies.cert_step.ProofProblem.{ProofProblem}
use Rattle.conclusion.specs.report_text.strategies.cert_step.ProofStep as step
use Rattle.conclusion.specs.report_text.strategies.cert_step.ProofStep.{ProofStep}
use Rattle.conclusion.specs.report_text.strategies.cert_step.Applies.{Applies}
use Rattle.conclusion.proofs.tree_definitions.strategies.cert_step.Once.{applies_once}
use Rattle.conclusion.specs.report_text.strategies.declared.strategy.Strategy.{Strategy}
use Rattle.conclusion.specs.report_text.strategies.Conditions.{fork_step, Finds, dp_is_found, graph_is_found, confluence_is_found, newman_confluence_is_found}
use Rattle.conclusion.specs.report_text.strategies.Conditions.{subterm_is_found, poly_is_found, lpo_is_found, kbo_is_found, usable_is_found, loop_is_found}
use Rattle.conclusion.specs.report_text.strategies.Conditions.{parallel_is_found, strong_is_found, label_is_found, newman_is_found, fork_is_found, split_is_found}
use Rattle.text_determinism.specs.LoopLaws.{IsSameLoop, LoopsAreOne}
use Rattle.text_determinism.specs.AnswerLaws.{renumbered, AreSameSteps}
use Rattle.text_determinism.proofs.Graphs.{graph_once}
use Rattle.text_determinism.proofs.Places.{subterm_once}
use Rattle.text_determinism.proofs.Orders.{order_once}
use Rattle.text_determinism.proofs.Usables.{usable_once}
use Rattle.text_determinism.proofs.Peaks.{on_one_list}
use Rattle.text_determinism.proofs.Joins.{parallels_once, strong_once, newman_once}
use Rattle.text_determinism.proofs.Labels.{ranks_once, joins_once}
use Rattle.text_determinism.proofs.Forks.{fork_once}

-- both steps are loops, which are the same but for the numbers of variables
pub record AreOneLoop (s t : ProofStep) : Type 0 where
  pub start : Tree
  pub other : Tree
  pub path : List PlacedRule
  pub other_path : List PlacedRule
  pub place : List ℕ
  pub other_place : List ℕ
  pub first : s ≡ step.loop start path place
  pub second : t ≡ step.loop other other_path other_place
  pub same : IsSameLoop start path place other other_path other_place

abbrev pub AreOne : ProofStep → ProofStep → Type 0
AreOne s t = (s ≡ t) ⊎ AreOneLoop s t

left_by_loop : (system : System) (p : ProofProblem) (start : Tree) (path : List PlacedRule) (place : List ℕ) (left : List ProofProblem)
    → Applies system p (step.loop start path place) left → left ≡ []
left_by_loop system p start path place _ (goes_on _ _ _ (goes_on _ _ _ returned)) = refl

-- they are the same, and leave the same problems
pub same_left : (system : System) (p : ProofProblem) (s t : ProofStep) (left others : List ProofProblem) → AreOne s t
    → Applies system p s left → Applies system p t others → AreSameSteps s t × (left ≡ others)
same_left system p s t left others (inl e) h k =
    (ap renumbered e, applies_once system p t left others (subst (λ (x : ProofStep). Applies system p x left) e h) k)
same_left system p s t left others (inr one) h k =
    let begun : step.loop (in_order one.start) one.path one.place ≡ step.loop (in_order one.other) one.other_path one.other_place =
    ap (λ (x : Tree). step.loop x one.path one.place) one.same.starts ∙ ap₂ (step.loop (in_order one.other)) one.same.paths one.same.places in
    let steps : renumbered s ≡ renumbered t = ap renumbered one.first ∙ (begun ∙ sym (ap renumbered one.second)) in
    let none = left_by_loop system p one.start one.path one.place left (subst (λ (x : ProofStep). Applies system p x left) one.first h) in
    let other = subst (λ (x : ProofStep). Applies system p x others) one.second k in
    let nothing = left_by_loop system p one.other one.other_path one.other_place others other in
    (steps, none ∙ sym nothing)

module _ (system : System) (valid : IsValid system) (budget : ℕ) (loops : LoopsAreOne) where
  pub one_step : {strategy : Strategy} {p : ProofProblem} {s t : ProofStep} → Finds system budget strategy p s
      → Finds system budget strategy p t → AreOne s t
  one_step dp_is_found dp_is_found = inl refl
  one_step (graph_is_found {numbers = numbers} {items = a} h) (graph_is_found {items = b} k) = inl (ap step.graph (graph_once system numbers a b h k))
  one_step (subterm_is_found {numbers = numbers} {projection = a} h) (subterm_is_found {projection = b} k) =
      inl (ap step.subterm (subterm_once system numbers budget a b h k))
  one_step (poly_is_found {numbers = numbers} {entries = a} h) (poly_is_found {entries = b} k) =
      inl (ap step.poly (order_once system numbers budget (search_of poly_search system) (poly_entry system.arities) a b h k))
  one_step (lpo_is_found {numbers = numbers} {entries = a} h) (lpo_is_found {entries = b} k) =
      inl (ap step.lpo (order_once system numbers budget (lpo_search system) (lpo_entry (arity_with_mark system.arities)) a b h k))
  one_step (kbo_is_found {numbers = numbers} {entries = a} h) (kbo_is_found {entries = b} k) =
      inl (ap step.kbo (order_once system numbers budget (search_of kbo_search system) (kbo_entry system.arities) a b h k))
  one_step (usable_is_found {numbers = numbers} {entries = a} h) (usable_is_found {entries = b} k) =
      inl (ap step.usable_poly (usable_once system numbers budget a b h k))
  one_step (loop_is_found {start = start} {path = path} {place = place} h) (loop_is_found {start = other} {path = along} {place = at} k) =
      inr (record {
        start = start;
        other = other;
        path = path;
        other_path = along;
        place = place;
        other_place = at;
        first = refl;
        second = refl;
        same = loops system budget start other path along place at valid h k;
      })
  one_step (parallel_is_found {items = a} h) (parallel_is_found {items = b} k) =
      let (peaks, f, g) = on_one_list system valid.is_system h k in
      inl (ap step.parallel (parallels_once system valid.is_system peaks a b f g))
  one_step (strong_is_found {items = a} h) (strong_is_found {items = b} k) =
      let (peaks, f, g) = on_one_list system valid.is_system h k in
      inl (ap step.strong (strong_once system valid.is_system peaks a b f g))
  one_step (label_is_found {ranks = ranks} {items = a} h) (label_is_found {ranks = others} {items = b} k) =
      let (peaks, f, g) = on_one_list system valid.is_system h k in
      inl (ap₂ step.label (ranks_once system valid.is_system peaks budget ranks others a b f g)
      (joins_once system valid.is_system peaks budget ranks others a b f g))
  one_step (newman_is_found {items = a} h) (newman_is_found {items = b} k) =
      let (peaks, f, g) = on_one_list system valid.is_system h k in
      inl (ap step.newman (newman_once system valid.is_system peaks a b f g))
  one_step (fork_is_found {fork = a} h) (fork_is_found {fork = b} k) =
      let (peaks, f, g) = on_one_list system valid.is_system h k in
      inl (ap fork_step (fork_once AreApart system valid.is_system peaks a b f g))
  one_step confluence_is_found confluence_is_found = inl refl
  one_step newman_confluence_is_found newman_confluence_is_found = inl refl
  one_step (split_is_found {fork = a} h) (split_is_found {fork = b} k) =
      let (peaks, f, g) = on_one_list system valid.is_system h k in
      inl (ap fork_step (fork_once AreDifferentNormalForms system valid.is_system peaks a b f g))
