-- A strategy that finds a step does not fail, and one that fails does so for one reason.
use Rattle.std.specs.Prelude.{◌≡◌, ℕ, [], refl}
use Rattle.trs_defs.specs.Tree.{var}
use Rattle.trs_defs.specs.System.{System}
use Rattle.trs_core.specs.Valid.{IsValid}
use Rattle.conclusion.specs.report_text.strategies.nonjoin.Apart.{AreApart}
use Rattle.conclusion.specs.report_text.strategies.order_search.OrderOver.{search_of}
use Rattle.conclusion.specs.report_text.strategies.order_search.OrderSpace.{arity_with_mark}
use Rattle.conclusion.specs.report_text.strategies.poly_find.PolyRow.{poly_search, poly_entry}
use Rattle.conclusion.specs.report_text.strategies.lpo_find.LpoRow.{lpo_search, lpo_entry}
use Rattle.conclusion.specs.report_text.strategies.kbo_find.KboRow.{kbo_search, kbo_entry}
use Rattle.conclusion.specs.report_text.strategies.conf_find.ForkRows.{AreDifferentNormalForms}
use Rattle.conclusion.specs.report_text.strategies.cert_step.ProofProblem.{ProofProblem}
use Rattle.conclusion.specs.report_text.strategies.cert_step.ProofStep.{ProofStep}
use Rattle.conclusion.specs.report_text.strategies.declared.failure.Failure.{Failure}
use Rattle.conclusion.specs.report_text.strategies.declared.failure.Failure.TheVariants.{NotThere, Spent}
use Rattle.conclusion.specs.report_text.strategies.declared.strategy.Strategy.{Strategy}
use Rattle.conclusion.specs.report_text.strategies.Conditions.{Finds, dp_is_found, graph_is_found, confluence_is_found, newman_confluence_is_found}
use Rattle.conclusion.specs.report_text.strategies.Conditions.{subterm_is_found, poly_is_found, lpo_is_found, kbo_is_found, usable_is_found, loop_is_found}
use Rattle.conclusion.specs.report_text.strategies.Conditions.{parallel_is_found, strong_is_found, label_is_found, newman_is_found, fork_is_found, split_is_found}
use Rattle.conclusion.specs.report_text.strategies.Conditions.{Fails, graph_is_not_there, subterm_is_not_there, subterm_is_spent, poly_is_not_there, poly_is_spent}
use Rattle.conclusion.specs.report_text.strategies.Conditions.{lpo_is_not_there, lpo_is_spent, kbo_is_not_there, kbo_is_spent, usable_is_not_there, usable_is_spent}
use Rattle.conclusion.specs.report_text.strategies.Conditions.{loop_is_not_there, loop_is_spent, parallel_is_not_there, strong_is_not_there, newman_is_not_there}
use Rattle.conclusion.specs.report_text.strategies.Conditions.{label_is_not_there, label_is_spent, fork_is_not_there, split_is_not_there}
use Rattle.text_determinism.specs.LoopLaws.{LoopAnswersExclude}
use Rattle.text_determinism.proofs.Graphs.{graph_not_failed}
use Rattle.text_determinism.proofs.Places.{subterm_exclude}
use Rattle.text_determinism.proofs.Orders.{order_exclude}
use Rattle.text_determinism.proofs.Usables.{usable_exclude}
use Rattle.text_determinism.proofs.Peaks.{on_one_list, not_found}
use Rattle.text_determinism.proofs.Joins.{parallel_not_failed, strong_not_failed, newman_not_failed}
use Rattle.text_determinism.proofs.Labels.{label_not_failed, label_not_spent, spent_not_failed}
use Rattle.text_determinism.proofs.Forks.{fork_not_failed}

module _ (system : System) (valid : IsValid system) (budget : ℕ) (loops : LoopAnswersExclude) where
  pub found_or_failed : {strategy : Strategy} {p : ProofProblem} {s : ProofStep} {failure : Failure} → Finds system budget strategy p s
      → Fails system budget strategy p failure → ⊥
  found_or_failed dp_is_found k = elim k [ ]
  found_or_failed confluence_is_found k = elim k [ ]
  found_or_failed newman_confluence_is_found k = elim k [ ]
  found_or_failed (graph_is_found {numbers = numbers} {items = a} h) (graph_is_not_there k) = graph_not_failed system numbers a h k
  found_or_failed (subterm_is_found {numbers = numbers} {projection = a} h) (subterm_is_not_there k) =
      (subterm_exclude system numbers budget a).not_there h k
  found_or_failed (subterm_is_found {numbers = numbers} {projection = a} h) (subterm_is_spent k) =
      (subterm_exclude system numbers budget a).spent h k
  found_or_failed (poly_is_found {numbers = numbers} {entries = a} h) (poly_is_not_there k) =
      (order_exclude system numbers budget (search_of poly_search system) (poly_entry system.arities) a).not_there h k
  found_or_failed (poly_is_found {numbers = numbers} {entries = a} h) (poly_is_spent k) =
      (order_exclude system numbers budget (search_of poly_search system) (poly_entry system.arities) a).spent h k
  found_or_failed (lpo_is_found {numbers = numbers} {entries = a} h) (lpo_is_not_there k) =
      (order_exclude system numbers budget (lpo_search system) (lpo_entry (arity_with_mark system.arities)) a).not_there h k
  found_or_failed (lpo_is_found {numbers = numbers} {entries = a} h) (lpo_is_spent k) =
      (order_exclude system numbers budget (lpo_search system) (lpo_entry (arity_with_mark system.arities)) a).spent h k
  found_or_failed (kbo_is_found {numbers = numbers} {entries = a} h) (kbo_is_not_there k) =
      (order_exclude system numbers budget (search_of kbo_search system) (kbo_entry system.arities) a).not_there h k
  found_or_failed (kbo_is_found {numbers = numbers} {entries = a} h) (kbo_is_spent k) =
      (order_exclude system numbers budget (search_of kbo_search system) (kbo_entry system.arities) a).spent h k
  found_or_failed (usable_is_found {numbers = numbers} {entries = a} h) (usable_is_not_there k) =
      (usable_exclude system numbers budget a).not_there h k
  found_or_failed (usable_is_found {numbers = numbers} {entries = a} h) (usable_is_spent k) =
      (usable_exclude system numbers budget a).spent h k
  found_or_failed (loop_is_found {start = start} {path = path} {place = place} h) (loop_is_not_there k) =
      (loops system budget start path place valid).not_there h k
  found_or_failed (loop_is_found {start = start} {path = path} {place = place} h) (loop_is_spent k) =
      (loops system budget start path place valid).spent h k
  found_or_failed (parallel_is_found {items = a} h) (parallel_is_not_there k) =
      not_found system valid.is_system (λ ps f g. parallel_not_failed system valid.is_system ps a f g) h k
  found_or_failed (strong_is_found {items = a} h) (strong_is_not_there k) =
      not_found system valid.is_system (λ ps f g. strong_not_failed system valid.is_system ps a f g) h k
  found_or_failed (label_is_found {ranks = ranks} {items = a} h) (label_is_not_there k) =
      not_found system valid.is_system (λ ps f g. label_not_failed system valid.is_system ps budget ranks a f g) h k
  found_or_failed (label_is_found {ranks = ranks} {items = a} h) (label_is_spent k) =
      let (peaks, f, g) = on_one_list system valid.is_system h k in
      label_not_spent system valid.is_system peaks budget ranks a f g
  found_or_failed (newman_is_found {items = a} h) (newman_is_not_there k) =
      not_found system valid.is_system (λ ps f g. newman_not_failed system valid.is_system ps a f g) h k
  found_or_failed (fork_is_found {fork = a} h) (fork_is_not_there k) =
      not_found system valid.is_system (λ ps f g. fork_not_failed AreApart system valid.is_system ps a f g) h k
  found_or_failed (split_is_found {fork = a} h) (split_is_not_there k) =
      not_found system valid.is_system (λ ps f g. fork_not_failed AreDifferentNormalForms system valid.is_system ps a f g) h k

  not_both : {strategy : Strategy} {p : ProofProblem} → Fails system budget strategy p NotThere → Fails system budget strategy p Spent → ⊥
  not_both (graph_is_not_there h) k = elim k [ ]
  not_both (parallel_is_not_there h) k = elim k [ ]
  not_both (strong_is_not_there h) k = elim k [ ]
  not_both (newman_is_not_there h) k = elim k [ ]
  not_both (fork_is_not_there h) k = elim k [ ]
  not_both (split_is_not_there h) k = elim k [ ]
  not_both (subterm_is_not_there {numbers = numbers} h) (subterm_is_spent k) = (subterm_exclude system numbers budget []).neither h k
  not_both (poly_is_not_there {numbers = numbers} h) (poly_is_spent k) =
      (order_exclude system numbers budget (search_of poly_search system) (poly_entry system.arities) []).neither h k
  not_both (lpo_is_not_there {numbers = numbers} h) (lpo_is_spent k) =
      (order_exclude system numbers budget (lpo_search system) (lpo_entry (arity_with_mark system.arities)) []).neither h k
  not_both (kbo_is_not_there {numbers = numbers} h) (kbo_is_spent k) =
      (order_exclude system numbers budget (search_of kbo_search system) (kbo_entry system.arities) []).neither h k
  not_both (usable_is_not_there {numbers = numbers} h) (usable_is_spent k) = (usable_exclude system numbers budget []).neither h k
  not_both (loop_is_not_there h) (loop_is_spent k) = (loops system budget (var 0) [] [] valid).neither h k
  not_both (label_is_not_there h) (label_is_spent k) =
      not_found system valid.is_system (λ ps f g. spent_not_failed system valid.is_system ps budget f g) k h

  pub one_reason : {strategy : Strategy} {p : ProofProblem} (failure other : Failure) → Fails system budget strategy p failure
      → Fails system budget strategy p other → failure ≡ other
  one_reason NotThere NotThere h k = refl
  one_reason Spent Spent h k = refl
  one_reason NotThere Spent h k = absurd (not_both h k)
  one_reason Spent NotThere h k = absurd (not_both k h)
