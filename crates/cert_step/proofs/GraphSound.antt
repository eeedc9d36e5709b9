-- The kind `graph` is sound.
use Rattle.std.specs.Prelude.{◌<◌, ℕ, List, [], ◌∷◌, length}
use Rattle.std.specs.List.{AllByRecursion}
use Rattle.std.specs.List.Sorted.{IsStrictlyIncreasing}
use Rattle.std.proofs.Common.{inl, inr, sym, subst}
use Rattle.std.proofs.lemmas.List.Elements.{All-from_recursion, recursion_from_All}
use Rattle.trs_defs.specs.Member.{In, in_first, in_rest}
use Rattle.trs_defs.proofs.Members.{no_in, in_or}
use Rattle.trs_defs.specs.System.{System}
use Rattle.pair_theory.specs.DependencyPair.{dependency_pairs}
use Rattle.dp_graph.specs.dp_core.Laws.{IsFiniteOf}
use Rattle.dp_graph.specs.GroupOrSingle.{GroupOrSingle, group, single, groups_of}
use Rattle.dp_graph.proofs.Concluding.{graph_concludes, graph_once, groups_of_problem}
use Rattle.cert_step.specs.ProofProblem as problem
use Rattle.cert_step.specs.ProofProblem.{IsWellMadeProblem}
use Rattle.cert_step.specs.Subproblems.{AllHold, AreWellMadeProblems}
use Rattle.cert_step.specs.Kind.{IsSound}
use Rattle.cert_step.specs.GraphKind.{IsGraphItem, group_problems, graph_kind}
use Rattle.cert_step.proofs.PairsSound.{pairs_sound}

groups_hold : (system : System) (groups : List (List ℕ)) → AllHold system (group_problems groups) → (g : List ℕ) → In g groups → IsFiniteOf system g
groups_hold system [] each g i = absurd (no_in i)
groups_hold system (h ∷ groups) each g i = elim (in_or i) [ inl e ↦ subst (IsFiniteOf system) (sym e) each.0 | inr j ↦ groups_hold system groups each.1 g j ]

groups_ascend : (items : List GroupOrSingle) → AllByRecursion IsGraphItem items → (g : List ℕ) → In g (groups_of items) → IsStrictlyIncreasing g
groups_ascend [] made g i = absurd (no_in i)
groups_ascend (group members ∷ items) made g i =
    elim (in_or i) [ inl e ↦ subst IsStrictlyIncreasing (sym e) made.0.1 | inr j ↦ groups_ascend items made.1 g j ]
groups_ascend (single member ∷ items) made g i = groups_ascend items made.1 g i

member_holds : (P : ℕ → Type 0) (xs : List ℕ) → AllByRecursion P xs → (x : ℕ) → In x xs → P x
member_holds P [] all x i = absurd (no_in i)
member_holds P (y ∷ xs) all x i = elim (in_or i) [ inl e ↦ subst P (sym e) all.0 | inr j ↦ member_holds P xs all.1 x j ]

each_member : (P : ℕ → Type 0) (xs : List ℕ) → ((x : ℕ) → In x xs → P x) → AllByRecursion P xs
each_member P [] h = tt
each_member P (x ∷ xs) h = (h x in_first, each_member P xs (λ y i. h y (in_rest i)))

groups_well_made : (system : System) (numbers : List ℕ) (groups : List (List ℕ)) → IsWellMadeProblem system (problem.dp numbers)
    → ((g : List ℕ) → In g groups → IsStrictlyIncreasing g) → ((g : List ℕ) (n : ℕ) → In g groups → In n g → In n numbers)
    → AreWellMadeProblems system (group_problems groups)
groups_well_made system numbers [] well ascend among = tt
groups_well_made system numbers (g ∷ groups) well ascend among =
    let Below : ℕ → Type 0 = λ n. n < length (dependency_pairs system.rules) in
    let below = recursion_from_All Below numbers well.1 in (
      (ascend g in_first, All-from_recursion Below g (each_member Below g (λ n i. member_holds Below numbers below n (among g n in_first i)))),
      groups_well_made system numbers groups well (λ h i. ascend h (in_rest i)) (λ h n i j. among h n (in_rest i) j),
    )

pub graph_sound : (items : List GroupOrSingle) → IsSound (graph_kind items)
graph_sound items = pairs_sound _ _ _ (record {
  one_answer = λ system numbers. graph_once system.rules (dependency_pairs system.rules) numbers items;
  concludes = λ system numbers groups valid keeps h each. graph_concludes system numbers items groups valid h (groups_hold system groups each);
  well_made = λ system numbers groups keeps h well.
      let are = groups_of_problem system.rules (dependency_pairs system.rules) numbers items groups h in
      groups_well_made system numbers groups well (λ g i. groups_ascend items keeps g (subst (λ gs. In g gs) are.0 i)) are.1;
})
