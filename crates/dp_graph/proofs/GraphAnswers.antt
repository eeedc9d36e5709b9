-- The conditions of a step by the graph, one after another.
use Rattle.std.specs.Prelude.{◌≡◌, ℕ, List, Ok}
use Rattle.trs_defs.specs.System.{RewriteRule}
use Rattle.pair_theory.specs.DependencyPair.{DependencyPair}
use Rattle.rewrite_core.specs.declared.checks.refusals.CheckFault.{CheckFault}
use Rattle.rewrite_core.specs.Check.{Refuses, returned, goes_on}
use Rattle.rewrite_core.proofs.Answering.{refused_first, refused_later}
use Rattle.std.proofs.Common.{sym, subst}
use Rattle.dp_graph.specs.GroupOrSingle.{GroupOrSingle, all_members, singles_of, groups_of}
use Rattle.dp_graph.specs.GraphConditions.{are_members, none_is_missing, lead_onward, have_no_self_edge, graph_conditions}

module _ (rules : List RewriteRule) (all : List DependencyPair) (numbers : List ℕ) (items : List GroupOrSingle) where
  pub members_refuse : (fault : CheckFault) → Refuses (are_members numbers (all_members items)) fault → Refuses (graph_conditions rules all numbers items) fault
  members_refuse fault h = refused_first (are_members numbers (all_members items)) _ fault h

  module _ (members : are_members numbers (all_members items) (Ok tt)) where
    pub missing_refuse : (fault : CheckFault) → Refuses (none_is_missing numbers (all_members items)) fault → Refuses (graph_conditions rules all numbers items) fault
    missing_refuse fault h =
        refused_later (are_members numbers (all_members items)) _ fault tt members (refused_first (none_is_missing numbers (all_members items)) _ fault h)

    module _ (none : none_is_missing numbers (all_members items) (Ok tt)) where
      pub onward_refuses : (fault : CheckFault) → Refuses (lead_onward rules all items) fault → Refuses (graph_conditions rules all numbers items) fault
      onward_refuses fault h =
          refused_later (are_members numbers (all_members items)) _ fault tt members
          (refused_later (none_is_missing numbers (all_members items)) _ fault tt none (refused_first (lead_onward rules all items) _ fault h))

      module _ (onward : lead_onward rules all items (Ok tt)) where
        pub selves_refuse : (fault : CheckFault) → Refuses (have_no_self_edge rules all (singles_of items)) fault → Refuses (graph_conditions rules all numbers items) fault
        selves_refuse fault h =
            refused_later (are_members numbers (all_members items)) _ fault tt members
            (refused_later (none_is_missing numbers (all_members items)) _ fault tt none
            (refused_later (lead_onward rules all items) _ fault tt onward (refused_first (have_no_self_edge rules all (singles_of items)) _ fault h)))

        pub all_hold : (groups : List (List ℕ)) → groups ≡ groups_of items → have_no_self_edge rules all (singles_of items) (Ok tt) → graph_conditions rules all numbers items (Ok groups)
        all_hold groups e selves =
            subst (λ g. graph_conditions rules all numbers items (Ok g)) (sym e) (goes_on tt _ members (goes_on tt _ none (goes_on tt _ onward (goes_on tt _ selves returned))))
