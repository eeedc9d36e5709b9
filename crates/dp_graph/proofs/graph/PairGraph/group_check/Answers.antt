use Rattle.std.proofs.lemmas.Result.{err_from_is_err_and}
use Rattle.pair_theory.specs.DependencyPair.{dependency_pairs}
use Rattle.dp_graph.specs.GroupOrSingle.{items_of, all_members}
use Rattle.dp_graph.specs.GraphConditions.{lists_of}
use Rattle.dp_graph.proofs.GraphAnswers.{members_refuse, missing_refuse, onward_refuses, selves_refuse, all_hold}
use Rattle.dp_graph.proofs.graph.PairGraph.group_check.Goals as goal

pub returns-in_err-name_all : goal.returns-in_err-name_all
returns-in_err-name_all c =
    let p = err_from_is_err_and c.from_residual-in_err-name_all.result c.from_residual-in_err-name_all.ensures.1 in
    let g = c.args.self.now in
    record {
      answers = rw (p.1, p.2) (members_refuse g.rules (dependency_pairs g.rules) c.args.problem.now (items_of c.args.items.now) c.in_err-name_all.field-0.0
          (c.in_err-name_all.ensures.answers c.args.problem.now c.in_ok-left.ensures));
    }

pub returns-in_err-none_left : goal.returns-in_err-none_left
returns-in_err-none_left c =
    let p = err_from_is_err_and c.from_residual-in_err-none_left.result c.from_residual-in_err-none_left.ensures.1 in
    let g = c.args.self.now in
    let numbers = c.args.problem.now in
    let items = items_of c.args.items.now in
    record {
      answers = rw (p.1, p.2) (missing_refuse g.rules (dependency_pairs g.rules) numbers items (c.in_ok-name_all.ensures.answers numbers c.in_ok-left.ensures) c.in_err-none_left.field-0.0
          (c.in_err-none_left.ensures numbers (all_members items) (c.in_ok-name_all.ensures.left numbers c.in_ok-left.ensures)));
    }

pub returns-in_err-onward_check : goal.returns-in_err-onward_check
returns-in_err-onward_check c =
    let p = err_from_is_err_and c.from_residual-in_err-onward_check.result c.from_residual-in_err-onward_check.ensures.1 in
    let g = c.args.self.now in
    let numbers = c.args.problem.now in
    let items = items_of c.args.items.now in
    record {
      answers = rw (p.1, p.2) (onward_refuses g.rules (dependency_pairs g.rules) numbers items (c.in_ok-name_all.ensures.answers numbers c.in_ok-left.ensures)
          (c.in_ok-none_left.ensures numbers (all_members items) (c.in_ok-name_all.ensures.left numbers c.in_ok-left.ensures)) c.in_err-onward_check.field-0.0 c.in_err-onward_check.ensures);
    }

pub returns-in_err-singles_check : goal.returns-in_err-singles_check
returns-in_err-singles_check c =
    let p = err_from_is_err_and c.from_residual-in_err-singles_check.result c.from_residual-in_err-singles_check.ensures.1 in
    let g = c.args.self.now in
    let numbers = c.args.problem.now in
    let items = items_of c.args.items.now in
    record {
      answers = rw (p.1, p.2) (selves_refuse g.rules (dependency_pairs g.rules) numbers items (c.in_ok-name_all.ensures.answers numbers c.in_ok-left.ensures)
          (c.in_ok-none_left.ensures numbers (all_members items) (c.in_ok-name_all.ensures.left numbers c.in_ok-left.ensures)) c.in_ok-onward_check.ensures c.in_err-singles_check.field-0.0
          c.in_err-singles_check.ensures);
    }

pub returns : goal.returns
returns c =
    let g = c.args.self.now in
    let numbers = c.args.problem.now in
    let items = items_of c.args.items.now in
    record {
      answers = all_hold g.rules (dependency_pairs g.rules) numbers items (c.in_ok-name_all.ensures.answers numbers c.in_ok-left.ensures)
          (c.in_ok-none_left.ensures numbers (all_members items) (c.in_ok-name_all.ensures.left numbers c.in_ok-left.ensures)) c.in_ok-onward_check.ensures
          (lists_of c.in_ok-groups.field-0.items) c.in_ok-groups.ensures c.in_ok-singles_check.ensures;
    }
