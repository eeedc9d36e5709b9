use Rattle.cert_step.proofs.apply.check_kind.Goals as goal

pub returns-in-Parallel-clause-answers : goal.returns-in-Parallel-clause-answers
returns-in-Parallel-clause-answers c = rw c.in-Parallel.is (rw c.deref-in-Parallel.ensures.value at c.apply_parallel.ensures)

pub returns-in-Graph-clause-answers : goal.returns-in-Graph-clause-answers
returns-in-Graph-clause-answers c = rw (c.in-Graph.is, c.pairs.ensures) (rw c.deref.ensures.value at c.apply_graph.ensures.answers)
