use Rattle.std.proofs.Common.{◌+◌, ◌∙◌, drop, sym, ap}
use Rattle.sexp_core.specs.Items.{view, views}
use Rattle.sexp_core.proofs.Viewing.{view_word}
use Rattle.term_text.specs.Limits.{nodes_left, nodes_of, nodes_of_all}
use Rattle.names_text.proofs.Loops.{one_more}
use Rattle.term_text.proofs.NodesLeft.{nodes_left_sum}
use Rattle.term_text.proofs.limits.+nodes.Goals as goal
use Rattle.term_text.proofs.limits.+nodes.Goals.{nodes_left_behind_all-in-Word, nodes_left_behind_all-in-List}

pub nodes_left_behind_all-loop-term-preserved : goal.nodes_left_behind_all-loop-term-preserved
nodes_left_behind_all-loop-term-preserved t c =
    let room = c.loop-term.room in
    let term = c.term-item.result in
    let more = nodes_of_all (views (drop (c.loop-term.term-index + 1) c.args.terms.now)) in
    let whole =
    sym (nodes_left_sum (nodes_of (view term)) more room)
    ∙ one_more (λ xs. nodes_left (nodes_of_all (views xs)) room) c.args.terms.now c.loop-term.term-index term c.loop-term-test.true c.term-item.is
    ∙ c.loop-term.invariant in
    elim c.match-term.branch [
      | nodes_left_behind_all-in-Word w ↦
          rw (w.room-is, w.node_left_behind-room.ensures)
          (sym (ap (λ x. nodes_left more (nodes_left (nodes_of x) room)) (ap view w.in-Word.is ∙ view_word w.in-Word.field-0 w.in-Word.field-1)) ∙ whole)
      | nodes_left_behind_all-in-List w ↦ rw (w.room-is, w.nodes_left_behind-room.ensures) whole
    ]
