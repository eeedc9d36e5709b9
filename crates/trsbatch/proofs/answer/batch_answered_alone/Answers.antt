use Rattle.std.proofs.Common.{subst}
use Rattle.trsbatch.specs.Words.{batch_view}
use Rattle.trsbatch.specs.Answers.{IsListed}
use Rattle.trsbatch.proofs.FromLists.{listed_within, blocks_answer, refused_answer, missing_answer}
use Rattle.trsbatch.proofs.answer.batch_answered_alone.Goals as goal

pub blocks_alone-requires-after_bounds : goal.blocks_alone-requires-after_bounds
blocks_alone-requires-after_bounds g c κs within =
    listed_within c.args.batch.now.list.now (g.S.Shelf.means c.args.shelf.now) (g.S.Shelf.means c.fetch_list.new.shelf) c.in_ok-problems.field-0 c.in-Problems.problems
    c.deref.result.now c.in_ok-problems.ensures.listed c.in-Problems.is c.deref.ensures.value

pub returns-in_ok-text_of-in-Problems-clause-answer :
    goal.returns-in_ok-text_of-in-Problems-clause-answer
returns-in_ok-text_of-in-Problems-clause-answer g c =
    blocks_answer (batch_view c.args.batch.now) (g.S.Shelf.means c.args.shelf.now) (g.S.Shelf.means c.fetch_list.new.shelf) c.in_ok-problems.field-0 c.in-Problems.problems
    c.deref.result.now c.deref-in-Problems.result.now c.in_ok-blocks-in-Problems.blocks.items c.deref-in-Problems-2.result.now c.in_ok-text_of-in-Problems.field-0.items
    c.in_ok-problems.ensures.listed c.in-Problems.is c.deref.ensures.value c.deref-in-Problems.ensures.value c.deref-in-Problems-2.ensures.value
    c.in_ok-blocks-in-Problems.ensures c.in_ok-text_of-in-Problems.ensures

pub returns-in-Refused-clause-answer : goal.returns-in-Refused-clause-answer
returns-in-Refused-clause-answer g c =
    refused_answer (batch_view c.args.batch.now) (g.S.Shelf.means c.args.shelf.now) (g.S.Shelf.means c.fetch_list.new.shelf) c.in-Refused.line
    (subst (IsListed c.args.batch.now.list.now (g.S.Shelf.means c.args.shelf.now) (g.S.Shelf.means c.fetch_list.new.shelf)) c.in-Refused.is c.in_ok-problems.ensures.listed)

pub returns-in-Missing-clause-answer : goal.returns-in-Missing-clause-answer
returns-in-Missing-clause-answer g c =
    missing_answer (batch_view c.args.batch.now) (g.S.Shelf.means c.args.shelf.now) (g.S.Shelf.means c.fetch_list.new.shelf) c.in-Missing.unfetched
    (subst (IsListed c.args.batch.now.list.now (g.S.Shelf.means c.args.shelf.now) (g.S.Shelf.means c.fetch_list.new.shelf)) c.in-Missing.is c.in_ok-problems.ensures.listed)
