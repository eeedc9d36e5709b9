use Rattle.std.proofs.Common.{arith}
use Rattle.assign_search.proofs.Continuing.{continues_itself, continues_on}
use Rattle.loop_find.proofs.LinkLists.{closure_of_number}
use Rattle.loop_find.proofs.Walked.{walk_begins, walks_on, found_here, spent_here, falls, not_there, just_spent}
use Rattle.loop_find.proofs.loops.find_loop.Goals as goal

pub loop-next-init : goal.loop-next-init
loop-next-init g c = record {
  walked = walk_begins c.args.trs.now.rules c.in_ok-closures.closures c.in_ok-closures.ensures.rules c.in_ok-closures.ensures.attempts (rw c.in_default.is at c.in_ok-found.ensures);
  sound = c.in_ok-closures.ensures.sound;
  within = omega (arith, c.in_ok-closures.ensures.attempts);
  copies = c.in_ok-closures.ensures.copies;
  continues = continues_itself g.P.Stop c.args.stop.now;
}

pub expand-requires-clause-rules : goal.expand-requires-clause-rules
expand-requires-clause-rules g c = (c.loop-next.invariant.walked.made, c.loop-next.invariant.walked.listed)

pub returns-in-Found-clause-answer : goal.returns-in-Found-clause-answer
returns-in-Found-clause-answer g c =
    let here = closure_of_number c.loop-next.closures c.loop-next.next (omega (arith, c.loop-next-test.true, c.len.ensures, c.loop-next.closures.links.ok.0)) in
    found_here c.args.trs.now.rules c.loop-next.next c.loop-next.closures c.expand.new.closures here.0 c.loop-next.invariant.walked here.1 c.args.budget c.in-Found.found
    ((rw c.in-Found.is at c.in_ok-expand.ensures.turn) here.0 here.1)

pub returns-in-Spent-clause-answer : goal.returns-in-Spent-clause-answer
returns-in-Spent-clause-answer g c =
    let here = closure_of_number c.loop-next.closures c.loop-next.next (omega (arith, c.loop-next-test.true, c.len.ensures, c.loop-next.closures.links.ok.0)) in
    spent_here c.args.trs.now.rules c.loop-next.next c.loop-next.closures c.expand.new.closures here.0 c.loop-next.invariant.walked here.1 c.args.budget
    ((rw c.in-Spent.is at c.in_ok-expand.ensures.turn) here.0 here.1)

pub returns-in-Stopped-clause-answer : goal.returns-in-Stopped-clause-answer
returns-in-Stopped-clause-answer g c =
    let here = closure_of_number c.loop-next.closures c.loop-next.next (omega (arith, c.loop-next-test.true, c.len.ensures, c.loop-next.closures.links.ok.0)) in
    let rose = (rw c.in-Stopped.is at c.in_ok-expand.ensures.turn) here.0 here.1 in
    omega (arith, rose, c.loop-next.invariant.continues.later)

pub loop-next-smaller : goal.loop-next-smaller
loop-next-smaller g c =
    let here = closure_of_number c.loop-next.closures c.loop-next.next (omega (arith, c.loop-next-test.true, c.len.ensures, c.loop-next.closures.links.ok.0)) in
    falls c.args.trs.now.rules c.loop-next.next c.loop-next.closures c.expand.new.closures here.0 c.loop-next.invariant.walked here.1 c.args.budget (omega (arith, c.loop-next-test.true, c.len.ensures, c.loop-next.closures.links.ok.0)) c.loop-next.invariant.within
    ((rw c.in-Next.is at c.in_ok-expand.ensures.turn) here.0 here.1)

pub loop-next-preserved : goal.loop-next-preserved
loop-next-preserved g c =
    let here = closure_of_number c.loop-next.closures c.loop-next.next (omega (arith, c.loop-next-test.true, c.len.ensures, c.loop-next.closures.links.ok.0)) in
    record {
      walked = walks_on c.args.trs.now.rules c.loop-next.next c.loop-next.closures c.expand.new.closures here.0 c.loop-next.invariant.walked here.1 c.args.budget
          ((rw c.in-Next.is at c.in_ok-expand.ensures.turn) here.0 here.1);
      sound = c.in_ok-expand.ensures.sound;
      within = c.in_ok-expand.ensures.within;
      copies = c.in_ok-expand.ensures.copies;
      continues = continues_on c.loop-next.invariant.continues c.expand.ensures.continues;
    }

pub returns-then-closures-budget-clause-answer : goal.returns-then-closures-budget-clause-answer
returns-then-closures-budget-clause-answer g c =
    just_spent c.args.trs.now.rules c.loop-next.next c.loop-next.closures c.loop-next.invariant.walked (omega (arith, c.loop-next-test.false, c.len.ensures, c.loop-next.closures.links.ok.0)) c.args.budget c.loop-next.invariant.within c.if-closures-budget.true

pub returns-clause-answer : goal.returns-clause-answer
returns-clause-answer g c =
    not_there c.args.trs.now.rules c.loop-next.next c.loop-next.closures c.loop-next.invariant.walked (omega (arith, c.loop-next-test.false, c.len.ensures, c.loop-next.closures.links.ok.0)) c.args.budget c.if-closures-budget.false
