use Rattle.std.proofs.Common.{ℕ, Vec, Global, ap, Err, inl, inr, refl, subst, Some, IfOk, arith}
use Rattle.std.proofs.lemmas.Result.{IfOk-weaker}
use Rattle.command_line.specs.Request.{completes}
use Rattle.trsprove.specs.Output.{IsAnswer, AnswersOnly, as_equations}
use Rattle.trsprove.specs.Completions.{IsCompletion, most_order_bytes}
use Rattle.program_edge.specs.Fetching.{most_problem_bytes}
use Rattle.trsprove.specs.Answers.{status_of, text_of}
use Rattle.trsprove.proofs.Fetching.{fault_came, not_counted, rose_by_later, may_be_before, may_pass_before, unfetched_line}
use Rattle.trsprove.proofs.Equations.{fetched_completion, unfetched_only, completion_only, touched_first, second_fault, second_long, touched_both}
use Rattle.io_edge.proofs.AskingAgain.{once_again, twice_again}
use Rattle.trsprove.proofs.completing.complete.Goals as goal

pub returns-in-Ok-fetch : goal.returns-in-Ok-fetch
returns-in-Ok-fetch g c =
    let before = g.S.Shelf.means c.args.shelf.now in
    let middle = g.S.Shelf.means c.fetch.new.self in
    let now = g.S.Shelf.means c.fetch-in-Ok.new.self in
    let v = c.in-Ok.problem_text.items in
    let w = c.in-Ok-fetch.order_text.items in
    let budget = c.args.budget in
    record {
      answer = IfOk-weaker c.run_completion.result (λ a. IsCompletion v w budget (status_of a) (text_of a)) (λ a. IsAnswer (Some (completes c.args.problem.now c.args.order.now budget)) before now (status_of a) (text_of a))
          (λ a. fetched_completion c.args.problem.now c.args.order.now budget v w before middle now (status_of a) (text_of a) c.in-Ok.ensures.whole c.in-Ok.ensures.bound
          c.fetch.ensures.told c.in-Ok-fetch.ensures.whole c.in-Ok-fetch.ensures.bound)
          (subst (λ z. IfOk c.run_completion.result (λ a. IsCompletion v z budget (status_of a) (text_of a))) c.deref-in-Ok-fetch.ensures.value
          (subst (λ z. IfOk c.run_completion.result (λ a. IsCompletion z c.deref-in-Ok-fetch.result.now budget (status_of a) (text_of a))) c.deref.ensures.value c.run_completion.ensures));
      only = IfOk-weaker c.run_completion.result (λ a. IsCompletion v w budget (status_of a) (text_of a)) (λ a. AnswersOnly (Some (completes c.args.problem.now c.args.order.now budget)) before (status_of a))
          (λ a. completion_only before c.args.problem.now c.args.order.now budget v w c.in-Ok.ensures.whole
          (may_be_before before middle c.args.order.now w c.fetch.ensures.told c.in-Ok-fetch.ensures.whole) c.in-Ok.ensures.bound c.in-Ok-fetch.ensures.bound (status_of a) (text_of a))
          (subst (λ z. IfOk c.run_completion.result (λ a. IsCompletion v z budget (status_of a) (text_of a))) c.deref-in-Ok-fetch.ensures.value
          (subst (λ z. IfOk c.run_completion.result (λ a. IsCompletion z c.deref-in-Ok-fetch.result.now budget (status_of a) (text_of a))) c.deref.ensures.value c.run_completion.ensures));
      untouched = touched_both c.args.problem.now c.args.order.now c.args.budget c.in-Ok.problem_text.items (g.S.Shelf.means c.args.shelf.now) (g.S.Shelf.means c.fetch.new.self)
          (g.S.Shelf.means c.fetch-in-Ok.new.self) c.in-Ok.ensures.whole c.in-Ok.ensures.bound c.in-Ok.ensures.counted c.fetch-in-Ok.ensures.faults c.fetch.ensures.read
          c.fetch-in-Ok.ensures.read;
      again = twice_again before middle now (once_again before middle c.args.problem.now c.fetch.ensures.told c.fetch.ensures.faults c.fetch.ensures.read)
          (once_again middle now c.args.order.now c.fetch-in-Ok.ensures.told c.fetch-in-Ok.ensures.faults c.fetch-in-Ok.ensures.read);
    }

pub returns-in-Ok : goal.returns-in-Ok
returns-in-Ok g c =
    let before = g.S.Shelf.means c.args.shelf.now in
    let middle = g.S.Shelf.means c.fetch.new.self in
    let now = g.S.Shelf.means c.fetch-in-Ok.new.self in
    let p = c.args.problem.now in
    let d = c.args.order.now in
    let budget = c.args.budget in
    let request = Some (completes p d budget) in
    let fault = c.in-Err-fetch.fault in
    record {
      answer = IfOk-weaker c.not_fetched.result _ (λ a. IsAnswer request before now (status_of a) (text_of a))
          (λ a is. unfetched_line request before now d fault (status_of a) (text_of a) is
          (λ e. second_fault p d budget c.in-Ok.problem_text.items before middle now c.in-Ok.ensures.whole c.in-Ok.ensures.bound c.in-Ok.ensures.counted c.fetch-in-Ok.ensures.faults
          (fault_came (Vec ℕ Global) fault before.faults middle.faults now.faults d (c.fetch.ensures.faults.later d) c.in-Err-fetch.ensures.counted e))
          (λ e. second_long p d budget c.in-Ok.problem_text.items before middle now c.in-Ok.ensures.whole c.in-Ok.ensures.bound c.in-Ok.ensures.counted
          (not_counted (Vec ℕ Global) fault middle.faults now.faults d c.in-Err-fetch.ensures.counted e)
          (may_pass_before most_order_bytes before middle d c.fetch.ensures.told (c.in-Err-fetch.ensures.too_long (ap Err e)))
          (rose_by_later 1048577 (before.bytes d) (middle.bytes d) (now.bytes d) (c.fetch.ensures.read.later d) (c.in-Err-fetch.ensures.long (ap Err e)))))
          c.not_fetched.ensures;
      only = IfOk-weaker c.not_fetched.result _ (λ a. AnswersOnly (Some (completes p d budget)) before (status_of a))
          (λ a is. unfetched_only before p d budget d c.in-Err-fetch.fault (status_of a) (text_of a) is
          (λ e. inr (may_pass_before most_order_bytes before middle d c.fetch.ensures.told (c.in-Err-fetch.ensures.too_long (ap Err e)))))
          c.not_fetched.ensures;
      untouched = touched_both c.args.problem.now c.args.order.now c.args.budget c.in-Ok.problem_text.items (g.S.Shelf.means c.args.shelf.now) (g.S.Shelf.means c.fetch.new.self)
          (g.S.Shelf.means c.fetch-in-Ok.new.self) c.in-Ok.ensures.whole c.in-Ok.ensures.bound c.in-Ok.ensures.counted c.fetch-in-Ok.ensures.faults c.fetch.ensures.read
          c.fetch-in-Ok.ensures.read;
      again = twice_again before middle now (once_again before middle c.args.problem.now c.fetch.ensures.told c.fetch.ensures.faults c.fetch.ensures.read)
          (once_again middle now c.args.order.now c.fetch-in-Ok.ensures.told c.fetch-in-Ok.ensures.faults c.fetch-in-Ok.ensures.read);
    }

pub returns : goal.returns
returns g c =
    let before = g.S.Shelf.means c.args.shelf.now in
    let now = g.S.Shelf.means c.fetch.new.self in
    let p = c.args.problem.now in
    let d = c.args.order.now in
    let budget = c.args.budget in
    let request = Some (completes p d budget) in
    let fault = c.in-Err.fault in
    record {
      answer = IfOk-weaker c.not_fetched-in-Err.result _ (λ a. IsAnswer request before now (status_of a) (text_of a))
          (λ a is. unfetched_line request before now p fault (status_of a) (text_of a) is
          (λ e. (most_problem_bytes, as_equations p d budget refl, fault_came (Vec ℕ Global) fault before.faults before.faults now.faults p (omega arith) c.in-Err.ensures.counted e))
          (λ e. (most_problem_bytes, as_equations p d budget refl, c.in-Err.ensures.too_long (ap Err e), c.in-Err.ensures.long (ap Err e))))
          c.not_fetched-in-Err.ensures;
      only = IfOk-weaker c.not_fetched-in-Err.result _ (λ a. AnswersOnly (Some (completes p d budget)) before (status_of a))
          (λ a is. unfetched_only before p d budget p c.in-Err.fault (status_of a) (text_of a) is (λ e. inl (c.in-Err.ensures.too_long (ap Err e))))
          c.not_fetched-in-Err.ensures;
      untouched = touched_first c.args.problem.now c.args.order.now c.args.budget (g.S.Shelf.means c.args.shelf.now) (g.S.Shelf.means c.fetch.new.self) c.fetch.ensures.faults
          c.fetch.ensures.read;
      again = once_again (g.S.Shelf.means c.args.shelf.now) (g.S.Shelf.means c.fetch.new.self) c.args.problem.now c.fetch.ensures.told c.fetch.ensures.faults c.fetch.ensures.read;
    }
