use Rattle.std.proofs.Common.{ℕ, Vec, Global, ap, Err, inl, inr, refl, subst, Some, IfOk, arith}
use Rattle.std.proofs.lemmas.Result.{IfOk-weaker}
use Rattle.command_line.specs.Request.{certifies}
use Rattle.trsprove.specs.Output.{IsAnswer, AnswersOnly, as_problem}
use Rattle.trsprove.specs.Verdicts.{Verdict, most_certificate_bytes}
use Rattle.program_edge.specs.Fetching.{most_problem_bytes}
use Rattle.trsprove.specs.Answers.{status_of, text_of}
use Rattle.trsprove.proofs.Fetching.{fault_came, not_counted, rose_by_later, may_be_before, may_pass_before, unfetched_line, fetched_text, touched_first, second_fault, second_long, touched_both}
use Rattle.trsprove.proofs.Answering.{unfetched_only, verdict_only}
use Rattle.io_edge.proofs.AskingAgain.{once_again, twice_again}
use Rattle.trsprove.proofs.certifying.certify.Goals as goal

pub returns-in-Ok-fetch : goal.returns-in-Ok-fetch
returns-in-Ok-fetch g c =
    let before = g.S.Shelf.means c.args.shelf.now in
    let middle = g.S.Shelf.means c.fetch.new.self in
    let now = g.S.Shelf.means c.fetch-in-Ok.new.self in
    let v = c.in-Ok.problem_text.items in
    let w = c.in-Ok-fetch.certificate_text.items in
    let wanted = c.args.wanted in
    record {
      answer = IfOk-weaker c.judge.result (λ a. Verdict v w wanted (status_of a) (text_of a)) (λ a. IsAnswer (Some (certifies wanted c.args.problem.now c.args.certificate.now)) before now (status_of a) (text_of a))
          (λ a. fetched_text wanted c.args.problem.now c.args.certificate.now v w before middle now (status_of a) (text_of a) c.in-Ok.ensures.whole c.in-Ok.ensures.bound
          c.fetch.ensures.told c.in-Ok-fetch.ensures.whole c.in-Ok-fetch.ensures.bound)
          (subst (λ z. IfOk c.judge.result (λ a. Verdict v z wanted (status_of a) (text_of a))) c.deref-in-Ok-fetch.ensures.value
          (subst (λ z. IfOk c.judge.result (λ a. Verdict z c.deref-in-Ok-fetch.result.now wanted (status_of a) (text_of a))) c.deref.ensures.value c.judge.ensures));
      only = IfOk-weaker c.judge.result (λ a. Verdict v w wanted (status_of a) (text_of a)) (λ a. AnswersOnly (Some (certifies wanted c.args.problem.now c.args.certificate.now)) before (status_of a))
          (λ a. verdict_only before wanted c.args.problem.now c.args.certificate.now v w c.in-Ok.ensures.whole
          (may_be_before before middle c.args.certificate.now w c.fetch.ensures.told c.in-Ok-fetch.ensures.whole) c.in-Ok.ensures.bound c.in-Ok-fetch.ensures.bound (status_of a) (text_of a))
          (subst (λ z. IfOk c.judge.result (λ a. Verdict v z wanted (status_of a) (text_of a))) c.deref-in-Ok-fetch.ensures.value
          (subst (λ z. IfOk c.judge.result (λ a. Verdict z c.deref-in-Ok-fetch.result.now wanted (status_of a) (text_of a))) c.deref.ensures.value c.judge.ensures));
      untouched = touched_both c.args.wanted c.args.problem.now c.args.certificate.now c.in-Ok.problem_text.items (g.S.Shelf.means c.args.shelf.now) (g.S.Shelf.means c.fetch.new.self)
          (g.S.Shelf.means c.fetch-in-Ok.new.self) c.in-Ok.ensures.whole c.in-Ok.ensures.bound c.in-Ok.ensures.counted c.fetch-in-Ok.ensures.faults c.fetch.ensures.read
          c.fetch-in-Ok.ensures.read;
      again = twice_again before middle now (once_again before middle c.args.problem.now c.fetch.ensures.told c.fetch.ensures.faults c.fetch.ensures.read)
          (once_again middle now c.args.certificate.now c.fetch-in-Ok.ensures.told c.fetch-in-Ok.ensures.faults c.fetch-in-Ok.ensures.read);
    }

pub returns-in-Ok : goal.returns-in-Ok
returns-in-Ok g c =
    let before = g.S.Shelf.means c.args.shelf.now in
    let middle = g.S.Shelf.means c.fetch.new.self in
    let now = g.S.Shelf.means c.fetch-in-Ok.new.self in
    let p = c.args.problem.now in
    let d = c.args.certificate.now in
    let wanted = c.args.wanted in
    let request = Some (certifies wanted p d) in
    let fault = c.in-Err-fetch.fault in
    record {
      answer = IfOk-weaker c.not_fetched.result _ (λ a. IsAnswer request before now (status_of a) (text_of a))
          (λ a is. unfetched_line request before now d fault (status_of a) (text_of a) is
          (λ e. second_fault wanted p d c.in-Ok.problem_text.items before middle now c.in-Ok.ensures.whole c.in-Ok.ensures.bound c.in-Ok.ensures.counted c.fetch-in-Ok.ensures.faults
          (fault_came (Vec ℕ Global) fault before.faults middle.faults now.faults d (c.fetch.ensures.faults.later d) c.in-Err-fetch.ensures.counted e))
          (λ e. second_long wanted p d c.in-Ok.problem_text.items before middle now c.in-Ok.ensures.whole c.in-Ok.ensures.bound c.in-Ok.ensures.counted
          (not_counted (Vec ℕ Global) fault middle.faults now.faults d c.in-Err-fetch.ensures.counted e)
          (may_pass_before most_certificate_bytes before middle d c.fetch.ensures.told (c.in-Err-fetch.ensures.too_long (ap Err e)))
          (rose_by_later 8388609 (before.bytes d) (middle.bytes d) (now.bytes d) (c.fetch.ensures.read.later d) (c.in-Err-fetch.ensures.long (ap Err e)))))
          c.not_fetched.ensures;
      only = IfOk-weaker c.not_fetched.result _ (λ a. AnswersOnly (Some (certifies wanted p d)) before (status_of a))
          (λ a is. unfetched_only before wanted p d d c.in-Err-fetch.fault (status_of a) (text_of a) is
          (λ e. inr (may_pass_before most_certificate_bytes before middle d c.fetch.ensures.told (c.in-Err-fetch.ensures.too_long (ap Err e)))))
          c.not_fetched.ensures;
      untouched = touched_both c.args.wanted c.args.problem.now c.args.certificate.now c.in-Ok.problem_text.items (g.S.Shelf.means c.args.shelf.now) (g.S.Shelf.means c.fetch.new.self)
          (g.S.Shelf.means c.fetch-in-Ok.new.self) c.in-Ok.ensures.whole c.in-Ok.ensures.bound c.in-Ok.ensures.counted c.fetch-in-Ok.ensures.faults c.fetch.ensures.read
          c.fetch-in-Ok.ensures.read;
      again = twice_again before middle now (once_again before middle c.args.problem.now c.fetch.ensures.told c.fetch.ensures.faults c.fetch.ensures.read)
          (once_again middle now c.args.certificate.now c.fetch-in-Ok.ensures.told c.fetch-in-Ok.ensures.faults c.fetch-in-Ok.ensures.read);
    }

pub returns : goal.returns
returns g c =
    let before = g.S.Shelf.means c.args.shelf.now in
    let now = g.S.Shelf.means c.fetch.new.self in
    let p = c.args.problem.now in
    let d = c.args.certificate.now in
    let wanted = c.args.wanted in
    let request = Some (certifies wanted p d) in
    let fault = c.in-Err.fault in
    record {
      answer = IfOk-weaker c.not_fetched-in-Err.result _ (λ a. IsAnswer request before now (status_of a) (text_of a))
          (λ a is. unfetched_line request before now p fault (status_of a) (text_of a) is
          (λ e. (most_problem_bytes, as_problem wanted p d refl, fault_came (Vec ℕ Global) fault before.faults before.faults now.faults p (omega arith) c.in-Err.ensures.counted e))
          (λ e. (most_problem_bytes, as_problem wanted p d refl, c.in-Err.ensures.too_long (ap Err e), c.in-Err.ensures.long (ap Err e))))
          c.not_fetched-in-Err.ensures;
      only = IfOk-weaker c.not_fetched-in-Err.result _ (λ a. AnswersOnly (Some (certifies wanted p d)) before (status_of a))
          (λ a is. unfetched_only before wanted p d p c.in-Err.fault (status_of a) (text_of a) is (λ e. inl (c.in-Err.ensures.too_long (ap Err e))))
          c.not_fetched-in-Err.ensures;
      untouched = touched_first c.args.wanted c.args.problem.now c.args.certificate.now (g.S.Shelf.means c.args.shelf.now) (g.S.Shelf.means c.fetch.new.self) c.fetch.ensures.faults
          c.fetch.ensures.read;
      again = once_again (g.S.Shelf.means c.args.shelf.now) (g.S.Shelf.means c.fetch.new.self) c.args.problem.now c.fetch.ensures.told c.fetch.ensures.faults c.fetch.ensures.read;
    }
