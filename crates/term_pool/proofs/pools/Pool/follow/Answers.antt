use Rattle.std.proofs.Common.{◌≡◌, ap, ◌∙◌, sym, subst, refl, IfSome, arith, Some}
use Rattle.trs_defs.specs.Path.{PlacedRule, StepsAt}
use Rattle.trs_defs.proofs.Limits.{limits_size}
use Rattle.term_pool.specs.Pooled.{Extends, tree_at}
use Rattle.term_pool.proofs.PoolTrees.{stands}
use Rattle.term_pool.proofs.Extending.{same_tree_at, extends_on, kept_cut}
use Rattle.term_pool.proofs.OutlineLaws.{outlines_on}
use Rattle.term_pool.proofs.PathLemmas.{StaysBy, read_step, one_more_step, faulty, rest_of_path, no_stop, all_steps, no_steps_left}
use Rattle.term_pool.proofs.pools.Pool.follow.Goals.{In_ok-same, Joined-next-same, then-next-same, else-next-same}
use Rattle.term_pool.proofs.pools.Pool.follow.Goals as goal

kept : (c : In_ok-same) → Extends c.args.self.now c.carry_over.new.self
kept c = kept_cut c.args.self.now c.loop-k.self c.carry_over.new.self c.mark-mark.result c.mark-mark.ensures c.loop-k.invariant.kept c.in_ok-same.ensures.kept

pub step_by-requires-clause-outlines : goal.step_by-requires-clause-outlines
step_by-requires-clause-outlines c =
    outlines_on c.args.trs.now.rules c.args.self.now c.carry_over.new.self c.args.outlines.now (kept (goal.at.step_by-requires-clause-outlines c).In_ok-same) c.requires.outlines

pub returns-in-Err-clause-fault : goal.returns-in-Err-clause-fault
returns-in-Err-clause-fault c =
    let is = read_step c.args.path.now c.loop-k.k _ _ c.index-path-k.result c.step.view_is c.index-path-k.is in
    rw c.at_step.ensures (faulty c.args.trs.now c.args.path.now c.loop-k.k _ c.loop-k-test.true is (tree_at c.args.self.now c.args.id) (tree_at c.loop-k.self c.loop-k.current)
    c.in-Err.fault c.loop-k.invariant.made (rw c.in_ok-same.ensures.same at c.in-Err.ensures.fault))

pub returns-in-Err-clause-only : goal.returns-in-Err-clause-only
returns-in-Err-clause-only c = λ u follows.
    let is = read_step c.args.path.now c.loop-k.k _ _ c.index-path-k.result c.step.view_is c.index-path-k.is in
    rw c.at_step.ensures (no_stop c.args.trs.now c.args.path.now c.loop-k.k _ c.loop-k-test.true is (tree_at c.loop-k.self c.loop-k.current) u c.in-Err.fault c.in-Err.ensures.valid
    (rw c.in_ok-same.ensures.same at c.in-Err.ensures.fault) (c.loop-k.invariant.only u follows))

pub returns-in-Err-clause-kept : goal.returns-in-Err-clause-kept
returns-in-Err-clause-kept c = extends_on c.args.self.now c.carry_over.new.self c.step_by.new.self (kept (goal.at.returns-in-Err-clause-kept c).In_ok-same) c.in-Err.ensures.kept

current_is : (c : Joined-next-same) → c.if-next-same.current ≡ c.in-Ok.next
current_is c = elim c.if-next-same.branch [ then-next-same w ↦ w.current-is | else-next-same w ↦ w.current-is ]

-- where the step gives the id that it was made from, it leaves the term as it was
stays : (c : Joined-next-same) → c.in-Ok.next ≡ c.in_ok-same.same → StaysBy c.args.trs.now c.index-path-k.result (tree_at c.step_by.new.self c.in-Ok.next)
stays c same =
    let after = tree_at c.step_by.new.self c.in-Ok.next in
    let before : tree_at c.carry_over.new.self c.in_ok-same.same ≡ after =
    sym (ap (λ i. tree_at c.step_by.new.self i) same ∙ same_tree_at c.carry_over.new.self c.step_by.new.self c.in-Ok.ensures.kept c.in_ok-same.same c.in_ok-same.ensures.there) in
    let own : PlacedRule = record { place = c.step.inside.place; rule = c.step.inside.rule } in
    let here : StepsAt c.args.trs.now.rules own.place own.rule after after = subst (λ t. StepsAt c.args.trs.now.rules own.place own.rule t after) before c.in-Ok.ensures.step in
    subst (λ s. StaysBy c.args.trs.now s after) c.step.view_is (record { valid = c.in-Ok.ensures.valid; steps = here; small = c.in-Ok.ensures.limits })

idle_is : (c : Joined-next-same) → IfSome c.if-next-same.idle (λ s. StaysBy c.args.trs.now s.now (tree_at c.step_by.new.self c.if-next-same.current))
idle_is c = elim c.if-next-same.branch [
  | then-next-same w ↦ rw (w.idle-is, w.current-is) (stays c w.if-next-same.true)
  | else-next-same w ↦ rw w.idle-is tt
]

pub loop-k-preserved : goal.loop-k-preserved
loop-k-preserved c =
    let is = read_step c.args.path.now c.loop-k.k _ _ c.index-path-k.result c.step.view_is c.index-path-k.is in
    let step = rw c.in_ok-same.ensures.same at c.in-Ok.ensures.step in
    let small = limits_size (tree_at c.step_by.new.self c.in-Ok.next) c.in-Ok.ensures.limits in
    let current = current_is c in
    record {
      there = rw current c.in-Ok.ensures.there;
      kept = extends_on c.args.self.now c.carry_over.new.self c.step_by.new.self (kept (goal.at.loop-k-preserved c).In_ok-same) c.in-Ok.ensures.kept;
      few = omega (arith, small, c.in-Ok.ensures.few, c.in_ok-same.ensures.room, c.mark-mark.ensures);
      small = λ _. rw current small;
      made = rw current (one_more_step c.args.trs.now c.args.path.now c.loop-k.k _ c.loop-k-test.true is (tree_at c.args.self.now c.args.id) (tree_at c.loop-k.self c.loop-k.current)
          (tree_at c.step_by.new.self c.in-Ok.next) c.loop-k.invariant.made step c.in-Ok.ensures.limits);
      idle = idle_is c;
      only = λ v follows. rw current (rest_of_path c.args.trs.now c.args.path.now c.loop-k.k _ c.loop-k-test.true is (tree_at c.loop-k.self c.loop-k.current)
          (tree_at c.step_by.new.self c.in-Ok.next) v c.in-Ok.ensures.valid step (c.loop-k.invariant.only v follows));
    }

pub loop-k-preserved-then-is_same : goal.loop-k-preserved-then-is_same
loop-k-preserved-then-is_same c =
    let is = read_step c.args.path.now c.loop-k.k _ _ c.index-path-k.result c.step.view_is c.index-path-k.is in
    let t = tree_at c.loop-k.self c.loop-k.current in
    let before : StaysBy c.args.trs.now c.in-Some.before.now t = rw c.in-Some.is at c.loop-k.invariant.idle in
    let stays = subst (λ s. StaysBy c.args.trs.now s t) (c.if-is_same.ensures.0 refl ∙ sym c.step.view_is) before in
    record {
      there = c.loop-k.invariant.there;
      kept = c.loop-k.invariant.kept;
      few = c.loop-k.invariant.few;
      small = c.loop-k.invariant.small;
      made = one_more_step c.args.trs.now c.args.path.now c.loop-k.k _ c.loop-k-test.true is (tree_at c.args.self.now c.args.id) t t c.loop-k.invariant.made stays.steps stays.small;
      idle = c.loop-k.invariant.idle;
      only = λ v follows. rest_of_path c.args.trs.now c.args.path.now c.loop-k.k _ c.loop-k-test.true is t t v stays.valid stays.steps (c.loop-k.invariant.only v follows);
    }

pub returns-clause-end : goal.returns-clause-end
returns-clause-end c =
    all_steps c.args.trs.now.rules c.args.path.now c.loop-k.k (tree_at c.args.self.now c.args.id) (tree_at c.loop-k.self c.loop-k.current) c.loop-k-test.false c.loop-k.invariant.made

pub returns-clause-only : goal.returns-clause-only
returns-clause-only c = λ u follows.
    let same = no_steps_left c.args.trs.now.rules c.args.path.now c.loop-k.k (tree_at c.loop-k.self c.loop-k.current) u c.loop-k-test.false (c.loop-k.invariant.only u follows) in
    stands c.loop-k.self c.loop-k.current c.loop-k.invariant.there ∙ ap (λ z. Some z) same

pub returns-in_err-same-clause-kept : goal.returns-in_err-same-clause-kept
returns-in_err-same-clause-kept c = kept_cut c.args.self.now c.loop-k.self c.carry_over.new.self c.mark-mark.result c.mark-mark.ensures c.loop-k.invariant.kept c.carry_over.ensures.kept
