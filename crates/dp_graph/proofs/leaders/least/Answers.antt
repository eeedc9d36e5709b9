use Rattle.std.proofs.Common.{inl, inr, get_or, arith, refl, sym, subst}
use Rattle.std.proofs.lemmas.List.{take_all}
use native.Mathlib.Decide.{ℕ_discrete}
use Rattle.trs_defs.specs.Member.{In}
use Rattle.trs_defs.proofs.Members.{no_in}
use Rattle.dp_graph.proofs.FoundLaws.{in_row, taken_more}
use Rattle.dp_graph.proofs.leaders.least.Goals as goal

pub loop-w-init : goal.loop-w-init
loop-w-init c = record {
  there = in_row c.args.places.now 0 (get_or c.args.places.now 0 0) c.requires refl;
  low = λ w i. absurd (no_in i);
}

pub loop-w-preserved : goal.loop-w-preserved
loop-w-preserved c =
    let i = c.loop-w.w-index in
    let places = c.args.places.now in
    let x = get_or places i 0 in
    let l = c.loop-w.invariant in
    let e = c.lesser-least.ensures in
    record {
      there = elim (ℕ_discrete c.lesser-least.result x) [
        | yes same ↦ subst (λ z. In z places) (sym same) (in_row places i x c.loop-w-test.true refl)
        | no other ↦ subst (λ z. In z places) (sym (e.one other)) l.there
      ];
      low = λ w h. elim (taken_more places i x w c.loop-w-test.true refl h) [
        | inl g ↦ (let a = l.low w g in let b = e.first in omega (arith, a, b))
        | inr same ↦ (let b = e.second in omega (arith, same, b))
      ];
    }

pub returns : goal.returns
returns c =
    let all = take_all c.loop-w.w-index c.args.places.now c.loop-w-test.false in
    record {
      there = c.loop-w.invariant.there;
      least = λ w i. c.loop-w.invariant.low w (subst (In w) (sym all) i);
    }
