use Rattle.std.proofs.Common.{arith, refl, inl, inr, ap, Some, ◌∙◌}
use Rattle.std.proofs.lemmas.Option.{slice_get_read}
use Rattle.dp_graph.specs.GraphConditions.{lists_of}
use Rattle.dp_graph.proofs.LeaderLaws.{found_some, found_within}
use Rattle.dp_graph.proofs.leaders.lead_from.Goals as goal

pub returns-then-index : goal.returns-then-index
returns-then-index c =
    let place = c.requires.place in
    let size = c.requires.flags in
    inl (slice_get_read c.args.flags.now.items _ c.args.v c.index.result.now refl (omega (arith, place, size)) c.index.ensures ∙ ap (λ v. Some v) c.if-index.true, refl, refl)

pub collect-requires-clause-unset : goal.collect-requires-clause-unset
collect-requires-clause-unset c =
    let place = c.requires.place in
    let size = c.requires.flags in
    slice_get_read c.args.flags.now.items _ c.args.v c.index.result.now refl (omega (arith, place, size)) c.index.ensures ∙ ap (λ v. Some v) c.if-index.false

pub lead-requires-clause-some : goal.lead-requires-clause-some
lead-requires-clause-some c =
    rw c.deref.ensures.value (found_some (lists_of c.args.back.now) c.args.flags.now.items c.collect.new.flags.items c.args.v c.in_ok-component.component.items c.in_ok-component.ensures)

pub lead-requires-clause-within : goal.lead-requires-clause-within
lead-requires-clause-within c = λ w i.
    let h = found_within (lists_of c.args.back.now) c.args.flags.now.items c.collect.new.flags.items c.args.v c.in_ok-component.component.items c.in_ok-component.ensures w
    (rw c.deref.ensures.value at i) in
    let a = c.requires.flags in
    let b = c.requires.leaders in
    omega (arith, h, a, b)

pub returns : goal.returns
returns c =
    let place = c.requires.place in
    let size = c.requires.flags in
    inr (record {
      unset = slice_get_read c.args.flags.now.items _ c.args.v c.index.result.now refl (omega (arith, place, size)) c.index.ensures ∙ ap (λ v. Some v) c.if-index.false;
      component = c.in_ok-component.component.items;
      are = c.in_ok-component.ensures;
      leads = rw c.deref.ensures.value at c.lead.ensures;
    })
