use Rattle.std.proofs.Common.{inl, inr, refl, arith}
use Rattle.dp_graph.proofs.FlagLaws.{set_one}
use Rattle.dp_graph.proofs.flag_rows.set.Goals as goal

pub returns : goal.returns
returns c = λ j.
    let room = c.in_ok-make_words.ensures.room in
    let one = set_one c.make_words.new.row.items _ c.args.k c.index_mut.result.now (omega (arith, room)) c.index_mut.ensures.value refl j in
    let stay = c.in_ok-make_words.ensures.flags j in
    (λ h. elim (one.0 h) [ inl e ↦ inl (stay.0 e) | inr e ↦ inr e ], λ h. one.1 (elim h [ inl e ↦ inl (stay.1 e) | inr e ↦ inr e ]))
