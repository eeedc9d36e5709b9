-- Meetings, made place by place.
use Rattle.std.specs.Prelude.{◌≡◌, ◌<◌, ℕ, ◌+◌, ◌-◌, List, [], ◌∷◌, ◌++◌, Some}
use Rattle.std.proofs.Common.{sym, ◌∙◌, subst, inl, inr, arith}
use Rattle.std.proofs.Math.Decide.{ℕ_discrete}
use Rattle.std.proofs.lemmas.Option.{same_Some}
use Rattle.trs_defs.specs.Member.{In}
use Rattle.trs_defs.proofs.Members.{no_in}
use Rattle.label_find.specs.declared.groups.Groups.{Groups}
use Rattle.label_find.specs.Grouping.{end_at, HasEnd, IsGroupOf}
use Rattle.label_find.specs.Meetings.{MeetAt, HasMeeting, AddsMeeting, AreMeetings}
use Rattle.label_find.proofs.RuleLists.{one_of_pushed, old_in_pushed, new_in_pushed}

module _ (lefts rights : Groups) where
  pub no_meetings : (ms : List (ℕ × ℕ)) → ms ≡ [] → AreMeetings lefts rights 0 ms
  no_meetings ms empty = record {
    each = λ m i. absurd (no_in (subst (λ (xs : List (ℕ × ℕ)). In m xs) empty i));
    all = λ number end below at some. absurd (omega (arith, below));
  }

  pub meetings_more : (n : ℕ) (old new : List (ℕ × ℕ)) → AreMeetings lefts rights n old → AddsMeeting lefts rights n old new → AreMeetings lefts rights (n + 1) new
  meetings_more n old new before adds = record {
    each = λ m h. elim (adds.from m h) [ inl was ↦ before.each m was | inr fresh ↦ fresh ];
    all = λ place end below at some. elim (ℕ_discrete place n) [
      | yes same ↦ elim (adds.there end (subst (λ (k : ℕ). end_at lefts k ≡ Some end) same at) some) [
        | inl here ↦ here
        | inr earlier ↦ earlier_meeting (n - 1) end (omega (arith, earlier.0)) earlier.1 some
      ]
      | no other ↦ earlier_meeting place end (omega (arith, below, other)) at some
    ];
  }
    where
      earlier_meeting : (place end : ℕ) → place < n → end_at lefts place ≡ Some end → HasEnd rights end → HasMeeting lefts rights end new
      earlier_meeting place end below at some = let (m, i, meet) = before.all place end below at some in (m, adds.stays m i, meet)

  module _ (place end : ℕ) (at : end_at lefts place ≡ Some end) where
    one_end : (other : ℕ) → end_at lefts place ≡ Some other → end ≡ other
    one_end other is = same_Some end other (sym at ∙ is)

    pub no_right_group : (ms : List (ℕ × ℕ)) → (HasEnd rights end → ⊥) → AddsMeeting lefts rights place ms ms
    no_right_group ms none = record {
      from = λ m i. inl i;
      stays = λ m i. i;
      there = λ other is some. absurd (none (subst (HasEnd rights) (sym (one_end other is)) some));
    }

    pub meeting_pushed : (right : ℕ) (old new : List (ℕ × ℕ)) → IsGroupOf lefts end place → IsGroupOf rights end right → new ≡ old ++ (place, right) ∷ [] → AddsMeeting lefts rights place old new
    meeting_pushed right old new of_left of_right is = record {
      from = λ m i. elim (one_of_pushed old new (place, right) m is i) [
        | inl was ↦ inl was
        | inr fresh ↦ inr (end, subst (λ (x : ℕ × ℕ). MeetAt lefts rights end x) (sym fresh) (of_left, of_right))
      ];
      stays = λ m i. old_in_pushed old new (place, right) m is i;
      there = λ other at_other some. inl (subst (λ (e : ℕ). HasMeeting lefts rights e new) (one_end other at_other) ((place, right), new_in_pushed old new (place, right) is, (of_left, of_right)));
    }

  -- the group has begun before
  pub later_in_group : (place : ℕ) (ms : List (ℕ × ℕ)) → 0 < place → end_at lefts (place - 1) ≡ end_at lefts place → AddsMeeting lefts rights place ms ms
  later_in_group place ms some same = record { from = λ m i. inl i; stays = λ m i. i; there = λ end at there. inr (some, same ∙ at) }
