-- What one more entry leaves of what a history tells of its tickets.
use Rattle.std.proofs.Common.{◌≡◌, inl, inr, ℕ, ◌≤◌, Bool, true, false, List, [], ◌∷◌, ◌++◌, length, set, Some, slice_get, ap, sym, refl, ◌∙◌, subst, arith, length-append}
use Rattle.std.proofs.lemmas.Option.{slice_get_within}
use native.Mathlib.Decide.{dec_le}
use mathlib.Core.Logic.{dite}
use Rattle.tree_state.specs.tree_definitions.declared.ticket.Ticket.{Ticket}
use Rattle.tree_state.specs.tree_definitions.History.{HistoryEntry, mentions, of_seat, Runs, IsOwned}
use Rattle.tree_core.specs.Invariant.{IsTold, told}
use Rattle.tree_state.proofs.tree_definitions.Mentions.{mentions-append, of_append, of_le, about_same, about_other, both_same, both_le, owned_more}
use Rattle.tree_state.proofs.tree_definitions.Lookups.{set_cases, more_cases}
use Rattle.tree_state.proofs.tree_definitions.Lookups.{length_set}
use Rattle.trs_defs.proofs.ListItems.{item_there}

module _ (es : List HistoryEntry) (tickets : List Ticket) (is : IsTold es tickets) (e : HistoryEntry) where
  -- a claim, under a new ticket
  pub told_claim : (t : Ticket) → e.ticket ≡ length tickets → t.seat ≡ e.seat → t.is_running ≡ true → IsTold (es ++ e ∷ []) (tickets ++ t ∷ [])
  told_claim t number seat runs = record {
    told_is = λ k u there. elim (more_cases tickets t k u there) [
      | inl old ↦
          let lt = slice_get_within tickets k u old in
          omega (arith, is.told_is k u old, mentions-append k es e, about_other e k (λ q. omega (arith, q, lt, number)))
      | inr new ↦
          let none = is.none k (omega (arith, new.0)) in
          let one : told u.is_running ≡ 1 = rw (new.1, runs) refl in
          omega (arith, none, one, mentions-append k es e, about_same e k (number ∙ sym new.0))
    ];
    none = λ k le.
        let n = length-append tickets (t ∷ []) in
        omega (arith, is.none k (omega (arith, le, n)), mentions-append k es e, about_other e k (λ q. omega (arith, q, le, n, number)));
    seats = λ k u there. elim (more_cases tickets t k u there) [
      | inl old ↦
          let lt = slice_get_within tickets k u old in
          let a = about_other e k (λ q. omega (arith, q, lt, number)) in
          omega (arith, is.seats k u old, mentions-append k es e, of_append u.seat k es e, a, both_le e u.seat k)
      | inr new ↦
          let none = is.none k (omega (arith, new.0)) in
          let mine : e.seat ≡ u.seat = sym (ap (λ (x : Ticket). x.seat) new.1 ∙ seat) in
          omega (arith, none, of_le u.seat k es, mentions-append k es e, of_append u.seat k es e, both_same e u.seat k mine)
    ];
    owned = owned_more es e is.owned (let none = is.none e.ticket (omega (arith, number)) in omega (arith, none, of_le e.seat e.ticket es));
  }

  -- the ending of a ticket that runs
  pub told_ending : (t : Ticket) → slice_get tickets e.ticket ≡ Some t → t.seat ≡ e.seat → t.is_running ≡ true
      → IsTold (es ++ e ∷ []) (set tickets e.ticket (record t { is_running = false }))
  told_ending t there seat runs =
      let one : mentions e.ticket es ≡ 1 = is.told_is e.ticket t there ∙ ap told runs in
      let mine = subst (λ (n : ℕ). mentions e.ticket (of_seat n es) ≡ mentions e.ticket es) seat (is.seats e.ticket t there) in
      record {
        told_is = λ k u now. elim (set_cases tickets e.ticket k t (record t { is_running = false }) u there now) [
          | inl same ↦
              let two : told u.is_running ≡ 2 = ap (λ (x : Ticket). told x.is_running) same.1 in
              let one_k = subst (λ (n : ℕ). mentions n es ≡ 1) (sym same.0) one in
              omega (arith, one_k, two, mentions-append k es e, about_same e k (sym same.0))
          | inr other ↦ omega (arith, is.told_is k u other.1, mentions-append k es e, about_other e k (λ q. other.0 (sym q)))
        ];
        none = λ k le.
            let n = length_set tickets e.ticket (record t { is_running = false }) in
            let lt = slice_get_within tickets e.ticket t there in
            omega (arith, is.none k (omega (arith, le, n)), mentions-append k es e, about_other e k (λ q. omega (arith, q, le, n, lt)));
        seats = λ k u now. elim (set_cases tickets e.ticket k t (record t { is_running = false }) u there now) [
          | inl same ↦
              let u_seat : e.seat ≡ u.seat = sym (ap (λ (x : Ticket). x.seat) same.1 ∙ seat) in
              let mine_k = subst (λ (n : ℕ). mentions n (of_seat e.seat es) ≡ mentions n es) (sym same.0) mine in
              let mine_u = subst (λ (n : ℕ). mentions k (of_seat n es) ≡ mentions k es) u_seat mine_k in
              omega (arith, mine_u, mentions-append k es e, of_append u.seat k es e, both_same e u.seat k u_seat)
          | inr other ↦
              let a = about_other e k (λ q. other.0 (sym q)) in
              omega (arith, is.seats k u other.1, mentions-append k es e, of_append u.seat k es e, a, both_le e u.seat k)
        ];
        owned = owned_more es e is.owned mine;
      }

pub told_true : (b : Bool) → told b ≡ 1 → b ≡ true
told_true true e = refl
told_true false e = absurd (omega (arith, e))

pub runs_there : (es : List HistoryEntry) (tickets : List Ticket) → IsTold es tickets → (number : ℕ) → Runs number es
    → (t : Ticket) × (slice_get tickets number ≡ Some t) × (t.is_running ≡ true)
runs_there es tickets is number one = dite (dec_le (length tickets) number)
    (λ le. absurd (omega (arith, one, is.none number le)))
    (λ small.
    let there = item_there tickets number (omega (arith, small)) in
    (there.0, there.1, told_true there.0.is_running (sym (is.told_is number there.0 there.1) ∙ one)))

-- a claim under a ticket that no entry was about
pub runs_of_claim : (es : List HistoryEntry) (e : HistoryEntry) → mentions e.ticket es ≡ 0 → Runs e.ticket (of_seat e.seat (es ++ e ∷ []))
runs_of_claim es e none =
    omega (arith, none, of_le e.seat e.ticket es, of_append e.seat e.ticket es e, both_same e e.seat e.ticket refl, about_same e e.ticket refl)

-- a ticket that runs does so by the entries of its seat
pub runs_of_seat : (es : List HistoryEntry) (tickets : List Ticket) → IsTold es tickets → (number : ℕ) (t : Ticket) → slice_get tickets number ≡ Some t → t.is_running ≡ true
    → Runs number (of_seat t.seat es)
runs_of_seat es tickets is number t there runs = is.seats number t there ∙ is.told_is number t there ∙ ap told runs
