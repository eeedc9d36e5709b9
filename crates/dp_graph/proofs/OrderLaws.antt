-- Components are put out in order: those that wait for none.
use Rattle.std.specs.Prelude.{◌≡◌, ◌<◌, ◌≤◌, ◌↔◌, ◌⊎◌, ℕ, ◌+◌, Bool, true, false, List, [], ◌∷◌, ◌++◌, length, replicate, Some, None, slice_get, refl}
use Rattle.std.proofs.Common.{inl, inr, sym, ap, subst, arith, ◌∙◌}
use native.Mathlib.Decide.{ℕ_discrete}
use Rattle.trs_defs.specs.Member.{In, in_first, in_rest}
use Rattle.trs_defs.specs.Run.{Stay}
use Rattle.trs_defs.proofs.Members.{no_in, in_or, get_of_in}
use Rattle.trs_defs.proofs.ListItems.{item_there}
use Rattle.std.proofs.lemmas.Option.{same_Some, slice_get_within}
use Rattle.dp_core.specs.Flags.{unset}
use Rattle.dp_graph.specs.Leaders.{AreLeaders}
use Rattle.dp_graph.specs.PutOut.{IsBlocked, IsUndoneLeader, IsNextReady, Finishes, PutsOut}
use Rattle.dp_graph.specs.GraphConditions.{lists_of}
use Rattle.dp_graph.specs.Rows.{Follows}
use Rattle.dp_graph.specs.Waiting.{Has, IsOut, WaitsFor, WaitsForNone, AreAtFirst, TakesOut, Releases, Other, OfRows}
use Rattle.dp_graph.specs.declared.waiting.Waiting.{Waiting}
use Rattle.dp_graph.proofs.ListPlaces.{not_both, unset_there, set_at, at_repeat, in_repeat, length_repeat, length_more, lists_length}
use Rattle.dp_graph.proofs.PutOutLaws.{leads_itself, DoneTogether, PutOutSoFar, none_put_out, one_more_put_out, all_put_out, none_undone, fewer_left, still_together, together_at_first, finished, finishes_all}

-- what is waited for, where the components with these flags are done
pub record IsWaiting (rows : List (List ℕ)) (leaders : List ℕ) (done : List Bool) (waiting : Waiting) : Type 0 where
  pub count : length waiting.blockers.items ≡ length leaders
  pub outs : length waiting.out.items ≡ length leaders
  pub blocks : (l k : ℕ) → WaitsFor waiting l k → (b : IsBlocked rows leaders done l) × (b.leader ≡ k)
  pub all : (l : ℕ) (b : IsBlocked rows leaders done l) → WaitsFor waiting l b.leader
  pub ready : (l : ℕ) → Has waiting.ready l ↔ (IsUndoneLeader leaders done l × WaitsForNone waiting l)
  pub free : (l : ℕ) → slice_get done l ≡ Some true → slice_get leaders l ≡ Some l → WaitsForNone waiting l

pub at_first : (rows : List (List ℕ)) (leaders : List ℕ) (waiting : Waiting) (n : ℕ) → n ≡ length leaders → AreAtFirst rows leaders waiting → IsWaiting rows leaders (replicate n false) waiting
at_first rows leaders waiting n size is = record {
  count = sym (lists_length waiting.blockers.items) ∙ is.blockers.count;
  outs = ap length is.out ∙ length_repeat (length leaders) false;
  blocks = λ l k h.
      let e = (is.blockers.exact l k).0 h.0 in (
        record {
          from = e.from;
          to = e.to;
          leader = k;
          undone = undone e.from k e.of_other;
          follows = e.follows;
          of_other = e.of_other;
          of_this = e.of_this;
          differ = e.differ;
        },
        refl,
      );
  all = λ l b. (
    (is.blockers.exact l b.leader).1 (record { from = b.from; to = b.to; follows = b.follows; of_other = b.of_other; of_this = b.of_this; differ = b.differ }),
    none_out b.leader,
  );
  ready = λ l. (
    λ h. (let f = (is.ready l).0 h in ((f.0, undone l l f.0), λ k w. f.1 k w.0)),
    λ h. (is.ready l).1 (h.0.0, λ k f. h.1 k (f, none_out k)),
  );
  free = λ l set own. absurd (let e : true ≡ false = in_repeat n l false true set in cc);
}
  where
    undone : (i l : ℕ) → slice_get leaders i ≡ Some l → slice_get (replicate n false) i ≡ Some false
    undone i l e = at_repeat n i false (let w = slice_get_within leaders i l e in omega (arith, w, size))

    none_out : (k : ℕ) → IsOut waiting.out.items k → ⊥
    none_out k h = let e : true ≡ false = in_repeat (length leaders) k false true (subst (λ z. slice_get z k ≡ Some true) is.out h) in cc

-- whether one of a list is not put out
some_left : (out : List Bool) (list : List ℕ) → ((k : ℕ) × In k list × (IsOut out k → ⊥)) ⊎ ((k : ℕ) → In k list → IsOut out k)
some_left out [] = inr (λ k i. absurd (no_in i))
some_left out (x ∷ list) = go (set_at out x) (some_left out list)
  where
    go : Dec (IsOut out x) → ((k : ℕ) × In k list × (IsOut out k → ⊥)) ⊎ ((k : ℕ) → In k list → IsOut out k) → ((k : ℕ) × In k (x ∷ list) × (IsOut out k → ⊥)) ⊎ ((k : ℕ) → In k (x ∷ list) → IsOut out k)
    go (no left) h = inl (x, in_first, left)
    go (yes gone) (inl (k, i, left)) = inl (k, in_rest i, left)
    go (yes gone) (inr all) = inr (λ k i. elim (in_or i) [ inl same ↦ subst (IsOut out) (sym same) gone | inr h ↦ all k h ])

-- whether a leader waits for one or for none
some_blocker : (waiting : Waiting) (l : ℕ) → l < length waiting.blockers.items → ((k : ℕ) × WaitsFor waiting l k) ⊎ WaitsForNone waiting l
some_blocker waiting l lt =
    let (list, at) = item_there (lists_of waiting.blockers.items) l (let n = lists_length waiting.blockers.items in omega (arith, n, lt)) in
    elim (some_left waiting.out.items list) [
      | inl (k, i, left) ↦ inl (k, ((list, at, i), left))
      | inr all ↦ inr (λ k ((row, is, i), left). left (all k (subst (In k) (same_Some row list (sym is ∙ at)) i)))
    ]

module _ (pairs : ℕ) (rows : List (List ℕ)) (leaders : List ℕ) (are : AreLeaders rows leaders) (done : List Bool) (size : length done ≡ length leaders) (old : Waiting) (is : IsWaiting rows leaders done old) where
  -- a leader that is left and not ready is blocked
  blocked_or_ready : (l : ℕ) → IsUndoneLeader leaders done l → (Has old.ready l → ⊥) → IsBlocked rows leaders done l
  blocked_or_ready l undone not_ready =
      elim (some_blocker old l (let w = slice_get_within leaders l l undone.0 in let c = is.count in omega (arith, w, c))) [
        | inl (k, h) ↦ (is.blocks l k h).0
        | inr none ↦ absurd (not_ready ((is.ready l).1 (undone, none)))
      ]

  pub next_ready : (new : Waiting) (v : ℕ) → TakesOut pairs old new (Some v) → IsNextReady pairs rows leaders done (Some v)
  next_ready new v takes =
      let (undone, free) = (is.ready v).0 takes.0 in (
        undone,
        λ b. free b.leader (is.all v b),
        λ u sooner also. blocked_or_ready u also (λ h. takes.1 u h sooner),
      )

  pub none_ready : (new : Waiting) → TakesOut pairs old new None → IsNextReady pairs rows leaders done None
  none_ready new takes = λ v undone. blocked_or_ready v undone (takes.0 v)

  module _ (together : DoneTogether leaders done) (mid new : Waiting) (v : ℕ) (takes : TakesOut pairs old mid (Some v)) (next : List Bool) (finishes : Finishes v leaders done next) (places : List ℕ)
      (led : (w : ℕ) → slice_get leaders w ≡ Some v ↔ In w places) (releases : Releases mid new v (Other v (OfRows rows leaders places))) where
    own : slice_get leaders v ≡ Some v
    own = ((is.ready v).0 takes.0).0.0

    to_old : (l k : ℕ) → WaitsFor mid l k → WaitsFor old l k
    to_old l k h = (subst (λ b. Follows (lists_of b.items) l k) takes.3.0 h.0, λ g. h.1 (subst (λ b. IsOut b.items k) (sym takes.3.1) g))

    to_mid : (l k : ℕ) → WaitsFor old l k → WaitsFor mid l k
    to_mid l k h = (subst (λ b. Follows (lists_of b.items) l k) (sym takes.3.0) h.0, λ g. h.1 (subst (λ b. IsOut b.items k) takes.3.1 g))

    -- a place that is left was left before, and has another leader
    was_undone : (i l : ℕ) → slice_get leaders i ≡ Some l → slice_get next i ≡ Some false → (slice_get done i ≡ Some false) × (l ≡ v → ⊥)
    was_undone i l e undone = elim (ℕ_discrete l v) [
      | yes same ↦ absurd (not_both next i (finishes.led i (e ∙ ap (λ z. Some z) same)) undone)
      | no other ↦ (sym (finishes.others i (λ g. other (same_Some l v (sym e ∙ g)))) ∙ undone, other)
    ]

    still_undone : (i l : ℕ) → slice_get leaders i ≡ Some l → (l ≡ v → ⊥) → slice_get done i ≡ Some false → slice_get next i ≡ Some false
    still_undone i l e other undone = finishes.others i (λ g. other (same_Some l v (sym e ∙ g))) ∙ undone

    waited : (l k : ℕ) → WaitsFor new l k → WaitsFor old l k × (k ≡ v → ⊥)
    waited l k h = let (w, other) = (releases.waits l k).0 h in (to_old l k w, other)

    waits_still : (l k : ℕ) → WaitsFor old l k → (k ≡ v → ⊥) → WaitsFor new l k
    waits_still l k h other = (releases.waits l k).1 (to_mid l k h, other)

    -- a leader to which an edge leads from the one that is put out waited for that
    blocked_by_it : (l : ℕ) → Other v (OfRows rows leaders places) l → IsBlocked rows leaders done l
    blocked_by_it l ((w, j, w_in, follows, at), other) =
        let of_it : slice_get leaders w ≡ Some v = (led w).1 w_in in record {
          from = w;
          to = j;
          leader = v;
          undone = together w v of_it ∙ ((is.ready v).0 takes.0).0.1;
          follows = follows;
          of_other = of_it;
          of_this = at;
          differ = λ e. other (sym e);
        }

    pub still_waiting : IsWaiting rows leaders next new
    still_waiting = record {
      count = releases.count ∙ (ap (λ z. length z.items) takes.3.0 ∙ is.count);
      outs = releases.outs ∙ (ap (λ z. length z.items) takes.3.1 ∙ is.outs);
      blocks = λ l k h.
          let (was, other) = waited l k h in
          let (b, same) = is.blocks l k was in (
            record {
              from = b.from;
              to = b.to;
              leader = b.leader;
              undone = still_undone b.from b.leader b.of_other (λ e. other (sym same ∙ e)) b.undone;
              follows = b.follows;
              of_other = b.of_other;
              of_this = b.of_this;
              differ = b.differ;
            },
            same,
          );
      all = λ l b.
          let (undone, other) = was_undone b.from b.leader b.of_other b.undone in
          waits_still l b.leader (is.all l (record {
            from = b.from;
            to = b.to;
            leader = b.leader;
            undone = undone;
            follows = b.follows;
            of_other = b.of_other;
            of_this = b.of_this;
            differ = b.differ;
          })) other;
      ready = λ l. (ready_to l, ready_from l);
      free = λ l set at k h. elim (ℕ_discrete l v) [
        | yes same ↦ ((is.ready v).0 takes.0).1 k (subst (λ z. WaitsFor old z k) same (waited l k h).0)
        | no other ↦ is.free l (sym (finishes.others l (λ g. other (same_Some l v (sym at ∙ g)))) ∙ set) at k (waited l k h).0
      ];
    }
      where
        ready_to : (l : ℕ) → Has new.ready l → IsUndoneLeader leaders next l × WaitsForNone new l
        ready_to l h = elim ((releases.ready l).0 h) [
          | inl g ↦
              let (was, other) = (takes.2 l).0 g in
              let (undone, free) = (is.ready l).0 was in
              ((undone.0, still_undone l l undone.0 other undone.1), λ k w. free k (waited l k w).0)
          | inr (of_rows, free) ↦
              let b = blocked_by_it l of_rows in
              let at = leads_itself rows leaders are b.to l b.of_this in
              let left : slice_get done l ≡ Some false =
              unset_there done l (let w = slice_get_within leaders l l at in omega (arith, w, size)) (λ set. is.free l set at b.leader (is.all l b)) in
              ((at, still_undone l l at of_rows.1 left), free)
        ]

        ready_from : (l : ℕ) → IsUndoneLeader leaders next l × WaitsForNone new l → Has new.ready l
        ready_from l (undone, free) =
            let (was, other) = was_undone l l undone.0 undone.1 in
            elim (some_blocker old l (let w = slice_get_within leaders l l undone.0 in let c = is.count in omega (arith, w, c))) [
              | inl (k, blocked) ↦
                  let (b, same) = is.blocks l k blocked in
                  let by_it : b.leader ≡ v = elim (ℕ_discrete k v) [ yes e ↦ same ∙ e | no differ ↦ absurd (free k (waits_still l k blocked differ)) ] in
                  (releases.ready l).1 (inr (((b.from, b.to, (led b.from).0 (b.of_other ∙ ap (λ z. Some z) by_it), b.follows, b.of_this), other), free))
              | inr none ↦ (releases.ready l).1 (inl ((takes.2 l).1 ((is.ready l).1 ((undone.0, was), none), other)))
            ]

-- ---- the leaders so far

pub record IsOrdering (pairs : ℕ) (rows : List (List ℕ)) (leaders : List ℕ) (order : List ℕ) (waiting : Waiting) : Type 0 where
  pub done : List Bool
  pub passed : PutOutSoFar pairs rows leaders done order
  pub size : length done ≡ length leaders
  pub together : DoneTogether leaders done
  pub waits : IsWaiting rows leaders done waiting
  pub few : length order + unset done ≤ length leaders

few_unset : (flags : List Bool) → unset flags ≤ length flags
few_unset [] = omega arith
few_unset (true ∷ flags) = let h = few_unset flags in omega (arith, h)
few_unset (false ∷ flags) = let h = few_unset flags in omega (arith, h)

pub starts : (pairs : ℕ) (rows : List (List ℕ)) (leaders : List ℕ) → AreLeaders rows leaders → (order : List ℕ) (waiting : Waiting) → order ≡ [] → AreAtFirst rows leaders waiting
    → IsOrdering pairs rows leaders order waiting
starts pairs rows leaders are order waiting none first =
    let n = length leaders in
    let done : List Bool = replicate n false in
    let size : length done ≡ n = length_repeat n false in record {
      done = done;
      passed = none_put_out pairs rows leaders done n order refl refl none;
      size = size;
      together = together_at_first rows leaders are done n refl refl;
      waits = at_first rows leaders waiting n refl first;
      few = let a = ap length none in let b = few_unset done in omega (arith, a, b, size);
    }

module _ (pairs : ℕ) (rows : List (List ℕ)) (leaders : List ℕ) (are : AreLeaders rows leaders) (order : List ℕ) (old mid : Waiting) (is : IsOrdering pairs rows leaders order old) where
  pub ends : TakesOut pairs old mid None → PutsOut pairs rows leaders order
  ends takes = all_put_out pairs rows leaders is.done order (none_undone rows leaders are is.done is.size is.together (none_ready pairs rows leaders are is.done is.size old is.waits mid takes)) is.passed

  module _ (v : ℕ) (takes : TakesOut pairs old mid (Some v)) where
    pub leads_itself_now : slice_get leaders v ≡ Some v
    leads_itself_now = (next_ready pairs rows leaders are is.done is.size old is.waits mid v takes).0.0

    pub room : length order < length leaders
    room =
        let n = next_ready pairs rows leaders are is.done is.size old is.waits mid v takes in
        let f = fewer_left leaders v is.done (finished v leaders is.done) is.size n.0 (finishes_all v leaders is.done is.size) in
        let few = is.few in omega (arith, f, few)

    pub blockers_count : length mid.blockers.items ≡ length leaders
    blockers_count = ap (λ z. length z.items) takes.3.0 ∙ is.waits.count

    pub out_count : length mid.out.items ≡ length leaders
    out_count = ap (λ z. length z.items) takes.3.1 ∙ is.waits.outs

    pub goes_on : (new : Waiting) (places : List ℕ) → ((w : ℕ) → slice_get leaders w ≡ Some v ↔ In w places) → Releases mid new v (Other v (OfRows rows leaders places)) → (more : List ℕ) → more ≡ order ++ v ∷ []
        → IsOrdering pairs rows leaders more new
    goes_on new places led releases more grown =
        let n = next_ready pairs rows leaders are is.done is.size old is.waits mid v takes in
        let done = finished v leaders is.done in
        let finishes = finishes_all v leaders is.done is.size in record {
          done = done;
          passed = one_more_put_out pairs rows leaders is.done done order more v n finishes grown is.passed;
          size = finishes.count ∙ is.size;
          together = still_together rows leaders are v is.done done n.0.0 finishes is.together;
          waits = still_waiting pairs rows leaders are is.done is.size old is.waits is.together mid new v takes done finishes places led releases;
          few =
              let f = fewer_left leaders v is.done done is.size n.0 finishes in
              let few = is.few in
              let a = ap length grown in
              let b = length_more order v in omega (arith, f, few, a, b);
        }

pub leaders_within : (rows : List (List ℕ)) (leaders : List ℕ) → AreLeaders rows leaders → (l : ℕ) → In l leaders → l < length leaders
leaders_within rows leaders are l i =
    let at = get_of_in i in
    let low = (are.each at.0 l at.1).least at.0 (Stay, Stay) in
    let w = slice_get_within leaders at.0 l at.1 in omega (arith, low, w)
