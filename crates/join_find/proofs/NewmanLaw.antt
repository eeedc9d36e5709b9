-- What the strategy newman finds meets the conditions on joined peaks.
use Rattle.std.specs.Prelude.{◌≡◌, ℕ, ◌+◌, List, Ok, length, zip, refl}
use Rattle.std.proofs.Common.{suc, ap}
use Rattle.trs_defs.specs.System.{System, RewriteRule}
use Rattle.trs_defs.specs.Path.{Follows}
use Rattle.term_pool.proofs.ReachLaws.{paths_lead}
use Rattle.rewrite_core.specs.Check.{goes_on, holds, returned, each, Check}
use Rattle.rewrite_core.specs.PathCheck.{followed}
use Rattle.rewrite_core.specs.PlacedPeak.{PlacedPeak}
use Rattle.rewrite_core.specs.PathsOfJoin.{PathsOfJoin}
use Rattle.closed_pairs.specs.crit_pairs.PeakList.{ListsPeaks}
use Rattle.closed_pairs.specs.crit_pairs.PeaksCheck.{listed}
use Rattle.closed_pairs.specs.Joined.{joins, are_joined, newman_conditions}
use Rattle.join_find.specs.First.{Along, along_end, along_item}
use Rattle.join_find.specs.NewmanRow.{IsFirstJoin, FindsNewman}
use Rattle.join_find.proofs.Firsts.{first_in_list}

-- lists that lie along each other have one length
pub along_length : {A B : Type 0} {related : A → B → Type 0} {xs : List A} {ys : List B} → Along related xs ys → length ys ≡ length xs
along_length along_end = refl
along_length (along_item h rest) = ap (λ n. suc n) (along_length rest)

-- a check of two items at one place passes for all of them
pub along_each : {A B : Type 0} {related : A → B → Type 0} (check : ℕ → A × B → Check (Unit {0})) → ((n : ℕ) (a : A) (b : B) → related a b → check n (a, b) (Ok tt))
    → (n : ℕ) {xs : List A} {ys : List B} → Along related xs ys → each check n (zip xs ys) (Ok tt)
along_each check passes n along_end = returned
along_each check passes n (along_item {a = a} {b = b} h rest) = goes_on tt (Ok tt) (passes n a b h) (along_each check passes (n + 1) rest)

first_join_joins : (rules : List RewriteRule) (n : ℕ) (peak : PlacedPeak) (join : PathsOfJoin) → IsFirstJoin rules peak join → joins rules n peak join (Ok tt)
first_join_joins rules n peak join h =
    let end = h.common.term in
    let left : Follows rules join.left peak.left end = paths_lead rules peak.left 16 256 4096 h.lefts h.from_left (record { term = end; path = join.left }) (first_in_list h.common.first_left) in
    let right : Follows rules join.right peak.right end = paths_lead rules peak.right 16 256 4096 h.rights h.from_right (record { term = end; path = join.right }) (first_in_list h.common.first_right) in
    goes_on end (Ok tt) (followed end left) (goes_on end (Ok tt) (followed end right) (holds refl))

pub found_joins_join : (rules : List RewriteRule) (peaks : List PlacedPeak) (items : List PathsOfJoin) → FindsNewman rules peaks items → are_joined rules peaks items (Ok tt)
found_joins_join rules peaks items found =
    goes_on tt (Ok tt) (holds (along_length found)) (along_each (λ n item. joins rules n item.0 item.1) (λ n peak join h. first_join_joins rules n peak join h) 0 found)

pub found_joins_meet : (system : System) (peaks : List PlacedPeak) (items : List PathsOfJoin) → ListsPeaks system.rules (Ok peaks) → FindsNewman system.rules peaks items
    → newman_conditions system items (Ok tt)
found_joins_meet system peaks items critical found = goes_on peaks (Ok tt) (listed peaks critical) (found_joins_join system.rules peaks items found)
