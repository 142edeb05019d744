-- The changes among 21 results, with one more of them.
use Rattle.std.proofs.Common.{◌≡◌, ℕ, ◌+◌, ◌-◌, ◌*◌, ◌≤◌, ◌==◌, zero, suc, Bool, true, false, cond, List, [], ◌∷◌, ◌++◌, length, drop, replicate}
use Rattle.std.proofs.Common.{refl, sym, ap, ◌∙◌, arith, length-append, length-drop}
use Rattle.std.specs.Prelude.{None, Some, nat_lt, slice_get, unwrap_or}
use Rattle.std.proofs.lemmas.Bool.{eqb-true, not-false}
use Rattle.std.proofs.lemmas.Bool.Decides.{nat_tests}
use Rattle.circular_buffer.specs.Buffer.{keep_last}
use Rattle.check_states.specs.declared.state.State.{State}
use Rattle.check_states.specs.Board.{flag}
use Rattle.check_states.specs.Changes.{changes_after, changes_in, last_after, weight_after}
use Rattle.check_states.specs.Flapping.{changes_weight, results_after, percent_of}
use Rattle.check_states.specs.declared.state.State.TheVariants as state
use Rattle.check_states.specs.Numbers.{state_of_number, state_number}
use Rattle.check_states.specs.State.{is_another_state}
use Rattle.check_states.proofs.Cases.{each_state}
use Rattle.check_states.proofs.FlappingLemmas.{few_changes, in_two, last_read, pairs_are_walked, within_all}

-- ---- one more result

-- where 21 are there, the oldest goes
full_kept : (oldest : State) (newer : List State) (found : State) → length newer ≡ 20 → results_after (oldest ∷ newer) found ≡ newer ++ found ∷ []
full_kept oldest newer found e =
    let all = newer ++ found ∷ [] in
    let long = length-append newer (found ∷ []) in
    let one : length (oldest ∷ all) - 21 ≡ 1 = omega (arith, long, e) in
    ap (λ place. drop place (oldest ∷ all)) one

-- no more are kept than can be
pub few_kept : (results : List State) (found : State) → length (results_after results found) ≤ 21
few_kept results found =
    let all = results ++ found ∷ [] in
    omega (arith, length-drop (length all - 21) all)

-- up to 21 are all kept
pub all_kept : (results : List State) → length results ≤ 21 → keep_last 21 results ≡ results
all_kept results bounded = let none : length results - 21 ≡ 0 = omega (arith, bounded) in ap (λ place. drop place results) none

last_dropped : (n : ℕ) (before : State) (results : List State) (newest : State) → n ≤ length results
    → last_after before (drop n (results ++ newest ∷ [])) ≡ newest
last_dropped zero before [] newest bounded = refl
last_dropped zero before (next ∷ rest) newest bounded = last_dropped zero next rest newest (omega arith)
last_dropped (suc n) before [] newest bounded = absurd (omega (arith, bounded))
last_dropped (suc n) before (next ∷ rest) newest bounded = last_dropped n before rest newest (omega (arith, bounded))

-- the last of those that are kept is the new one
pub last_kept : (before : State) (results : List State) (found : State) → last_after before (results_after results found) ≡ found
last_kept before results found =
    let long = length-append results (found ∷ []) in
    last_dropped (length (results ++ found ∷ []) - 21) before results found (omega (arith, long))

-- a full ring hands out its oldest result where it takes one more
replaced_by : (bounded : Bool) (results : List State) (found oldest : State) (capacity : ℕ) → nat_lt (length results) capacity ≡ bounded
    → Some oldest ≡ cond bounded None (slice_get (results ++ found ∷ []) 0) → length results ≤ capacity
    → (length results ≡ capacity) × (slice_get (results ++ found ∷ []) 0 ≡ Some oldest)
replaced_by true results found oldest capacity e out within = cc
replaced_by false results found oldest capacity e out within =
    let most : capacity ≤ length results = grind (arith, nat_tests, e) in
    (omega (arith, most, within), sym out)

pub replaced : (results : List State) (found oldest : State) (capacity : ℕ)
    → Some oldest ≡ cond (nat_lt (length results) capacity) None (slice_get (results ++ found ∷ []) 0) → length results ≤ capacity
    → (length results ≡ capacity) × (slice_get (results ++ found ∷ []) 0 ≡ Some oldest)
replaced results found oldest capacity out within = replaced_by (nat_lt (length results) capacity) results found oldest capacity refl out within

-- ---- each 2 more

two_more : (b : Bool) (weight more less n : ℕ) → more ≡ less + 2 * n → cond b (weight + 2) 0 + more ≡ cond b weight 0 + less + 2 * (flag b + n)
two_more true weight more less n e = omega (arith, e)
two_more false weight more less n e = omega (arith, e)

-- where each change weighs 2 more, all weigh twice as much more as they are
each_more : (before : State) (rest : List State) (weight : ℕ)
    → weight_after before rest (weight + 2) ≡ weight_after before rest weight + 2 * changes_after before rest
each_more before [] weight = omega arith
each_more before (found ∷ rest) weight =
    two_more (is_another_state found before) weight (weight_after found rest (weight + 2 + 2)) (weight_after found rest (weight + 2)) (changes_after found rest)
    (each_more found rest (weight + 2))

-- ---- one comes, and one goes

one_counted : (b : Bool) (a n m : ℕ) → n ≡ m + a → flag b + n ≡ flag b + m + a
one_counted b a n m e = omega (arith, e)

counted_after : (before : State) (rest : List State) (found : State)
    → changes_after before (rest ++ found ∷ []) ≡ changes_after before rest + flag (is_another_state found (last_after before rest))
counted_after before [] found = omega arith
counted_after before (next ∷ rest) found =
    one_counted (is_another_state next before) (flag (is_another_state found (last_after next rest)))
    (changes_after next (rest ++ found ∷ [])) (changes_after next rest) (counted_after next rest found)

-- a change weighs this much, or nothing where there is none
weighs : (b : Bool) (weight by more all : ℕ) → weight ≡ by → all ≡ cond b weight 0 + more → all ≡ by * flag b + more
weighs true weight by more all e h = omega (arith, e, h)
weighs false weight by more all e h = omega (arith, h)

small_flag : (b : Bool) → flag b ≤ 1
small_flag true = omega arith
small_flag false = omega arith

-- What holds of 21 results with one more of them: whether a change goes with the oldest, and whether the new one is a change.
pub record IsOneLater (results : List State) (found : State) (loses_change gains_change : Bool) : Type 0 where
  pub full : length results ≡ 21
  pub in_range : flag loses_change ≤ changes_in results
  pub bounded : changes_in results ≤ 20
  pub lower_bound : 57 * flag loses_change + 2 * (changes_in results - flag loses_change) ≤ changes_weight results
  pub upper_bound : changes_weight results ≤ 1520
  pub weight : changes_weight (results_after results found) + 57 * flag loses_change + 2 * (changes_in results - flag loses_change) ≡ changes_weight results + 95 * flag gains_change
  pub count : changes_in (results_after results found) + flag loses_change ≡ changes_in results + flag gains_change
  pub long : length (results_after results found) ≡ 21
  pub lighter : changes_weight (results_after results found) ≤ 1520

one_later_of : (oldest second : State) (rest : List State) (found : State) → length rest ≡ 19
    → IsOneLater (oldest ∷ second ∷ rest) found (is_another_state second oldest) (is_another_state found (last_after second rest))
one_later_of oldest second rest found e =
    let loses_change = is_another_state second oldest in
    let gains_change = is_another_state found (last_after second rest) in
    let stay = changes_after second rest in
    let all = changes_weight (oldest ∷ second ∷ rest) in
    let kept : results_after (oldest ∷ second ∷ rest) found ≡ second ∷ (rest ++ found ∷ []) = full_kept oldest (second ∷ rest) found (omega (arith, e)) in
    let more = length-append rest (found ∷ []) in
    let long : length (results_after (oldest ∷ second ∷ rest) found) ≡ 21 = ap length kept ∙ omega (arith, more, e) in
    let old : all ≡ 57 * flag loses_change + weight_after second rest 59 =
    weighs loses_change 57 57 (weight_after second rest 59) all refl (pairs_are_walked 0 oldest (second ∷ rest)) in
    let heavier : weight_after second rest 59 ≡ weight_after second rest 57 + 2 * stay = each_more second rest 57 in
    let last = last_after second rest in
    let newest = weighs gains_change (57 + 2 * length rest) 95 0 (weight_after last (found ∷ []) (57 + 2 * length rest)) (omega (arith, e)) refl in
    let new : changes_weight (results_after (oldest ∷ second ∷ rest) found) ≡ weight_after second rest 57 + weight_after last (found ∷ []) (57 + 2 * length rest) =
    ap changes_weight kept ∙ pairs_are_walked 0 second (rest ++ found ∷ []) ∙ in_two second rest (found ∷ []) 57 in
    let counted : changes_in (results_after (oldest ∷ second ∷ rest) found) ≡ stay + flag gains_change = ap changes_in kept ∙ counted_after second rest found in
    let most = few_changes second rest in
    let small = small_flag loses_change in
    let upper_bound = within_all (oldest ∷ second ∷ rest) (omega (arith, e)) in
    let lighter = within_all (results_after (oldest ∷ second ∷ rest) found) (omega (arith, long)) in
    record {
      full = omega (arith, e);
      in_range = omega arith;
      bounded = omega (arith, most, small, e);
      lower_bound = omega (arith, old, heavier);
      upper_bound = upper_bound;
      weight = omega (arith, old, heavier, newest, new);
      count = omega (arith, counted);
      long = long;
      lighter = lighter;
    }

-- the same by what is read of the results: the oldest, the one that is the oldest then, and the newest
pub one_later : (results : List State) (found oldest second newest : State) → length results ≡ 21 → slice_get (results ++ found ∷ []) 0 ≡ Some oldest
    → second ≡ unwrap_or (slice_get (results_after results found) 0) oldest → last_after newest results ≡ newest
    → IsOneLater results found (is_another_state second oldest) (is_another_state found newest)
one_later [] found oldest second newest e front next last = absurd (omega (arith, e))
one_later (first ∷ []) found oldest second newest e front next last = absurd (omega (arith, e))
one_later (first ∷ after ∷ rest) found oldest second newest e front next last =
    let is_first : oldest ≡ first = sym (ap (λ read. unwrap_or read oldest) front) in
    let kept = full_kept first (after ∷ rest) found (omega (arith, e)) in
    let is_after : second ≡ after = next ∙ ap (λ results. unwrap_or (slice_get results 0) oldest) kept in
    rw (is_first, is_after, ← last) (one_later_of first after rest found (omega (arith, e)))

-- ---- no change

abbrev state_numbered : ℕ → State
state_numbered n = unwrap_or (state_of_number n) state.Ok

number_read : (s : State) → state_numbered (state_number s) ≡ s
number_read = each_state (λ s. state_numbered (state_number s) ≡ s) refl refl refl refl refl refl refl

same_state_found : (found before : State) → is_another_state found before ≡ false → found ≡ before
same_state_found found before e =
    let same : state_number found ≡ state_number before = eqb-true (state_number found) (state_number before) (not-false (state_number found == state_number before) e) in
    sym (number_read found) ∙ ap state_numbered same ∙ number_read before

none_of_sum : (b : Bool) (n : ℕ) → flag b + n ≡ 0 → (b ≡ false) × (n ≡ 0)
none_of_sum true n e = absurd (let more : 1 + n ≡ 0 = e in omega (arith, more))
none_of_sum false n e = (refl, omega (arith, e))

-- where there is no change, all results are the oldest
no_change : (before : State) (rest : List State) → changes_after before rest ≡ 0 → rest ≡ replicate (length rest) before
no_change before [] e = refl
no_change before (found ∷ rest) e =
    let none = none_of_sum (is_another_state found before) (changes_after found rest) e in
    let same = same_state_found found before none.0 in
    ap (λ more. found ∷ more) (no_change found rest none.1) ∙ ap (λ s. s ∷ replicate (length rest) s) same

-- what is kept of 21 results among which nothing changed, with one more that is no change: as it was, and its percent is 0
pub record IsSettled (results : List State) (found : State) : Type 0 where
  pub kept : results_after results found ≡ results
  pub percent : percent_of results ≡ 0

-- 21 results that are one state
no_percent : (s : State) → percent_of (replicate 21 s) ≡ 0
no_percent = each_state (λ s. percent_of (replicate 21 s) ≡ 0) refl refl refl refl refl refl refl

-- the last of some results, where it is read with another state for none
pub last_where : (results : List State) (default newest : State) → newest ≡ unwrap_or (slice_get results (length results - 1)) default
    → last_after newest results ≡ newest
last_where results default newest e =
    let last = e ∙ last_read default results in
    last_of results default newest last
  where
    last_of : (results : List State) (default newest : State) → newest ≡ last_after default results → last_after newest results ≡ newest
    last_of [] default newest e = refl
    last_of (first ∷ rest) default newest e = sym e

pub settled : (results : List State) (found newest : State) → length results ≡ 21 → changes_in results ≡ 0 → last_after newest results ≡ newest
    → is_another_state found newest ≡ false → IsSettled results found
settled [] found newest e none last same = absurd (omega (arith, e))
settled (oldest ∷ rest) found newest e none last same =
    let long : length rest ≡ 20 = omega (arith, e) in
    let all : rest ≡ replicate 20 oldest = no_change oldest rest none ∙ ap (λ n. replicate n oldest) long in
    let is_newest : newest ≡ oldest = sym last ∙ ap (last_after oldest) all in
    let is_found : found ≡ oldest = same_state_found found newest same ∙ is_newest in
    record {
      kept = full_kept oldest rest found long ∙ ap (λ s. rest ++ s ∷ []) is_found ∙ ap (λ more. more ++ oldest ∷ []) all
          ∙ ap (λ more. oldest ∷ more) (sym all);
      percent = ap (λ more. percent_of (oldest ∷ more)) all ∙ no_percent oldest;
    }
