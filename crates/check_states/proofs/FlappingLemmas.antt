-- The weights of changes, added up one result after another.
use Rattle.std.proofs.Common.{◌≡◌, ℕ, ◌+◌, ◌*◌, ◌≤◌, ◌-◌, zero, suc, Bool, true, false, cond, List, [], ◌∷◌, ◌++◌, length, refl, sym, ap, ◌∙◌, arith}
use Rattle.std.specs.Prelude.{zip, slice_get, Some, unwrap_or}
use Rattle.std.specs.List.{enumerate_from, sum_by}
use Rattle.std.proofs.lemmas.Bool.Decides.{nat_tests}
use Rattle.std.proofs.lemmas.List.Sums.{sum_by-cons}
use Rattle.std.proofs.lemmas.Option.{none-some}
use Rattle.check_states.specs.declared.state.State.{State}
use Rattle.check_states.specs.State.{is_another_state}
use Rattle.check_states.specs.Board.{flag}
use Rattle.check_states.specs.Changes.{changes_after, changes_in, last_after, weight_after}
use Rattle.check_states.specs.Flapping.{changes_weight, weight_between}

-- ---- the definition by pairs and the walk

-- from change i on, the weights of the pairs are those of the walk
pub pairs_are_walked : (i : ℕ) (before : State) (rest : List State)
    → sum_by weight_between (enumerate_from i (zip (before ∷ rest) rest)) ≡ weight_after before rest (57 + 2 * i)
pairs_are_walked i before [] = refl
pairs_are_walked i before (found ∷ rest) =
    sum_by-cons weight_between (i, (before, found)) (enumerate_from (i + 1) (zip (found ∷ rest) rest))
    ∙ ap (λ n. weight_between (i, (before, found)) + n) (pairs_are_walked (i + 1) found rest)
    ∙ ap (λ w. weight_between (i, (before, found)) + weight_after found rest w) (omega arith)

-- no state is another than itself
same_state : (s : State) → is_another_state s s ≡ false
same_state s = grind (arith, nat_tests)

-- a walk from the oldest result over all of them finds no change before the second
from_oldest : (oldest : State) (rest : List State) → weight_after oldest (oldest ∷ rest) 55 ≡ changes_weight (oldest ∷ rest)
from_oldest oldest rest = rw (same_state oldest) (omega arith ∙ sym (pairs_are_walked 0 oldest rest))

counted_from_oldest : (oldest : State) (rest : List State) → changes_after oldest (oldest ∷ rest) ≡ changes_in (oldest ∷ rest)
counted_from_oldest oldest rest = rw (same_state oldest) (omega arith)

-- ---- a walk in two parts

plus_none : (n : ℕ) → n ≡ n + 0
plus_none n = omega arith

none_plus : (n : ℕ) → n ≡ 0 + n
none_plus n = omega arith

one_step : (weight n : ℕ) → weight + 2 + 2 * n ≡ weight + 2 * suc n
one_step weight n = omega arith

grouped : (a b c : ℕ) → a + (b + c) ≡ a + b + c
grouped a b c = omega arith

pub in_two : (before : State) (older newer : List State) (weight : ℕ)
    → weight_after before (older ++ newer) weight ≡ weight_after before older weight + weight_after (last_after before older) newer (weight + 2 * length older)
in_two before [] newer weight = ap (λ w. weight_after before newer w) (plus_none weight) ∙ none_plus (weight_after before newer (weight + 0))
in_two before (found ∷ rest) newer weight =
    let first = cond (is_another_state found before) weight 0 in
    let older = weight_after found rest (weight + 2) in
    ap (λ n. first + n) (in_two found rest newer (weight + 2))
    ∙ ap (λ w. first + (older + weight_after (last_after found rest) newer w)) (one_step weight (length rest))
    ∙ grouped first older (weight_after (last_after found rest) newer (weight + 2 * suc (length rest)))

counted_in_two : (before : State) (older newer : List State)
    → changes_after before (older ++ newer) ≡ changes_after before older + changes_after (last_after before older) newer
counted_in_two before [] newer = none_plus (changes_after before newer)
counted_in_two before (found ∷ rest) newer =
    let first = flag (is_another_state found before) in
    ap (λ n. first + n) (counted_in_two found rest newer) ∙ grouped first (changes_after found rest) (changes_after (last_after found rest) newer)

one_less : (n : ℕ) → suc n - 1 ≡ n
one_less n = omega arith

last_at : (default first : State) (rest : List State) → unwrap_or (slice_get (first ∷ rest) (length rest)) default ≡ last_after first rest
last_at default first [] = refl
last_at default first (next ∷ rest) = last_at default next rest

-- the last of some results as it is read, and the one before them where there is none
pub last_read : (before : State) (results : List State) → unwrap_or (slice_get results (length results - 1)) before ≡ last_after before results
last_read before [] = refl
last_read before (first ∷ rest) =
    ap (λ place. unwrap_or (slice_get (first ∷ rest) place) before) (one_less (length rest)) ∙ last_at before first rest

-- What holds of the two parts of a list, gone through from its oldest result on: their changes are those of the list.
pub record AreWhole (results older newer : List State) (oldest before_newer : State) : Type 0 where
  pub weight : weight_after oldest older 55 + weight_after before_newer newer (55 + 2 * length older) ≡ changes_weight results
  pub count : changes_after oldest older + changes_after before_newer newer ≡ changes_in results

walked_in_two : (older newer : List State) (oldest : State) (rest : List State) → older ++ newer ≡ oldest ∷ rest
    → AreWhole (oldest ∷ rest) older newer oldest (last_after oldest older)
walked_in_two older newer oldest rest e = record {
  weight = sym (in_two oldest older newer 55) ∙ ap (λ all. weight_after oldest all 55) e ∙ from_oldest oldest rest;
  count = sym (counted_in_two oldest older newer) ∙ ap (changes_after oldest) e ∙ counted_from_oldest oldest rest;
}

pub parts_are_whole : (results older newer : List State) (oldest before_newer : State) → older ++ newer ≡ results → Some oldest ≡ slice_get results 0
    → before_newer ≡ unwrap_or (slice_get older (length older - 1)) oldest → AreWhole results older newer oldest before_newer
parts_are_whole [] older newer oldest before_newer e front last = absurd (none-some oldest (sym front))
parts_are_whole (first ∷ rest) older newer oldest before_newer e front last =
    rw (last ∙ last_read oldest older, ap (λ found. unwrap_or found oldest) front) (walked_in_two older newer first rest e)

-- ---- no more than all changes together

few_counted : (b : Bool) (n k : ℕ) → n ≤ k → flag b + n ≤ suc k
few_counted true n k h = omega (arith, h)
few_counted false n k h = omega (arith, h)

-- there is at most a change a result
pub few_changes : (before : State) (rest : List State) → changes_after before rest ≤ length rest
few_changes before [] = omega arith
few_changes before (found ∷ rest) = few_counted (is_another_state found before) (changes_after found rest) (length rest) (few_changes found rest)

-- what this many changes weigh, where the first weighs this much
abbrev all_after : ℕ → ℕ → ℕ
all_after zero weight = 0
all_after (suc count) weight = weight + all_after count (weight + 2)

at_most_first : (b : Bool) (weight rest most : ℕ) → rest ≤ most → cond b weight 0 + rest ≤ weight + most
at_most_first true weight rest most h = omega (arith, h)
at_most_first false weight rest most h = omega (arith, h)

at_most_all : (before : State) (rest : List State) (weight : ℕ) → weight_after before rest weight ≤ all_after (length rest) weight
at_most_all before [] weight = omega arith
at_most_all before (found ∷ rest) weight =
    at_most_first (is_another_state found before) weight (weight_after found rest (weight + 2)) (all_after (length rest) (weight + 2))
    (at_most_all found rest (weight + 2))

sum_more : (n k : ℕ) → suc n + k ≡ suc (n + k)
sum_more n k = omega arith

-- more changes weigh more
more_weigh : (n k weight : ℕ) → all_after n weight ≤ all_after (n + k) weight
more_weigh zero k weight = omega arith
more_weigh (suc n) k weight =
    let more = more_weigh n k (weight + 2) in
    let next : all_after (suc n + k) weight ≡ weight + all_after (n + k) (weight + 2) = ap (λ m. all_after m weight) (sum_more n k) in
    omega (arith, more, next)

-- the changes among 21 results weigh at most 1,520, and among fewer no more
pub within_all : (results : List State) → length results ≤ 21 → changes_weight results ≤ 1520
within_all [] bounded = omega arith
within_all (oldest ∷ rest) bounded =
    let most = at_most_all oldest rest 57 in
    let spare = 20 - length rest in
    let all : length rest + spare ≡ 20 = omega (arith, bounded) in
    let more = more_weigh (length rest) spare 57 in
    let whole : all_after (length rest + spare) 57 ≡ 1520 = ap (λ n. all_after n 57) all in
    rw (pairs_are_walked 0 oldest rest) (omega (arith, most, more, whole))

-- there are fewer changes than results
pub within_count : (results : List State) → length results ≤ 21 → changes_in results ≤ 20
within_count [] bounded = omega arith
within_count (oldest ∷ rest) bounded = let most = few_changes oldest rest in omega (arith, most, bounded)
