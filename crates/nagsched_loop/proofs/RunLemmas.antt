-- Lists of runs: what calls leave of them.
use Rattle.std.proofs.Common.{◌≡◌, ℕ, zero, ◌<◌, ◌≤◌, Bool, true, false, not, ◌||◌, cond, List, [], ◌∷◌, ◌++◌, length, refl, sym, ap, ◌∙◌, arith, append-nil}
use Rattle.std.proofs.Common.{append_assoc}
use mathlib.Core.Bool.{true≢false}
use mathlib.Core.List.{IsPrefix}
use Rattle.std.specs.Prelude.{◌==◌, ◌&&◌, filter, Contains, Some, option_and_then, option_map}
use Rattle.std.specs.List.{All}
use Rattle.std.proofs.Common.{⊎_elim}
use Rattle.std.proofs.lemmas.Bool.{cases_lt, eq-eqb}
use Rattle.std.proofs.lemmas.Option.{none-some, slice_get_past}
use Rattle.std.proofs.lemmas.List.Elements.{All-cons, All-nil, All-contains, All-contains_itself, All-filter, Contains-append_left, Contains-append_right}
use Rattle.std.proofs.lemmas.List.Elements.{filter_agree}
use Rattle.ticket_steps.specs.declared.books.Entry.{Entry}
use Rattle.ticket_steps.specs.History.{entry}
use Rattle.ticket_lock.specs.Callers.{Caller}
use Rattle.check_sched.specs.declared.call.Call.{Call}
use Rattle.check_sched.specs.declared.call.Call.TheVariants as call
use Rattle.check_sched.specs.declared.call.Reply.{Reply}
use Rattle.check_sched.specs.State.{State, run_number_of}
use Rattle.check_desk.specs.Desks.{HasRecorded}
use Rattle.nagsched_loop.specs.Loop.{KeepsOtherRuns, KeepsRuns, has_call_for, runs_after_call, runs_after_calls, is_call_for}
use Rattle.nagsched_loop.specs.declared.runs.Run.{Run}

-- ---- filters

module _ (p : Run → Bool) where
  listed : (b : Bool) (x y : Run) (us : List Run) → Contains us y → Contains (cond b (x ∷ us) us) y
  listed true x y us c = Contains-append_right (x ∷ []) us y c
  listed false x y us c = c

  first : (b : Bool) (x : Run) (us : List Run) → b ≡ true → Contains (cond b (x ∷ us) us) x
  first true x us e = (zero, omega arith, refl)
  first false x us e = absurd (true≢false (sym e))

  pub kept_by_filter : (xs : List Run) → All (λ x. p x ≡ true → Contains (filter p xs) x) xs
  kept_by_filter [] = All-nil (λ x. p x ≡ true → Contains [] x)
  kept_by_filter (x ∷ xs) =
      let us = filter p xs in
      All-cons (λ y. p y ≡ true → Contains (cond (p x) (x ∷ us) us) y) x xs (first (p x) x us)
      (λ k d lt e. listed (p x) x _ us (kept_by_filter xs k d lt e))

  shorter : (b : Bool) (x : Run) (us xs : List Run) → length us ≤ length xs → length (cond b (x ∷ us) us) ≤ length (x ∷ xs)
  shorter true x us xs le = omega arith
  shorter false x us xs le = omega arith

  no_longer : (xs : List Run) → length (filter p xs) ≤ length xs
  no_longer [] = omega arith
  no_longer (x ∷ xs) = shorter (p x) x (filter p xs) xs (no_longer xs)

  less_head : (b : Bool) (x : Run) (us xs : List Run) → b ≡ false → length us ≤ length xs → length (cond b (x ∷ us) us) < length (x ∷ xs)
  less_head true x us xs e le = absurd (true≢false e)
  less_head false x us xs e le = omega arith

  less_tail : (b : Bool) (x : Run) (us xs : List Run) → length us < length xs → length (cond b (x ∷ us) us) < length (x ∷ xs)
  less_tail true x us xs lt = omega arith
  less_tail false x us xs lt = omega arith

  -- without one of its elements a list is shorter
  filter_shorter : (xs : List Run) → All (λ x. p x ≡ false → length (filter p xs) < length xs) xs
  filter_shorter [] = All-nil (λ x. p x ≡ false → length (filter p []) < 0)
  filter_shorter (x ∷ xs) =
      All-cons (λ y. p y ≡ false → length (cond (p x) (x ∷ filter p xs) (filter p xs)) < length (x ∷ xs)) x xs
      (λ e. less_head (p x) x (filter p xs) xs e (no_longer xs))
      (λ k d lt e. less_tail (p x) x (filter p xs) xs (filter_shorter xs k d lt e))

-- ---- what calls leave

either : (a b : Bool) → a || b ≡ false → (a ≡ false) × (b ≡ false)
either true b e = absurd (true≢false e)
either false b e = (refl, e)

or_assoc : (a b c : Bool) → a || (b || c) ≡ (a || b) || c
or_assoc true b c = refl
or_assoc false b c = refl

or_false : (a : Bool) → a || false ≡ a
or_false true = refl
or_false false = refl

named_append : (es fs : List (Entry Call Reply)) (run : Run) → has_call_for (es ++ fs) run ≡ has_call_for es run || has_call_for fs run
named_append [] fs run = refl
named_append (e ∷ es) fs run =
    ap (λ b. is_call_for e.call run || b) (named_append es fs run) ∙ or_assoc (is_call_for e.call run) (has_call_for es run) (has_call_for fs run)

-- what several calls leave is what the later ones leave of what the earlier ones left
pub left_then : (es fs : List (Entry Call Reply)) (runs : List Run) → runs_after_calls (es ++ fs) runs ≡ runs_after_calls fs (runs_after_calls es runs)
left_then es fs [] = refl
left_then es fs (run ∷ runs) =
    ap (λ b. cond (not b) (run ∷ runs_after_calls (es ++ fs) runs) (runs_after_calls (es ++ fs) runs)) (named_append es fs run)
    ∙ ap (λ l. cond (not (has_call_for es run || has_call_for fs run)) (run ∷ l) l) (left_then es fs runs) ∙ step (has_call_for es run)
  where
    step : (a : Bool) → cond (not (a || has_call_for fs run)) (run ∷ runs_after_calls fs (runs_after_calls es runs)) (runs_after_calls fs (runs_after_calls es runs))
        ≡ runs_after_calls fs (cond (not a) (run ∷ runs_after_calls es runs) (runs_after_calls es runs))
    step true = refl
    step false = refl

pub left_none : (runs : List Run) → runs ≡ runs_after_calls [] runs
left_none [] = refl
left_none (run ∷ runs) = ap (λ l. run ∷ l) (left_none runs)

-- one call more
pub left_more : (es : List (Entry Call Reply)) (e : Entry Call Reply) (first runs left : List Run)
    → runs ≡ runs_after_calls es first → left ≡ runs_after_call e.call runs → left ≡ runs_after_calls (es ++ e ∷ []) first
left_more es e first runs left f g =
    g ∙ ap (runs_after_call e.call) f
    ∙ filter_agree (λ run. not (is_call_for e.call run)) (λ run. not (has_call_for (e ∷ []) run)) (λ run. ap not (sym (or_false (is_call_for e.call run)))) (runs_after_calls es first)
    ∙ sym (left_then es (e ∷ []) first)

pub left_of_within : (es : List (Entry Call Reply)) (runs : List Run) → All (Contains runs) (runs_after_calls es runs)
left_of_within es runs = All-filter (λ run. not (has_call_for es run)) (Contains runs) runs (All-contains_itself runs)

pub left_shorter : (asked : Call) (runs : List Run) (run : Run) → Contains runs run → is_call_for asked run ≡ true → length (runs_after_call asked runs) < length runs
left_shorter asked runs run at e =
    All-contains (λ x. not (is_call_for asked x) ≡ false → length (runs_after_call asked runs) < length runs) runs run
    (filter_shorter (λ x. not (is_call_for asked x)) runs) at (ap not e)

-- giving a run up names it
pub names_itself : (run : Run) (now : ℕ) → is_call_for (call.Abandon run.object run.number now) run ≡ true
names_itself run now =
    ap (λ b. b && (run.number == run.number)) (eq-eqb run.object run.object refl) ∙ eq-eqb run.number run.number refl

-- ---- no run is forgotten

pub keeps_same : (before after : List (Entry Call Reply)) (runs : List Run) → IsPrefix before after → KeepsRuns before after runs runs
keeps_same before after runs seen = (seen.0, seen.1, λ k d lt e. All-contains_itself runs k d lt)

pub keeps_none : (seen : List (Entry Call Reply)) (runs : List Run) → KeepsRuns seen seen runs runs
keeps_none seen runs = keeps_same seen seen runs ([], append-nil seen)

pub keeps_pushed : (before after : List (Entry Call Reply)) (runs more : List Run) → IsPrefix before after → KeepsRuns before after runs (runs ++ more)
keeps_pushed before after runs more seen =
    (seen.0, seen.1, λ k d lt e. Contains-append_left runs more _ (All-contains_itself runs k d lt))

pub kept_then : (es fs : List (Entry Call Reply)) (rs ss ts : List Run) → KeepsOtherRuns es rs ss → KeepsOtherRuns fs ss ts → KeepsOtherRuns (es ++ fs) rs ts
kept_then es fs rs ss ts f g = λ k d lt e.
    let both = either _ _ (sym (named_append es fs _) ∙ e) in
    All-contains (λ run. has_call_for fs run ≡ false → Contains ts run) ss _ g (f k d lt both.0) both.1

pub keeps_then : (a b c : List (Entry Call Reply)) (rs ss ts : List Run) → KeepsRuns a b rs ss → KeepsRuns b c ss ts → KeepsRuns a c rs ts
keeps_then a b c rs ss ts f g = (
  f.0 ++ g.0,
  sym (append_assoc a f.0 g.0) ∙ ap (λ l. l ++ g.0) f.1 ∙ g.1,
  kept_then f.0 g.0 rs ss ts f.2 g.2,
)

-- a call was made, and the runs that it names have left the list
pub keeps_called : (asked : Call) (reply : Reply) (before after : Caller Call Reply) (runs : List Run)
    → HasRecorded asked reply before after → KeepsRuns before.seen after.seen runs (runs_after_call asked runs)
keeps_called asked reply before after runs h =
    let e = entry before.own asked reply in
    let new = h.follows.0.0 in (
      new ++ e ∷ [],
      sym (append_assoc before.seen new (e ∷ [])) ∙ ap (λ l. l ++ e ∷ []) h.follows.0.1 ∙ sym (ap (λ c. c.seen) h.after_is),
      λ k d lt f. let both = either _ _ (sym (named_append new (e ∷ []) _) ∙ f) in
          kept_by_filter (λ run. not (is_call_for asked run)) runs k d lt (ap not (either _ _ both.1).0),
    )

-- ---- the checks of a scheduler

-- an object that is being checked is there
pub running_there : (object number : ℕ) (s : State) → run_number_of object s ≡ Some number → object < length s.objects
running_there object number s is =
    ⊎_elim (λ lt. lt)
    (λ le. absurd (none-some number
    (sym (ap (λ found. option_map (λ r. r.number) (option_and_then (λ o. o.run) found)) (slice_get_past s.objects object le)) ∙ is)))
    (cases_lt object (length s.objects))
