-- The shifts of a crew, in the book that it leaves.
use Rattle.std.proofs.Common.{◌≡◌, ℕ, zero, suc, ◌+◌, ◌*◌, ◌<◌, ◌≤◌, List, [], ◌∷◌, ◌++◌, length, map, Option, Some, None, refl, sym, ap, subst, ◌∙◌}
use Rattle.std.proofs.Common.{length-append, arith}
use Rattle.std.specs.Prelude.{flat_map, sum_by, Result, Ok, Err, IfOk, IfErr}
use Rattle.std.specs.List.{All}
use Rattle.std.proofs.lemmas.List.{length-map}
use Rattle.std.proofs.lemmas.List.Concat.{flat_map-cons}
use Rattle.std.proofs.lemmas.List.Elements.{All-head, All-tail}
use Rattle.std.proofs.lemmas.List.Sums.{sum_by-cons}
use mathlib.Core.List.{IsPrefix}
use Rattle.ticket_steps.specs.declared.books.Entry.{Entry}
use Rattle.ticket_steps.specs.Sums.{occurrences}
use Rattle.ticket_lock.specs.Views.{Follows}
use Rattle.check_states.specs.declared.state.Code.{Code}
use Rattle.check_sched.specs.declared.call.Call.{Call}
use Rattle.check_sched.specs.declared.call.Reply.{Reply}
use Rattle.check_sched.specs.declared.call.Reply.TheVariants as reply
use Rattle.check_desk.specs.declared.desk.Desk.{Desk}
use Rattle.check_desk.specs.declared.passes.Pass.{Pass}
use Rattle.check_desk.specs.Desks.{desk_opening}
use Rattle.check_desk.specs.Passes.{pass_of}
use Rattle.check_workers.specs.declared.crews.CrewError.{CrewError}
use Rattle.check_workers.specs.declared.crews.CrewError.TheVariants as error
use Rattle.check_workers.specs.declared.tally.Stop.{Stop}
use Rattle.check_workers.specs.declared.tally.Stop.TheVariants as stop
use Rattle.check_workers.specs.declared.tally.Tally.{Tally}
use Rattle.check_workers.specs.Crews.{AreShiftsOf, AreWorkerResults, HaveCallsLeft, MatchCrewError, IsShiftOf, IsTallied, IsTallyWithin, IsWorkerResult}
use Rattle.check_workers.specs.Crews.{calls_counted, calls_of_passes}
use Rattle.check_workers.specs.Crews.{pass_count, pass_numbers, tally_sum, tally_of_all}
use Rattle.check_workers.specs.Shifts.{IsStopReason, OpenCheck, Round, Shift, open_entries, open_moments, round_entries, shift_entries, shift_moments, stops_of}
use Rattle.check_workers.specs.Shifts.{unanswered}
use Rattle.check_workers.specs.Tallies.{IsSum, plus, tally_of}
use Rattle.check_workers.proofs.CallerLemmas.{prefix_trans}
use Rattle.check_workers.proofs.ShiftLemmas.{rounds_entries, shift_calls, unanswered_count}
use Rattle.check_workers.proofs.SumLemmas.{sum_plus}
use Rattle.check_workers.proofs.TallyLemmas.{tally_append, tally_within}

length_prefix : {A : Type 0} (xs ys : List A) → IsPrefix xs ys → length xs ≤ length ys
length_prefix xs ys (zs, e) = let len = ap length (sym e) ∙ length-append xs zs in omega arith

-- ---- one shift

reason_in : (room a b left : ℕ) (o : Option Stop) → a ≤ b → IsStopReason room a left o → IsStopReason room b left o
reason_in room a b left None le r = tt
reason_in room a b left (Some stop.NoMemory) le r = omega arith
reason_in room a b left (Some stop.Spent) le r = r

one_shift : (allows : ℕ → ℕ → ℕ → Code → Type 0) (moments : List ℕ) (desk : Desk) (pass back : Pass) (t : Tally) (history : List (Entry Call Reply))
    (w : IsWorkerResult allows moments desk pass back t)
    → Follows (pass_of back).numbers (pass_of back).seen history → IsShiftOf allows moments (desk_opening desk).room history (pass_of pass) w.shift
one_shift allows moments desk pass back t history w f = record {
  number = w.worked.number;
  shift = w.worked.shift;
  new = (λ n has. f.1 n (subst (λ l. 0 < occurrences n l) (sym w.worked.made.numbers) has) ∙ w.worked.made.new n has);
  left = (pass_of back).left;
  left_is = w.worked.made.left;
  reason =
      reason_in (desk_opening desk).room (length (pass_of back).seen) (length history) (pass_of back).left w.shift.stopped
      (length_prefix (pass_of back).seen history f.0) w.worked.reason;
}

-- the worker of a pass has made few calls more
pub worked_tallied : (allows : ℕ → ℕ → ℕ → Code → Type 0) (moments : List ℕ) (desk : Desk) (pass back : Pass) (t : Tally)
    → 0 < length (pass_of back).numbers → IsWorkerResult allows moments desk pass back t → IsTallied desk back t
worked_tallied allows moments desk pass back t some w =
    let calls = w.worked.made.calls in (
      w.of_desk,
      subst (IsTallyWithin (pass_of back).calls (length (pass_of back).numbers)) (sym w.counted)
          (tally_within (shift_entries w.shift) w.shift.stopped (pass_of back).calls (length (pass_of back).numbers) (omega arith) (omega arith)),
    )

-- ---- how many calls a shift has at most

round_calls : (number now : ℕ) (r : Reply) (result : Option (Code × Reply))
    → length (round_entries number (record { now = now; reply = r; result = result })) ≤ 2
round_calls number now (reply.Taken object run) (Some (code, answer)) = omega arith
round_calls number now (reply.Taken object run) None = omega arith
round_calls number now (reply.PutOff object until) result = omega arith
round_calls number now (reply.Idle next) result = omega arith
round_calls number now reply.AtLimit result = omega arith
round_calls number now (reply.Standing standing changed next) result = omega arith
round_calls number now (reply.Freed next) result = omega arith
round_calls number now reply.Done result = omega arith
round_calls number now (reply.Refused why) result = omega arith

rounds_calls : (number : ℕ) (rounds : List Round) → length (rounds_entries number rounds) ≤ 2 * length rounds
rounds_calls number [] = omega arith
rounds_calls number (r ∷ rounds) =
    let all = ap length (flat_map-cons (round_entries number) r rounds) ∙ length-append (round_entries number r) (rounds_entries number rounds) in
    let first = round_calls number r.now r.reply r.result in
    let rest = rounds_calls number rounds in
    omega arith

open_calls : (number : ℕ) (o : Option OpenCheck) → length (open_entries number o) ≤ 2 * length (open_moments o)
open_calls number None = omega arith
open_calls number (Some o) = omega arith

pub shift_short : (s : Shift) (moments : List ℕ) → IsPrefix (shift_moments s) moments → length (shift_entries s) ≤ 2 * length moments
shift_short s moments p =
    let short = length_prefix (shift_moments s) moments p in
    let entries = length-append (rounds_entries s.number s.rounds) (open_entries s.number s.left_open) in
    let asked = length-append (map (λ r. r.now) s.rounds) (open_moments s.left_open) in
    let rounds = rounds_calls s.number s.rounds in
    let last = open_calls s.number s.left_open in
    let same = length-map s.rounds (λ r. r.now) in
    omega arith

-- where calls are left, a worker stops only out of memory
stops_by : (room recorded left before calls moments : ℕ) (o : Option Stop) → IsStopReason room recorded left o → before ≡ left + calls + unanswered o
    → calls ≤ 2 * moments → 2 * moments < before → length (stops_of o) ≡ unanswered o
stops_by room recorded left before calls moments None r e short many = refl
stops_by room recorded left before calls moments (Some stop.NoMemory) r e short many = refl
stops_by room recorded left before calls moments (Some stop.Spent) r e short many = absurd (omega (arith, r, e, short, many))

-- ---- all shifts

module _ (allows : ℕ → ℕ → ℕ → Code → Type 0) (moments : List ℕ) (desk : Desk) where
  abbrev pub rest_worked : (p : Pass) (ps : List Pass) (w : Pass × Tally) (ws : List (Pass × Tally))
      → AreWorkerResults allows moments desk (p ∷ ps) (w ∷ ws) → AreWorkerResults allows moments desk ps ws
  rest_worked p ps w ws h = record {
    count = (let c = h.count in omega arith);
    each = (λ i d e lt. h.each (suc i) d e (omega arith));
  }

  abbrev pub first_worked : (p : Pass) (ps : List Pass) (w : Pass × Tally) (ws : List (Pass × Tally))
      → AreWorkerResults allows moments desk (p ∷ ps) (w ∷ ws) → IsWorkerResult allows moments desk p w.0 w.1
  first_worked p ps w ws h = h.each 0 p w (omega arith)

  abbrev pub shifts_from : (ps : List Pass) (ws : List (Pass × Tally)) → AreWorkerResults allows moments desk ps ws → List Shift
  shifts_from [] ws h = []
  shifts_from (p ∷ ps) [] h = []
  shifts_from (p ∷ ps) (w ∷ ws) h = (first_worked p ps w ws h).shift ∷ shifts_from ps ws (rest_worked p ps w ws h)

  pub are_shifts : (history : List (Entry Call Reply)) (ps : List Pass) (ws : List (Pass × Tally)) (h : AreWorkerResults allows moments desk ps ws)
      → All (λ w. Follows (pass_of w.0).numbers (pass_of w.0).seen history) ws
      → AreShiftsOf allows moments (desk_opening desk).room history ps (shifts_from ps ws h)
  are_shifts history [] ws h f = tt
  are_shifts history (p ∷ ps) [] h f = absurd (let c = h.count in omega arith)
  are_shifts history (p ∷ ps) (w ∷ ws) h f = (
    one_shift allows moments desk p w.0 w.1 history (first_worked p ps w ws h)
        (All-head (λ v. Follows (pass_of v.0).numbers (pass_of v.0).seen history) w ws f),
    are_shifts history ps ws (rest_worked p ps w ws h) (All-tail (λ v. Follows (pass_of v.0).numbers (pass_of v.0).seen history) w ws f),
  )

  -- the history begins with what each pass had seen when it was brought
  pub all_begin : (history : List (Entry Call Reply)) (ps : List Pass) (ws : List (Pass × Tally)) → AreWorkerResults allows moments desk ps ws
      → All (λ w. Follows (pass_of w.0).numbers (pass_of w.0).seen history) ws → All (λ p. IsPrefix (pass_of p).seen history) ps
  all_begin history [] ws h f k d lt = absurd (omega arith)
  all_begin history (p ∷ ps) [] h f k d lt = absurd (let c = h.count in omega arith)
  all_begin history (p ∷ ps) (w ∷ ws) h f zero d lt =
      let later = All-head (λ v. Follows (pass_of v.0).numbers (pass_of v.0).seen history) w ws f in
      prefix_trans (pass_of p).seen (pass_of w.0).seen history (first_worked p ps w ws h).worked.made.seen later.0
  all_begin history (p ∷ ps) (w ∷ ws) h f (suc k) d lt =
      all_begin history ps ws (rest_worked p ps w ws h) (All-tail (λ v. Follows (pass_of v.0).numbers (pass_of v.0).seen history) w ws f) k d (omega arith)

  pub all_tallied : ((pass : Pass) → 0 < length (pass_of pass).numbers) → (ps : List Pass) (ws : List (Pass × Tally))
      → AreWorkerResults allows moments desk ps ws → All (λ w. IsTallied desk w.0 w.1) ws
  all_tallied some [] [] h k d lt = absurd (omega arith)
  all_tallied some [] (w ∷ ws) h k d lt = absurd (let c = h.count in omega arith)
  all_tallied some (p ∷ ps) [] h k d lt = absurd (omega arith)
  all_tallied some (p ∷ ps) (w ∷ ws) h zero d lt = worked_tallied allows moments desk p w.0 w.1 (some w.0) (first_worked p ps w ws h)
  all_tallied some (p ∷ ps) (w ∷ ws) h (suc k) d lt = all_tallied some ps ws (rest_worked p ps w ws h) k d (omega arith)

  -- the sum of the tallies is the tally of all
  pub sum_is : (ps : List Pass) (ws : List (Pass × Tally)) (h : AreWorkerResults allows moments desk ps ws) → tally_sum ws ≡ tally_of_all (shifts_from ps ws h)
  sum_is [] [] h = refl
  sum_is [] (w ∷ ws) h = absurd (let c = h.count in omega arith)
  sum_is (p ∷ ps) [] h = refl
  sum_is (p ∷ ps) (w ∷ ws) h =
      let first = first_worked p ps w ws h in
      let rest = shifts_from ps ws (rest_worked p ps w ws h) in
      ap (λ t. plus t (tally_sum ws)) first.counted
      ∙ ap (plus (tally_of (shift_entries first.shift) (stops_of first.shift.stopped))) (sum_is ps ws (rest_worked p ps w ws h))
      ∙ sym (tally_append (shift_entries first.shift) (flat_map shift_entries rest) (stops_of first.shift.stopped) (flat_map (λ s. stops_of s.stopped) rest))
      ∙ ap (λ l. tally_of l (stops_of first.shift.stopped ++ flat_map (λ s. stops_of s.stopped) rest)) (sym (flat_map-cons shift_entries first.shift rest))
      ∙ ap (tally_of (flat_map shift_entries (first.shift ∷ rest))) (sym (flat_map-cons (λ s. stops_of s.stopped) first.shift rest))

  pub sum_sums : (ps : List Pass) (ws : List (Pass × Tally)) → AreWorkerResults allows moments desk ps ws → IsSum (tally_sum ws)
  sum_sums ps [] h = (refl, refl)
  sum_sums [] (w ∷ ws) h = absurd (let c = h.count in omega arith)
  sum_sums (p ∷ ps) (w ∷ ws) h = sum_plus w.1 (tally_sum ws) (first_worked p ps w ws h).sums (sum_sums ps ws (rest_worked p ps w ws h))

  -- the calls of all passes are those that they brought and those of the shifts
  pub sum_calls : (ps : List Pass) (ws : List (Pass × Tally)) → AreWorkerResults allows moments desk ps ws
      → sum_by (λ w. (pass_of w.0).calls) ws ≡ calls_of_passes ps + (tally_sum ws).takes + (tally_sum ws).reports + (tally_sum ws).unanswered
  sum_calls [] [] h = refl
  sum_calls [] (w ∷ ws) h = absurd (let c = h.count in omega arith)
  sum_calls (p ∷ ps) [] h = absurd (let c = h.count in omega arith)
  sum_calls (p ∷ ps) (w ∷ ws) h =
      let first = first_worked p ps w ws h in
      let here = first.worked.made.calls in
      let counted = shift_calls first.shift w.1 first.counted in
      let rest = sum_calls ps ws (rest_worked p ps w ws h) in
      let all = sum_by-cons (λ v. (pass_of v.0).calls) w ws in
      let brought = sum_by-cons (λ q. (pass_of q).calls) p ps in
      omega arith

  pub sum_stops : (ps : List Pass) (ws : List (Pass × Tally)) → AreWorkerResults allows moments desk ps ws → HaveCallsLeft (2 * length moments) ps
      → (tally_sum ws).stops ≡ (tally_sum ws).unanswered
  sum_stops ps [] h many = refl
  sum_stops [] (w ∷ ws) h many = absurd (let c = h.count in omega arith)
  sum_stops (p ∷ ps) (w ∷ ws) h many =
      let first = first_worked p ps w ws h in
      let made = first.worked in
      let stops = ap (λ t. t.stops) first.counted in
      let missing = ap (λ t. t.unanswered) first.counted ∙ unanswered_count first.shift.stopped in
      let same = stops_by (desk_opening desk).room (length (pass_of w.0).seen) (pass_of w.0).left (pass_of p).left (length (shift_entries first.shift))
      (length moments) first.shift.stopped
      made.reason made.made.left (shift_short first.shift moments made.shift.in_order) many.0 in
      let rest = sum_stops ps ws (rest_worked p ps w ws h) many.1 in
      omega arith

  -- the passes that come back stand for the numbers of those that were brought
  pub same_numbers : (ps : List Pass) (ws : List (Pass × Tally)) → AreWorkerResults allows moments desk ps ws
      → length (flat_map (λ w. (pass_of w.0).numbers) ws) ≡ pass_count ps
  same_numbers [] [] h = refl
  same_numbers [] (w ∷ ws) h = absurd (let c = h.count in omega arith)
  same_numbers (p ∷ ps) [] h = absurd (let c = h.count in omega arith)
  same_numbers (p ∷ ps) (w ∷ ws) h =
      let here = ap length (first_worked p ps w ws h).worked.made.numbers in
      let all = ap length (flat_map-cons (λ v. (pass_of v.0).numbers) w ws) ∙ length-append (pass_of w.0).numbers (flat_map (λ v. (pass_of v.0).numbers) ws) in
      let rest = same_numbers ps ws (rest_worked p ps w ws h) in
      let brought = sum_by-cons (λ q. length (pass_of q).numbers) p ps in
      omega arith

  pub all_numbers : (ps : List Pass) (ws : List (Pass × Tally)) → AreWorkerResults allows moments desk ps ws → flat_map (λ w. (pass_of w.0).numbers) ws ≡ pass_numbers ps
  all_numbers [] [] h = refl
  all_numbers [] (w ∷ ws) h = absurd (let c = h.count in omega arith)
  all_numbers (p ∷ ps) [] h = absurd (let c = h.count in omega arith)
  all_numbers (p ∷ ps) (w ∷ ws) h =
      flat_map-cons (λ v. (pass_of v.0).numbers) w ws
      ∙ ap (λ l. l ++ flat_map (λ v. (pass_of v.0).numbers) ws) (first_worked p ps w ws h).worked.made.numbers
      ∙ ap (λ l. (pass_of p).numbers ++ l) (all_numbers ps ws (rest_worked p ps w ws h))
      ∙ sym (flat_map-cons (λ q. (pass_of q).numbers) p ps)

  -- the calls of the pass into which they are gathered
  pub missing_calls : (ps : List Pass) (ws : List (Pass × Tally)) (h : AreWorkerResults allows moments desk ps ws) (calls : ℕ)
      → calls ≡ sum_by (λ w. (pass_of w.0).calls) ws
      → calls ≡ calls_of_passes ps + calls_counted (tally_of_all (shifts_from ps ws h))
  missing_calls ps ws h calls is =
      let all = sum_calls ps ws h in
      let counted : calls_counted (tally_sum ws) ≡ calls_counted (tally_of_all (shifts_from ps ws h)) = ap (λ t. calls_counted t) (sum_is ps ws h) in
      omega (arith, is, all, counted)

-- ---- answers

pub made_then_so : {A E : Type 0} {P Q : A → Type 0} (r : Result A E) → IfOk r P → ((x : A) → P x → Q x) → IfOk r Q
made_then_so (Ok x) h f = f x h
made_then_so (Err e) h f = tt

pub failed_then_so : {A E : Type 0} {P Q : E → Type 0} (r : Result A E) → IfErr r P → ((e : E) → P e → Q e) → IfErr r Q
failed_then_so (Ok x) h f = tt
failed_then_so (Err e) h f = f e h

pub crew_error : {P Q : Desk → Type 0} {R S : Desk → Pass → Type 0} (T : Desk → Type 0) (e : CrewError) → MatchCrewError e P R (λ d. ⊥)
    → ((d : Desk) → P d → Q d) → ((d : Desk) (p : Pass) → R d p → S d p)
    → MatchCrewError e Q S T
crew_error T (error.NoPass d) h f g = f d h
crew_error T (error.Missing d p) h f g = g d p h
crew_error T (error.NoThread d) h f g = absurd h

pub none_brought : (ps : List Pass) (ws : List (Pass × Tally)) → length ws ≡ length ps → ws ≡ [] → ps ≡ []
none_brought [] ws e f = refl
none_brought (p ∷ ps) ws e f = let none = ap length f in absurd (omega (arith, e, none))
