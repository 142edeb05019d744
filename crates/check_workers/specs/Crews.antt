-- The entries that the workers of a crew add to the book.
use Rattle.std.specs.Prelude.{◌≡◌, ℕ, ◌+◌, ◌≤◌, ◌<◌, ⊤, List, [], ◌∷◌, ◌++◌, length, flat_map, Option, Some, None, slice_index_or, sum_by}
use Rattle.ticket_steps.specs.declared.books.Entry.{Entry}
use Rattle.ticket_steps.specs.History.{of}
use Rattle.ticket_steps.specs.Sums.{occurrences}
use Rattle.std.specs.List.{All}
use Rattle.ticket_lock.specs.Callers.{Caller}
use Rattle.ticket_lock.specs.Views.{Follows}
use Rattle.check_states.specs.declared.state.Code.{Code}
use Rattle.check_sched.specs.declared.call.Call.{Call}
use Rattle.check_sched.specs.declared.call.Reply.{Reply}
use Rattle.check_desk.specs.declared.desk.Desk.{Desk}
use Rattle.check_desk.specs.declared.passes.Pass.{Pass}
use Rattle.check_desk.specs.Desks.{IsPassOf, desk_opening}
use Rattle.check_desk.specs.Passes.{pass_of}
use Rattle.check_workers.specs.declared.crews.CrewError.{CrewError}
use Rattle.check_workers.specs.declared.crews.CrewError.TheVariants as error
use Rattle.check_workers.specs.declared.tally.Tally.{Tally}
use Rattle.check_workers.specs.Shifts.{HasWorkedShift, Shift, IsStopReason, IsShift, shift_entries, stops_of, unanswered}
use Rattle.check_workers.specs.Tallies.{IsSum, plus, tally_of}

-- The shift that a worker worked on these moments with this pass, as the history of the closed book shows. The new entries of the pass's numbers, since it
-- came to the crew, are the entries of the shift.
pub record IsShiftOf (allows : ℕ → ℕ → ℕ → Code → Type 0) (moments : List ℕ) (room : ℕ)
    (history : List (Entry Call Reply)) (brought : Caller Call Reply) (s : Shift) : Type 0 where
  pub number : s.number ≡ brought.own
  pub shift : IsShift allows moments s
  pub new : (number : ℕ) → 0 < occurrences number brought.numbers → of number history ≡ of number brought.seen ++ of number (shift_entries s)
  -- the calls that the pass then had left
  pub left : ℕ
  pub left_is : brought.left ≡ left + length (shift_entries s) + unanswered s.stopped
  pub reason : IsStopReason room (length history) left s.stopped

-- a shift for each pass, in order
abbrev pub AreShiftsOf : (ℕ → ℕ → ℕ → Code → Type 0) → List ℕ → ℕ → List (Entry Call Reply) → List Pass → List Shift → Type 0
AreShiftsOf allows moments room history [] [] = ⊤
AreShiftsOf allows moments room history [] (s ∷ shifts) = ⊥
AreShiftsOf allows moments room history (pass ∷ passes) [] = ⊥
AreShiftsOf allows moments room history (pass ∷ passes) (s ∷ shifts) =
    IsShiftOf allows moments room history (pass_of pass) s × AreShiftsOf allows moments room history passes shifts

-- the tallies of the shifts, added up
abbrev pub tally_of_all : List Shift → Tally
tally_of_all shifts = tally_of (flat_map shift_entries shifts) (flat_map (λ s. stops_of s.stopped) shifts)

-- the number of a desk's passes for which these answer, and the number of calls that they have made
abbrev pub pass_count : List Pass → ℕ
pass_count passes = sum_by (λ pass. length (pass_of pass).numbers) passes

-- the numbers for which they answer
abbrev pub pass_numbers : List Pass → List ℕ
pass_numbers passes = flat_map (λ pass. (pass_of pass).numbers) passes

abbrev pub calls_of_passes : List Pass → ℕ
calls_of_passes passes = sum_by (λ pass. (pass_of pass).calls) passes

-- each pass has more than this many calls left
abbrev pub HaveCallsLeft : ℕ → List Pass → Type 0
HaveCallsLeft least [] = ⊤
HaveCallsLeft least (pass ∷ passes) = (least < (pass_of pass).left) × HaveCallsLeft least passes

-- the calls of the workers that this tally counts
abbrev pub calls_counted : Tally → ℕ
calls_counted tally = tally.takes + tally.reports + tally.unanswered

-- the three ways in which a crew returns no book
abbrev pub MatchCrewError : CrewError → (Desk → Type 0) → (Desk → Pass → Type 0) → (Desk → Type 0) → Type 0
MatchCrewError (error.NoPass desk) P Q R = P desk
MatchCrewError (error.Missing desk pass) P Q R = Q desk pass
MatchCrewError (error.NoThread desk) P Q R = R desk

-- ---- a worker's pass and tally

-- the worker of this pass has come back with this pass and this tally
pub record IsWorkerResult (allows : ℕ → ℕ → ℕ → Code → Type 0) (moments : List ℕ) (desk : Desk) (pass : Pass) (back : Pass) (tally : Tally) : Type 0 where
  pub of_desk : IsPassOf desk back
  pub shift : Shift
  pub worked : HasWorkedShift allows moments (desk_opening desk).room shift (pass_of pass) (pass_of back)
  pub counted : tally ≡ tally_of (shift_entries shift) (stops_of shift.stopped)
  pub sums : IsSum tally

-- the workers of these passes have come back, in order
pub record AreWorkerResults (allows : ℕ → ℕ → ℕ → Code → Type 0) (moments : List ℕ) (desk : Desk) (passes : List Pass) (worked : List (Pass × Tally)) : Type 0 where
  pub count : length worked ≡ length passes
  pub each : (i : ℕ) (p : Pass) (w : Pass × Tally) → i < length passes
      → IsWorkerResult allows moments desk (slice_index_or passes i p) (slice_index_or worked i w).0 (slice_index_or worked i w).1

-- ---- passes that are gathered

-- the counts are at most these: calls for each count except the stops, and numbers for the stops
pub record IsTallyWithin (calls numbers : ℕ) (t : Tally) : Type 0 where
  pub takes : t.takes ≤ calls
  pub taken : t.taken ≤ calls
  pub put_off : t.put_off ≤ calls
  pub idle : t.idle ≤ calls
  pub at_limit : t.at_limit ≤ calls
  pub refused : t.refused ≤ calls
  pub reports : t.reports ≤ calls
  pub reported : t.reported ≤ calls
  pub late : t.late ≤ calls
  pub unanswered : t.unanswered ≤ calls
  pub stops : t.stops ≤ numbers

-- a pass of the desk, with a tally of some of its calls
abbrev pub IsTallied : Desk → Pass → Tally → Type 0
IsTallied desk pass tally = IsPassOf desk pass × IsTallyWithin (pass_of pass).calls (length (pass_of pass).numbers) tally

-- tallies, added up
abbrev pub tally_sum : List (Pass × Tally) → Tally
tally_sum [] = tally_of [] []
tally_sum (w ∷ worked) = plus w.1 (tally_sum worked)

-- The passes are gathered in this one, and their tallies are added up to this one.
pub record AreGathered (desk : Desk) (worked : List (Pass × Tally)) (pass : Pass) (tally : Tally) : Type 0 where
  pub tallied : IsTallied desk pass tally
  pub numbers : (pass_of pass).numbers ≡ flat_map (λ w. (pass_of w.0).numbers) worked
  pub calls : (pass_of pass).calls ≡ sum_by (λ w. (pass_of w.0).calls) worked
  pub seen : All (λ w. Follows (pass_of w.0).numbers (pass_of w.0).seen (pass_of pass).seen) worked
  pub sum : tally ≡ tally_sum worked

abbrev pub MatchGathered : Desk → List (Pass × Tally) → Option (Pass × Tally) → Type 0
MatchGathered desk worked None = worked ≡ []
MatchGathered desk worked (Some w) = AreGathered desk worked w.0 w.1
