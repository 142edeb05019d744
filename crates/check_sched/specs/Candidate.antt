-- The objects that wait for a check.
use Rattle.std.specs.Prelude.{ℕ, List, filter, Option, Some, None, option_map, nat_le, nat_lt, if◌then◌else◌}
use Rattle.std.specs.List.{filter_map, enumerate_from}
use Rattle.check_sched.specs.Scheduling.{candidate_time}
use Rattle.check_saved_state.specs.Scheduling.{Scheduling}

-- an object that waits for its check: the time for which it waits, and its number
abbrev pub Candidate : Type 0
Candidate = ℕ × ℕ

-- an object, by its number, as a candidate, if it waits for a check
abbrev pub candidate : ℕ → Scheduling → Option Candidate
candidate number o = option_map (λ time. (time, number)) (candidate_time o)

-- the candidates among some objects, which are in the order of their numbers
abbrev pub candidates_among : List Scheduling → List Candidate
candidates_among objects = filter_map (λ p. candidate p.0 p.1) (enumerate_from 0 objects)

-- the candidates whose time has come: it is at most now
abbrev pub due_among : ℕ → List Candidate → List Candidate
due_among now candidates = filter (λ c. nat_le c.0 now) candidates

-- a candidate, if its time has come
abbrev pub if_due : ℕ → Option Candidate → Option Candidate
if_due now None = None
if_due now (Some c) = if nat_le c.0 now then Some c else None

-- the earlier of two candidates, or the only one; at equal times the first
abbrev pub earlier_of : Option Candidate → Option Candidate → Option Candidate
earlier_of None second = second
earlier_of (Some c) None = Some c
earlier_of (Some c) (Some d) = if nat_lt d.0 c.0 then Some d else Some c
