-- A shift, round by round.
use Rattle.std.proofs.Common.{◌≡◌, ℕ, ◌+◌, ◌<◌, ◌^◌, List, [], ◌∷◌, ◌++◌, length, map, Option, Some, None, refl, sym, ap, subst, ◌∙◌, append_assoc}
use Rattle.std.proofs.Common.{append-nil, length-append, arith}
use Rattle.std.specs.Prelude.{flat_map, count_by, true}
use Rattle.std.proofs.lemmas.List.Concat.{flat_map-cons}
use Rattle.std.specs.List.{All}
use Rattle.std.proofs.lemmas.Grind.{flat_map-append}
use Rattle.std.proofs.lemmas.List.{length-map, map-append}
use Rattle.std.proofs.lemmas.List.Elements.{All-append, All-cons, All-nil}
use Rattle.std.proofs.lemmas.Option.{none-some}
use mathlib.Core.List.{IsPrefix}
use Rattle.ticket_steps.specs.declared.books.Entry.{Entry}
use Rattle.ticket_lock.specs.Callers.{Caller}
use Rattle.check_states.specs.declared.state.Code.{Code}
use Rattle.check_sched.specs.declared.call.Call.{Call}
use Rattle.check_sched.specs.declared.call.Reply.{Reply}
use Rattle.check_sched.specs.declared.call.Reply.TheVariants as reply
use Rattle.check_sched.proofs.ReplyCases.{each_reply}
use Rattle.check_workers.specs.declared.round.Progress.{Progress}
use Rattle.check_workers.specs.declared.round.Progress.TheVariants as progress
use Rattle.check_workers.specs.declared.tally.Stop.{Stop}
use Rattle.check_workers.specs.declared.tally.Stop.TheVariants as stop
use Rattle.check_workers.specs.declared.tally.Tally.{Tally}
use Rattle.check_workers.specs.Progress.{HasProgressed, IsDone, IsOpenAt, IsStopped}
use Rattle.check_workers.specs.Shifts.{HasMadeCalls, HasWorkedShift, IsRound, OpenCheck, Round, Shift, open_entries, open_moments, round_entries, shift_entries}
use Rattle.check_workers.specs.Shifts.{stops_of}
use Rattle.check_workers.specs.Shifts.{unanswered}
use Rattle.check_workers.specs.Tallies.{IsBounded, is_no_memory, plus, reports_with, takes_with, tally_of}
use Rattle.check_workers.proofs.CallerLemmas.{made_none, made_then}
use Rattle.check_workers.proofs.TallyLemmas.{few_tally, tally_append}

abbrev pub rounds_entries : ℕ → List Round → List (Entry Call Reply)
rounds_entries number rounds = flat_map (round_entries number) rounds

-- this many moments are done
pub record IsWorking (allows : ℕ → ℕ → ℕ → Code → Type 0) (moments : List ℕ) (before after : Caller Call Reply) (tally : Tally) : Type 0 where
  pub rounds : List Round
  pub allowed : All (IsRound allows) rounds
  pub moments_are : map (λ r. r.now) rounds ≡ moments
  pub made : HasMadeCalls (rounds_entries before.own rounds) 0 before after
  pub counted : tally ≡ tally_of (rounds_entries before.own rounds) []

pub working_none : (allows : ℕ → ℕ → ℕ → Code → Type 0) (c : Caller Call Reply) (t : Tally) → t ≡ tally_of [] [] → IsWorking allows [] c c t
working_none allows c t e = record {
  rounds = [];
  allowed = All-nil (IsRound allows);
  moments_are = refl;
  made = made_none c;
  counted = e;
}

-- one round more
pub working_more : (allows : ℕ → ℕ → ℕ → Code → Type 0) (done : List ℕ) (now : ℕ) (before mid after : Caller Call Reply) (t u : Tally)
    → IsWorking allows done before mid t → IsDone allows now mid after u → IsWorking allows (done ++ now ∷ []) before after (plus t u)
working_more allows done now before mid after t u w d =
    let own : mid.own ≡ before.own = w.made.own in
    let entries : rounds_entries before.own (w.rounds ++ d.round ∷ []) ≡ rounds_entries before.own w.rounds ++ round_entries before.own d.round =
    flat_map-append (round_entries before.own) w.rounds (d.round ∷ []) ∙ ap
    (λ l. rounds_entries before.own w.rounds ++ l) (append-nil (round_entries before.own d.round)) in
    record {
      rounds = w.rounds ++ d.round ∷ [];
      allowed = All-append (IsRound allows) w.rounds (d.round ∷ []) w.allowed (All-cons (IsRound allows) d.round [] d.allowed (All-nil (IsRound allows)));
      moments_are = map-append (λ r. r.now) w.rounds (d.round ∷ []) ∙ ap (λ l. l ++ d.round.now ∷ []) w.moments_are ∙ ap (λ n. done ++ n ∷ []) d.at;
      made =
          subst (λ es. HasMadeCalls es 0 before after) (sym entries)
          (made_then (rounds_entries before.own w.rounds) (round_entries before.own d.round) 0 0 before mid after w.made
          (subst (λ number. HasMadeCalls (round_entries number d.round) 0 mid after) own d.made));
      counted = rw entries (rw (w.counted, d.counted, own) (sym (tally_append (rounds_entries before.own w.rounds) (round_entries before.own d.round) [] [])));
    }

-- the moments of the rounds, and that of a check that was left open, come first
stopped_in_order : (now : ℕ) (o : Option OpenCheck) (done rest moments : List ℕ) → done ++ now ∷ rest ≡ moments → IsOpenAt now o
    → IsPrefix (done ++ open_moments o) moments
stopped_in_order now None done rest moments e at = (now ∷ rest, ap (λ l. l ++ now ∷ rest) (append-nil done) ∙ e)
stopped_in_order now (Some o) done rest moments e at = (rest, append_assoc done (o.now ∷ []) rest ∙ ap (λ n. done ++ n ∷ rest) at ∙ e)

-- the shift of a worker that stopped in the work of this moment
pub working_stopped : (allows : ℕ → ℕ → ℕ → Code → Type 0) (done rest moments : List ℕ) (now room : ℕ) (stop : Stop) (given : Option (ℕ × ℕ))
    (before mid after : Caller Call Reply) (t u : Tally)
    → done ++ now ∷ rest ≡ moments → (w : IsWorking allows done before mid t) → (h : IsStopped now room stop given mid after u)
    → HasWorkedShift allows moments room (record { number = before.own; rounds = w.rounds; left_open = h.left_open; stopped = Some stop }) before after
working_stopped allows done rest moments now room stop given before mid after t u e w h =
    let own : mid.own ≡ before.own = w.made.own in
    let none : 0 + unanswered (Some stop) ≡ unanswered (Some stop) = omega arith in
    record {
      number = refl;
      shift = record {
        rounds = w.allowed;
        in_order =
            subst (λ l. IsPrefix (l ++ open_moments h.left_open) moments) (sym w.moments_are) (stopped_in_order now h.left_open done rest moments e h.at);
        all = (λ is. absurd (none-some stop (sym is)));
        none_open = (λ is. absurd (none-some stop (sym is)));
        early = (λ why is.
            let rounds : length w.rounds ≡ length done = sym (length-map w.rounds (λ r. r.now)) ∙ ap length w.moments_are in
            let all = ap length (sym e) ∙ length-append done (now ∷ rest) in
            omega (arith, rounds, all));
      };
      made = subst (λ k. HasMadeCalls (rounds_entries before.own w.rounds ++ open_entries before.own h.left_open) k before after) none
          (made_then (rounds_entries before.own w.rounds) (open_entries before.own h.left_open) 0 (unanswered (Some stop)) before mid after w.made
          (subst (λ number. HasMadeCalls (open_entries number h.left_open) (unanswered (Some stop)) mid after) own h.made));
      reason = h.reason;
    }

pub stopped_counted : (allows : ℕ → ℕ → ℕ → Code → Type 0) (done : List ℕ) (now room : ℕ) (stop : Stop) (given : Option (ℕ × ℕ))
    (before mid after : Caller Call Reply) (t u : Tally)
    (w : IsWorking allows done before mid t) (h : IsStopped now room stop given mid after u)
    → plus (plus t u) (tally_of [] (stop ∷ [])) ≡ tally_of (rounds_entries before.own w.rounds ++ open_entries before.own h.left_open) (stop ∷ [])
stopped_counted allows done now room stop given before mid after t u w h =
    let es = rounds_entries before.own w.rounds in
    let fs = open_entries before.own h.left_open in
    let own : mid.own ≡ before.own = w.made.own in
    let both : plus t u ≡ tally_of (es ++ fs) [] = rw (w.counted, h.counted, own) (sym (tally_append es fs [] [])) in
    ap (λ v. plus v (tally_of [] (stop ∷ []))) both ∙ sym (tally_append (es ++ fs) [] [] (stop ∷ [])) ∙ ap (λ l. tally_of l (stop ∷ [])) (append-nil (es ++ fs))

-- the shift of a worker that did all
pub working_ended : (allows : ℕ → ℕ → ℕ → Code → Type 0) (moments : List ℕ) (room : ℕ) (before after : Caller Call Reply) (t : Tally)
    (w : IsWorking allows moments before after t)
    → HasWorkedShift allows moments room (record { number = before.own; rounds = w.rounds; left_open = None; stopped = None }) before after
working_ended allows moments room before after t w =
    let same = append-nil (map (λ r. r.now) w.rounds) ∙ w.moments_are in
    record {
      number = refl;
      shift =
          record {
            rounds = w.allowed;
            in_order = ([], append-nil _ ∙ same);
            all = (λ is. same);
            none_open = (λ is. refl);
            early = (λ why is. absurd (none-some why is));
          };
      made = subst (λ es. HasMadeCalls es 0 before after) (sym (append-nil (rounds_entries before.own w.rounds))) w.made;
      reason = tt;
    }

pub ended_counted : (allows : ℕ → ℕ → ℕ → Code → Type 0) (moments : List ℕ) (before after : Caller Call Reply) (t : Tally)
    (w : IsWorking allows moments before after t)
    → t ≡ tally_of (rounds_entries before.own w.rounds ++ []) []
ended_counted allows moments before after t w = w.counted ∙ ap (λ l. tally_of l []) (sym (append-nil (rounds_entries before.own w.rounds)))

-- ---- few

-- a worker's tally is small, since its pass has made few calls
pub working_few : (allows : ℕ → ℕ → ℕ → Code → Type 0) (done : List ℕ) (before mid : Caller Call Reply) (t : Tally)
    → IsWorking allows done before mid t → mid.calls < 2 ^ 42 → IsBounded t
working_few allows done before mid t w bounded =
    let calls = w.made.calls in
    subst IsBounded (sym w.counted) (few_tally (rounds_entries before.own w.rounds) [] (omega arith) (omega arith))

-- what a worker counted in one moment, however it ended, are few entries of its own
pub record IsCounted (mid after : Caller Call Reply) (u : Tally) : Type 0 where
  pub entries : List (Entry Call Reply)
  pub missing : ℕ
  pub made : HasMadeCalls entries missing mid after
  pub counted : u ≡ tally_of entries []

pub came_counted : (allows : ℕ → ℕ → ℕ → Code → Type 0) (now room : ℕ) (mid after : Caller Call Reply) (u : Tally) (p : Progress)
    → HasProgressed allows now room mid after u p → IsCounted mid after u
came_counted allows now room mid after u progress.Done h = record { entries = round_entries mid.own h.round; missing = 0; made = h.made; counted = h.counted }
came_counted allows now room mid after u (progress.Stopped stop given) h =
    record { entries = open_entries mid.own h.left_open; missing = unanswered (Some stop); made = h.made; counted = h.counted }

pub counted_few : (mid after : Caller Call Reply) (u : Tally) → IsCounted mid after u → after.calls < 2 ^ 42 → IsBounded u
counted_few mid after u n bounded =
    let calls = n.made.calls in
    subst IsBounded (sym n.counted) (few_tally n.entries [] (omega arith) (omega arith))

pub both_few : (allows : ℕ → ℕ → ℕ → Code → Type 0) (done : List ℕ) (before mid after : Caller Call Reply) (t u : Tally)
    → IsWorking allows done before mid t → IsCounted mid after u → after.calls < 2 ^ 42 → IsBounded (plus t u)
both_few allows done before mid after t u w n bounded =
    let es = rounds_entries before.own w.rounds in
    let first = w.made.calls in
    let then = n.made.calls in
    let len = length-append es n.entries in
    let both : plus t u ≡ tally_of (es ++ n.entries) [] = rw (w.counted, n.counted) (sym (tally_append es n.entries [] [])) in
    subst IsBounded (sym both) (few_tally (es ++ n.entries) [] (omega arith) (omega arith))

-- ---- each entry of a shift is a take or a report

abbrev both_with : List (Entry Call Reply) → ℕ
both_with es = takes_with (λ r. true) es + reports_with (λ r. true) es

both_append : (es fs : List (Entry Call Reply)) → both_with (es ++ fs) ≡ both_with es + both_with fs
both_append es fs =
    let t = ap (λ v. v.takes) (tally_append es fs [] []) in
    let r = ap (λ v. v.reports) (tally_append es fs [] []) in
    omega arith

both_taken : (number now object run : ℕ) (result : Option (Code × Reply))
    → both_with (round_entries number (record { now = now; reply = reply.Taken object run; result = result })) ≡ length
    (round_entries number (record { now = now; reply = reply.Taken object run; result = result }))
both_taken number now object run (Some (code, answer)) = refl
both_taken number now object run None = refl

both_round : (number now : ℕ) (r : Reply) (result : Option (Code × Reply))
    → both_with (round_entries number (record { now = now; reply = r; result = result })) ≡ length
    (round_entries number (record { now = now; reply = r; result = result }))
both_round number now r =
    each_reply (λ r. (result : Option (Code × Reply))
    → both_with (round_entries number (record { now = now; reply = r; result = result })) ≡ length (round_entries number (record { now = now; reply = r; result = result })))
    (both_taken number now) (λ object until result. refl) (λ next result. refl) (λ result. refl) (λ standing changed next result. refl) (λ next result. refl)
    (λ result. refl) (λ why result. refl) r

both_rounds : (number : ℕ) (rounds : List Round) → both_with (rounds_entries number rounds) ≡ length (rounds_entries number rounds)
both_rounds number [] = refl
both_rounds number (r ∷ rounds) =
    let es = round_entries number r in
    let fs = rounds_entries number rounds in
    let all = flat_map-cons (round_entries number) r rounds in
    let first = both_round number r.now r.reply r.result in
    let rest = both_rounds number rounds in
    let sum = both_append es fs in
    let len = length-append es fs in
    rw all (let goal : both_with (es ++ fs) ≡ length (es ++ fs) = omega arith in goal)

both_open : (number : ℕ) (o : Option OpenCheck) → both_with (open_entries number o) ≡ length (open_entries number o)
both_open number None = refl
both_open number (Some o) = refl

both_shift : (s : Shift) → both_with (shift_entries s) ≡ length (shift_entries s)
both_shift s =
    let es = rounds_entries s.number s.rounds in
    let fs = open_entries s.number s.left_open in
    let sum = both_append es fs in
    let first = both_rounds s.number s.rounds in
    let last = both_open s.number s.left_open in
    let len = length-append es fs in
    omega arith

pub unanswered_count : (o : Option Stop) → count_by is_no_memory (stops_of o) ≡ unanswered o
unanswered_count None = refl
unanswered_count (Some stop.NoMemory) = refl
unanswered_count (Some stop.Spent) = refl

-- the calls of a shift are its takes, its reports, and the call without an answer
pub shift_calls : (s : Shift) (t : Tally) → t ≡ tally_of (shift_entries s) (stops_of s.stopped)
    → t.takes + t.reports + t.unanswered ≡ length (shift_entries s) + unanswered s.stopped
shift_calls s t e =
    let takes = ap (λ v. v.takes) e in
    let reports = ap (λ v. v.reports) e in
    let missing = ap (λ v. v.unanswered) e ∙ unanswered_count s.stopped in
    let both = both_shift s in
    omega arith

pub worked_left : (allows : ℕ → ℕ → ℕ → Code → Type 0) (moments : List ℕ) (room : ℕ) (s : Shift) (before after : Caller Call Reply) (t : Tally)
    → HasWorkedShift allows moments room s before after → t ≡ tally_of (shift_entries s) (stops_of s.stopped)
    → before.left ≡ after.left + t.takes + t.reports + t.unanswered
worked_left allows moments room s before after t h e =
    let calls = shift_calls s t e in
    let left = h.made.left in
    omega arith
