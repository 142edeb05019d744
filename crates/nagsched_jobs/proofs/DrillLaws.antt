-- What a crew of new passes leaves is a drill.
use Rattle.std.proofs.Common.{◌≡◌, ℕ, ◌+◌, ◌*◌, ◌<◌, ◌≤◌, List, [], ◌∷◌, ◌++◌, length, Option, Some, None, refl, sym, ap, subst, suc, zero-add, ◌∙◌, arith}
use Rattle.std.specs.Prelude.{filter_map, flat_map, sum_by}
use Rattle.std.specs.List.{cons_option}
use Rattle.std.proofs.lemmas.List.Concat.{flat_map-cons}
use Rattle.std.proofs.lemmas.List.Sums.{sum_by-cons}
use Rattle.ticket_steps.specs.declared.books.Entry.{Entry}
use Rattle.ticket_steps.specs.History.{entry, of, IsLegal}
use Rattle.ticket_steps.specs.Sums.{numbers_from, occurrences}
use Rattle.ticket_steps.proofs.EntryLemmas.{of-append, of-lengths, of-yes}
use Rattle.ticket_steps.proofs.SumLemmas.{occurrences-same}
use Rattle.check_states.specs.declared.state.Code.{Code}
use Rattle.check_sched.specs.declared.call.Call.{Call}
use Rattle.check_sched.specs.declared.call.Call.TheVariants as call
use Rattle.check_sched.specs.declared.call.Reply.{Reply}
use Rattle.check_sched.specs.declared.call.Reply.TheVariants as reply
use Rattle.check_sched.specs.State.{opening}
use Rattle.check_sched.specs.Step.{step}
use Rattle.check_desk.specs.declared.desk.Desk.{Desk}
use Rattle.check_desk.specs.declared.passes.Pass.{Pass}
use Rattle.check_desk.specs.Desks.{AreNewPasses}
use Rattle.check_desk.specs.Passes.{new_pass, pass_of}
use Rattle.check_workers.specs.declared.tally.Stop.{Stop}
use Rattle.check_workers.specs.declared.tally.Stop.TheVariants as stop
use Rattle.check_workers.specs.declared.tally.Tally.{Tally}
use Rattle.check_workers.specs.Crews.{AreShiftsOf, IsShiftOf, calls_of_passes, tally_of_all}
use Rattle.check_workers.specs.Shifts.{IsStopReason, OpenCheck, Round, Shift, open_entries, round_entries, shift_entries, stops_of, unanswered}
use Rattle.check_workers.specs.Tallies.{plus, tally_of}
use Rattle.check_workers.proofs.CrewLemmas.{shift_short}
use Rattle.check_workers.proofs.ShiftLemmas.{rounds_entries, shift_calls}
use Rattle.check_workers.proofs.TallyLemmas.{tally_append}
use Rattle.nagsched_jobs.specs.Drill.{AreWorkersOf, IsDrill, IsWorkerOf, returns_scripted, stop_count}
use Rattle.nagsched_protocol.specs.declared.script.TheConstants.{MAX_INPUT_BYTES}
use Rattle.nagsched_protocol.specs.DrillScript.{DrillScript}

-- ---- the entries of a shift are all of its own number

of_one : (n : ℕ) (c : Call) (r : Reply) (es : List (Entry Call Reply)) → of n es ≡ es → of n (entry n c r ∷ es) ≡ entry n c r ∷ es
of_one n c r es rest = of-yes n (entry n c r) es refl ∙ ap (λ l. entry n c r ∷ l) rest

of_round : (n now : ℕ) (r : Reply) (result : Option (Code × Reply))
    → of n (round_entries n (record { now = now; reply = r; result = result })) ≡ round_entries n (record { now = now; reply = r; result = result })
of_round n now (reply.Taken object run) (Some (code, answer)) =
    of_one n (call.Take now) (reply.Taken object run) _ (of_one n (call.Report object run code) answer [] refl)
of_round n now (reply.Taken object run) None = of_one n (call.Take now) (reply.Taken object run) [] refl
of_round n now (reply.PutOff object until) result = of_one n (call.Take now) (reply.PutOff object until) [] refl
of_round n now (reply.Idle next) result = of_one n (call.Take now) (reply.Idle next) [] refl
of_round n now reply.AtLimit result = of_one n (call.Take now) reply.AtLimit [] refl
of_round n now (reply.Standing standing changed next) result = of_one n (call.Take now) (reply.Standing standing changed next) [] refl
of_round n now (reply.Freed next) result = of_one n (call.Take now) (reply.Freed next) [] refl
of_round n now reply.Done result = of_one n (call.Take now) reply.Done [] refl
of_round n now (reply.Refused why) result = of_one n (call.Take now) (reply.Refused why) [] refl

of_both : (n : ℕ) (es fs : List (Entry Call Reply)) → of n es ≡ es → of n fs ≡ fs → of n (es ++ fs) ≡ es ++ fs
of_both n es fs p q = of-append n es fs ∙ ap (λ l. l ++ of n fs) p ∙ ap (λ l. es ++ l) q

of_rounds : (n : ℕ) (rounds : List Round) → of n (rounds_entries n rounds) ≡ rounds_entries n rounds
of_rounds n [] = refl
of_rounds n (r ∷ rounds) =
    subst (λ l. of n l ≡ l) (sym (flat_map-cons (round_entries n) r rounds))
    (of_both n (round_entries n r) (rounds_entries n rounds) (of_round n r.now r.reply r.result) (of_rounds n rounds))

of_open : (n : ℕ) (o : Option OpenCheck) → of n (open_entries n o) ≡ open_entries n o
of_open n None = refl
of_open n (Some o) = of_one n (call.Take o.now) (reply.Taken o.object o.run) [] refl

of_shift : (s : Shift) → of s.number (shift_entries s) ≡ shift_entries s
of_shift s =
    of_both s.number (rounds_entries s.number s.rounds) (open_entries s.number s.left_open) (of_rounds s.number s.rounds) (of_open s.number s.left_open)

-- ---- one worker

-- the history of a new pass is its shift
new_history : (allows : ℕ → ℕ → ℕ → Code → Type 0) (moments : List ℕ) (room n : ℕ) (history : List (Entry Call Reply)) (pass : Pass) (s : Shift)
    → pass_of pass ≡ new_pass n → IsShiftOf allows moments room history (pass_of pass) s → of n history ≡ shift_entries s
new_history allows moments room n history pass s e h =
    let number : s.number ≡ n = h.number ∙ ap (λ c. c.own) e in
    let numbers : (pass_of pass).numbers ≡ n ∷ [] = ap (λ c. c.numbers) e in
    let once = occurrences-same n [] in
    let among : 0 < occurrences n (n ∷ []) = omega arith in
    let seen : of n (pass_of pass).seen ≡ [] = ap (λ c. of n c.seen) e in
    h.new n (subst (λ l. 0 < occurrences n l) (sym numbers) among) ∙ ap (λ l. l ++ of n (shift_entries s)) seen
    ∙ subst (λ m. of m (shift_entries s) ≡ shift_entries s) number (of_shift s)

one_worker : (s : DrillScript) (room n : ℕ) (history : List (Entry Call Reply)) (pass : Pass) (shift : Shift) → pass_of pass ≡ new_pass n
    → IsShiftOf (returns_scripted s.returns) s.moments room history (pass_of pass) shift → IsWorkerOf s n (of n history) shift
one_worker s room n history pass shift e h = record {
  number_is = h.number ∙ ap (λ c. c.own) e;
  worked = h.shift;
  entries_are = new_history (returns_scripted s.returns) s.moments room n history pass shift e h;
}

-- ---- all workers

each_worker : (s : DrillScript) (room : ℕ) (history : List (Entry Call Reply)) (desk : Desk) (n : ℕ) (ps : List Pass) (ss : List Shift) → AreNewPasses desk n ps
    → AreShiftsOf (returns_scripted s.returns) s.moments room history ps ss → AreWorkersOf s history n ss
each_worker s room history desk n [] [] new are = tt
each_worker s room history desk n [] (shift ∷ ss) new are = absurd are
each_worker s room history desk n (p ∷ ps) [] new are = absurd are
each_worker s room history desk n (p ∷ ps) (shift ∷ ss) new are =
    (one_worker s room n history p shift new.1 are.0, each_worker s room history desk (n + 1) ps ss new.2 are.1)

-- there are as many shifts as passes
as_many : (allows : ℕ → ℕ → ℕ → Code → Type 0) (moments : List ℕ) (room : ℕ) (history : List (Entry Call Reply)) (ps : List Pass) (ss : List Shift)
    → AreShiftsOf allows moments room history ps ss
    → length ss ≡ length ps
as_many allows moments room history [] [] are = refl
as_many allows moments room history [] (shift ∷ ss) are = absurd are
as_many allows moments room history (p ∷ ps) [] are = absurd are
as_many allows moments room history (p ∷ ps) (shift ∷ ss) are = ap suc (as_many allows moments room history ps ss are.1)

unanswered_in : List Shift → ℕ
unanswered_in shifts = sum_by (λ s. unanswered s.stopped) shifts

-- ---- stops

length_cons : {A : Type 0} (o : Option A) (xs : List A) → length (cons_option o xs) ≡ length (cons_option o []) + length xs
length_cons None xs = sym (zero-add (length xs))
length_cons (Some x) xs = omega arith

-- a worker stops only when out of memory, since its pass has calls enough
one_stop : (room recorded left before calls moments : ℕ) (o : Option Stop) → IsStopReason room recorded left o → before ≡ left + calls + unanswered o
    → calls ≤ 2 * moments → 2 * moments < before
    → unanswered o ≡ length (cons_option o [])
one_stop room recorded left before calls moments None r e short many = refl
one_stop room recorded left before calls moments (Some stop.NoMemory) r e short many = refl
one_stop room recorded left before calls moments (Some stop.Spent) r e short many = absurd (omega (arith, r, e, short, many))

-- the calls without an answer are the shifts that stopped
stops_counted : (allows : ℕ → ℕ → ℕ → Code → Type 0) (moments : List ℕ) (room : ℕ) (history : List (Entry Call Reply)) (desk : Desk) (n : ℕ)
    (ps : List Pass) (ss : List Shift)
    → length moments ≤ MAX_INPUT_BYTES → AreNewPasses desk n ps → AreShiftsOf allows moments room history ps ss → unanswered_in ss ≡ stop_count ss
unfolding unanswered_in
stops_counted allows moments room history desk n [] [] bounded new are = refl
stops_counted allows moments room history desk n [] (s ∷ ss) bounded new are = absurd are
stops_counted allows moments room history desk n (p ∷ ps) [] bounded new are = absurd are
stops_counted allows moments room history desk n (p ∷ ps) (s ∷ ss) bounded new are =
    let h = are.0 in
    let brought : (pass_of p).left ≡ 4294967295 = ap (λ c. c.left) new.1 in
    let short = shift_short s moments h.shift.in_order in
    let here = one_stop room (length history) h.left (pass_of p).left (length (shift_entries s)) (length moments) s.stopped h.reason h.left_is short
    (omega arith) in
    let rest = stops_counted allows moments room history desk (n + 1) ps ss bounded new.2 are.1 in
    let sum = sum_by-cons (λ v. unanswered v.stopped) s ss in
    let stops = length_cons s.stopped (filter_map (λ v. v.stopped) ss) in
    omega arith

-- ---- counts

-- the histories of the passes together are as long as the shifts
shifts_length : (allows : ℕ → ℕ → ℕ → Code → Type 0) (moments : List ℕ) (room : ℕ) (history : List (Entry Call Reply)) (desk : Desk) (n : ℕ)
    (ps : List Pass) (ss : List Shift)
    → AreNewPasses desk n ps
    → AreShiftsOf allows moments room history ps ss → sum_by (λ p. length (of p history)) (numbers_from n (length ps)) ≡ sum_by (λ s. length (shift_entries s)) ss
shifts_length allows moments room history desk n [] [] new are = refl
shifts_length allows moments room history desk n [] (s ∷ ss) new are = absurd are
shifts_length allows moments room history desk n (p ∷ ps) [] new are = absurd are
shifts_length allows moments room history desk n (p ∷ ps) (s ∷ ss) new are =
    let here = ap length (new_history allows moments room n history p s new.1 are.0) in
    let rest = shifts_length allows moments room history desk (n + 1) ps ss new.2 are.1 in
    let left = sum_by-cons (λ q. length (of q history)) n (numbers_from (n + 1) (length ps)) in
    let right = sum_by-cons (λ v. length (shift_entries v)) s ss in
    omega arith

-- the calls of all shifts
all_calls : (ss : List Shift)
    → (tally_of_all ss).takes + (tally_of_all ss).reports + (tally_of_all ss).unanswered ≡ sum_by (λ s. length (shift_entries s)) ss + unanswered_in ss
unfolding unanswered_in
all_calls [] = refl
all_calls (s ∷ ss) =
    let t = tally_of (shift_entries s) (stops_of s.stopped) in
    let both : tally_of_all (s ∷ ss) ≡ plus t (tally_of_all ss) =
    ap (λ l. tally_of l (flat_map (λ v. stops_of v.stopped) (s ∷ ss))) (flat_map-cons shift_entries s ss)
    ∙ ap (tally_of (shift_entries s ++ flat_map shift_entries ss)) (flat_map-cons (λ v. stops_of v.stopped) s ss)
    ∙ tally_append (shift_entries s) (flat_map shift_entries ss) (stops_of s.stopped) (flat_map (λ v. stops_of v.stopped) ss) in
    let takes = ap (λ u. u.takes) both in
    let reports = ap (λ u. u.reports) both in
    let missing = ap (λ u. u.unanswered) both in
    let here = shift_calls s t refl in
    let rest = all_calls ss in
    let lengths = sum_by-cons (λ v. length (shift_entries v)) s ss in
    let sums = sum_by-cons (λ v. unanswered v.stopped) s ss in
    omega arith

-- new passes have made no call
no_calls : (desk : Desk) (n : ℕ) (ps : List Pass) → AreNewPasses desk n ps → calls_of_passes ps ≡ 0
no_calls desk n [] new = refl
no_calls desk n (p ∷ ps) new =
    let here = ap (λ c. c.calls) new.1 in
    let rest = no_calls desk (n + 1) ps new.2 in
    let sum = sum_by-cons (λ q. (pass_of q).calls) p ps in
    omega arith

none_below : (room recorded left : ℕ) (o : Option Stop) → IsStopReason room recorded left o → recorded < room → unanswered o ≡ 0
none_below room recorded left None r below = refl
none_below room recorded left (Some stop.NoMemory) r below = absurd (omega (arith, r, below))
none_below room recorded left (Some stop.Spent) r below = refl

answered_below : (allows : ℕ → ℕ → ℕ → Code → Type 0) (moments : List ℕ) (room : ℕ) (history : List (Entry Call Reply)) (ps : List Pass) (ss : List Shift)
    → AreShiftsOf allows moments room history ps ss
    → length history < room → unanswered_in ss ≡ 0
unfolding unanswered_in
answered_below allows moments room history [] [] are below = refl
answered_below allows moments room history [] (s ∷ ss) are below = absurd are
answered_below allows moments room history (p ∷ ps) [] are below = absurd are
answered_below allows moments room history (p ∷ ps) (s ∷ ss) are below =
    let here = none_below room (length history) are.0.left s.stopped are.0.reason below in
    let rest = answered_below allows moments room history ps ss are.1 below in
    let sum = sum_by-cons (λ v. unanswered v.stopped) s ss in
    omega arith

-- what is refused are the calls without an answer
refused_is : (allows : ℕ → ℕ → ℕ → Code → Type 0) (moments : List ℕ) (room : ℕ) (history : List (Entry Call Reply)) (refused : ℕ) (desk : Desk)
    (ps : List Pass) (ss : List Shift) (t : Tally)
    → AreNewPasses desk 0 ps → AreShiftsOf allows moments room history ps ss → t ≡ tally_of_all ss
    → ((number : ℕ) → length ps ≤ number → of number history ≡ [])
    → length history + refused ≡ calls_of_passes ps + t.takes + t.reports + t.unanswered → refused ≡ unanswered_in ss
refused_is allows moments room history refused desk ps ss t new are sum numbers calls =
    let all = of-lengths (length ps) history numbers in
    let shifts = shifts_length allows moments room history desk 0 ps ss new are in
    let none = no_calls desk 0 ps new in
    let counted = all_calls ss in
    let takes = ap (λ u. u.takes) sum in
    let reports = ap (λ u. u.reports) sum in
    let missing = ap (λ u. u.unanswered) sum in
    omega arith

-- what a crew of new passes leaves
pub drill_is : (s : DrillScript) (start workers room : ℕ) (history : List (Entry Call Reply)) (refused : ℕ) (desk : Desk) (ps : List Pass)
    (ss : List Shift) (t : Tally)
    → length s.moments ≤ MAX_INPUT_BYTES
    → length ps ≡ workers → AreNewPasses desk 0 ps → AreShiftsOf (returns_scripted s.returns) s.moments room history ps ss → t ≡ tally_of_all ss
    → ((number : ℕ) → workers ≤ number → of number history ≡ [])
    → length history + refused ≡ calls_of_passes ps + t.takes + t.reports + t.unanswered → IsLegal step (opening s.setup start) history
    → IsDrill s start workers room history refused
drill_is s start workers room history refused desk ps ss t bounded count new are sum numbers calls legal =
    let allows = returns_scripted s.returns in
    let is = refused_is allows s.moments room history refused desk ps ss t new are sum (λ number from. numbers number (omega arith)) calls in
    record {
      legal = legal;
      numbers = numbers;
      shifts = ss;
      one_each = as_many allows s.moments room history ps ss are ∙ count;
      each = each_worker s room history desk 0 ps ss new are;
      refusals = is ∙ stops_counted allows s.moments room history desk 0 ps ss bounded new are;
      within_room = (λ below. is ∙ answered_below allows s.moments room history ps ss are below);
    }
