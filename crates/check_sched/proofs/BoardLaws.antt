-- Laws of the board: which calls change which words.
use Rattle.std.proofs.Common.{◌≡◌, ◌≢◌, ℕ, ◌+◌, ◌<◌, ◌==◌, Bool, true, false, cond, List, length, map, get_or, Option, Some, None}
use Rattle.std.proofs.Common.{refl, sym, ap, subst, ◌∙◌, arith, get_or-set_same, get_or-set_other, length-set}
use Rattle.std.specs.Prelude.{slice_get, slice_index, slice_set, unwrap_or}
use Rattle.std.specs.List.{range_with_len}
use Rattle.std.proofs.lemmas.Bool.{eqb-true, eqb-false}
use Rattle.std.proofs.lemmas.List.FromFn.{fill_by_all, get_or-map-range_with_len, length-map-range_with_len}
use Rattle.std.proofs.lemmas.Option.{slice_get_within}
use Rattle.check_queue.specs.Order.{least}
use Rattle.check_states.specs.declared.state.Code.{Code}
use Rattle.check_states.specs.declared.standing.Standing.{Standing}
use Rattle.check_states.specs.Board.{word_of_standing}
use Rattle.check_states.specs.Standing.{pending_standing}
use Rattle.check_sched.specs.declared.call.Call.{Call}
use Rattle.check_sched.specs.declared.call.Call.TheVariants as call
use Rattle.check_sched.specs.declared.call.Reply.{Reply}
use Rattle.check_sched.specs.declared.call.Reply.TheVariants as reply
use Rattle.check_sched.specs.declared.call.Refusal.{Refusal}
use Rattle.check_sched.specs.Scheduling.{run_under}
use Rattle.check_saved_state.specs.Scheduling.{Scheduling, OpenRun}
use Rattle.check_sched.specs.Candidate.{Candidate}
use Rattle.check_sched.specs.Report.{put_off_until}
use Rattle.check_sched.specs.State.{State, standing_at}
use Rattle.check_sched.specs.Step.{eligible_candidates, state_found_in, is_held_back, new_standing_in, existing_object, put_off, report_of_run, run_test, step}
use Rattle.check_sched.specs.Step.{take_least, state_after_take}
use Rattle.check_sched.specs.Step.{update_at, moment_test}
use Rattle.check_sched.specs.Board.{board_of, slot_of_reply}
use Rattle.check_sched.proofs.AnswerLaws.{by_test, known_is}
use Rattle.check_sched.proofs.UpdateLaws.{length-update_at, update_at_apart}

-- ---- a board, place by place

abbrev pub word_in : List Standing → ℕ → ℕ
word_in standings number = word_of_standing (standing_at standings number)

abbrev pub words_of : List Standing → ℕ → List ℕ
words_of standings count = map (word_in standings) (range_with_len 0 count)

-- a board has a word for each object
pub length-board_of : (s : State) → length (board_of s) ≡ length s.objects
length-board_of s = length-map-range_with_len (word_in s.standings) 0 (length s.objects)

-- the word of an object
pub word_at : (s : State) (n : ℕ) → n < length s.objects → slice_index (board_of s) n ≡ word_in s.standings n
word_at s n in_range = get_or-map-range_with_len (word_in s.standings) 0 (length s.objects) n n 0 in_range (omega arith)

-- as many objects with the same standings show the same
same_words : (standings : List Standing) (n : ℕ) (f : Scheduling → Scheduling) (objects : List Scheduling)
    → words_of standings (length (update_at n f objects)) ≡ words_of standings (length objects)
same_words standings n f objects = ap (words_of standings) (length-update_at n f objects)

-- ---- one word changed

place_by_place : (f g : ℕ → ℕ) (count n k : ℕ) (same : Bool) → (n == k) ≡ same → ((j : ℕ) → n ≢ j → g j ≡ f j) → k < count
    → get_or (slice_set (map f (range_with_len 0 count)) n (slice_index (map g (range_with_len 0 count)) n)) k 0 ≡ g k
place_by_place f g count n k true e h less =
    let here : n ≡ k = eqb-true n k e in
    let long = length-map-range_with_len f 0 count in
    subst (λ j. get_or (slice_set (map f (range_with_len 0 count)) n (slice_index (map g (range_with_len 0 count)) n)) j 0 ≡ g j) here
    (get_or-set_same (map f (range_with_len 0 count)) n _ 0 (omega (arith, long, here, less))
    ∙ get_or-map-range_with_len g 0 count n n 0 (omega (arith, here, less)) (omega arith))
place_by_place f g count n k false e h less =
    let apart : n ≢ k = eqb-false n k e in
    get_or-set_other (map f (range_with_len 0 count)) n k _ 0 (λ back. apart (sym back))
    ∙ get_or-map-range_with_len f 0 count k k 0 less (omega arith) ∙ sym (h k apart)

-- two lists of words that agree except for one place differ by the word at that place
one_word : (f g : ℕ → ℕ) (count n : ℕ) → ((j : ℕ) → n ≢ j → g j ≡ f j)
    → map g (range_with_len 0 count) ≡ slice_set (map f (range_with_len 0 count)) n (slice_index (map g (range_with_len 0 count)) n)
one_word f g count n h =
    sym (fill_by_all g _ count 0 (length-set (map f (range_with_len 0 count)) n _ ∙ length-map-range_with_len f 0 count)
    (λ k less. place_by_place f g count n k (n == k) refl h less))

-- the word of another object than the one whose standing changed
word_apart : (n k : ℕ) (standing : Standing) (standings : List Standing) → n ≢ k
    → word_in (update_at n (λ before. standing) standings) k ≡ word_in standings k
word_apart n k standing standings apart =
    ap (λ found. word_of_standing (unwrap_or found (pending_standing true))) (update_at_apart n k (λ before. standing) standings apart)

-- one standing that changes leaves all words but its own
reported_words : (n : ℕ) (f : Scheduling → Scheduling) (standing : Standing) (objects : List Scheduling) (standings : List Standing)
    → let after = words_of (update_at n (λ before. standing) standings) (length (update_at n f objects)) in
    after ≡ slice_set (words_of standings (length objects)) n (slice_index after n)
reported_words n f standing objects standings =
    let g = word_in (update_at n (λ before. standing) standings) in
    subst (λ m. map g (range_with_len 0 m) ≡ slice_set (words_of standings (length objects)) n (slice_index (map g (range_with_len 0 m)) n))
    (sym (length-update_at n f objects))
    (one_word (word_in standings) g (length objects) n (λ j apart. word_apart n j standing standings apart))

-- ---- the calls that change no word

-- what a call leaves shows what the state before showed
abbrev Same : State → State × Reply → Type 0
Same s a = board_of a.0 ≡ board_of s

same_chosen : (now n : ℕ) (s : State) (held : Bool)
    → Same s (cond held (put_off now n s, reply.PutOff n (put_off_until s.setup n now)) (state_after_take now n s, reply.Taken n (s.runs + 1)))
same_chosen now n s true = same_words s.standings n _ s.objects
same_chosen now n s false = same_words s.standings n _ s.objects

same_least : (now : ℕ) (s : State) (found : Option Candidate) → Same s (take_least now s found)
same_least now s (Some c) = same_chosen now c.1 s (is_held_back s c.1)
same_least now s None = refl

same_take : (now : ℕ) (s : State) → Same s (step s (call.Take now))
same_take now s =
    by_test (Same s) s (moment_test now) _ (λ why. refl)
    (λ u m. by_test (Same s) s (run_test s) _ (λ why. refl)
    (λ v r. same_least now s (least (eligible_candidates now s))))

same_abandon : (n run now : ℕ) (s : State) → Same s (step s (call.Abandon n run now))
same_abandon n run now s =
    by_test (Same s) s (existing_object n s) _ (λ why. refl)
    (λ o e. by_test (Same s) s (moment_test now) _ (λ why. refl)
    (λ u m. by_test (Same s) s (run_under run o.run) _ (λ why. refl)
    (λ r f. same_words s.standings n _ s.objects)))

same_reschedule : (n time : ℕ) (forced : Bool) (s : State) → Same s (step s (call.Reschedule n time forced))
same_reschedule n time forced s =
    by_test (Same s) s (existing_object n s) _ (λ why. refl)
    (λ o e. by_test (Same s) s (moment_test time) _ (λ why. refl)
    (λ u m. same_words s.standings n _ s.objects))

same_enable : (n : ℕ) (on : Bool) (s : State) → Same s (step s (call.Enable n on))
same_enable n on s = by_test (Same s) s (existing_object n s) _ (λ why. refl) (λ o e. same_words s.standings n _ s.objects)

same_status : (n : ℕ) (s : State) → Same s (step s (call.Status n))
same_status n s = by_test (Same s) s (existing_object n s) _ (λ why. refl) (λ o e. refl)

-- ---- Report

-- what is true of a refusal, and of what is answered by a standing, is true of a report
by_report : (P : State × Reply → Type 0) (n run : ℕ) (c : Code) (s : State)
    → ((why : Refusal) → P (s, reply.Refused why))
    → ((o : Scheduling) (r : OpenRun) → slice_get s.objects n ≡ Some o → P (report_of_run n r.start c o s))
    → P (step s (call.Report n run c))
by_report P n run c s refused answer =
    by_test P s (existing_object n s) _ refused (λ o e. by_test P s (run_under run o.run) _ refused (λ r f. answer o r (known_is n s o e)))

nowhere : {P : Type 0} (at : ℕ) → None ≡ Some at → P
nowhere at e = absurd (cc)

-- a posted call is posted at the place of a word
pub step_within : (s : State) (c : Call) (at : ℕ) → slot_of_reply c (step s c).1 ≡ Some at → at < length (board_of s)
step_within s (call.Report n run code) at =
    by_report (λ a. slot_of_reply (call.Report n run code) a.1 ≡ Some at → at < length (board_of s)) n run code s (λ why e. nowhere at e)
    (λ o r f e.
    let here : n ≡ at = cc in let in_range = slice_get_within s.objects n o f in let long = length-board_of s in omega (arith, here, in_range, long))
step_within s (call.Take now) at = nowhere at
step_within s (call.Abandon n run now) at = nowhere at
step_within s (call.Reschedule n time forced) at = nowhere at
step_within s (call.Enable n on) at = nowhere at
step_within s (call.Status n) at = nowhere at

-- a call that isn't posted changes no word
pub step_unposted : (s : State) (c : Call) → slot_of_reply c (step s c).1 ≡ None → Same s (step s c)
step_unposted s (call.Report n run code) e =
    by_report (λ a. slot_of_reply (call.Report n run code) a.1 ≡ None → Same s a) n run code s (λ why none. refl) (λ o r f none. nowhere n (sym none)) e
step_unposted s (call.Take now) e = same_take now s
step_unposted s (call.Abandon n run now) e = same_abandon n run now s
step_unposted s (call.Reschedule n time forced) e = same_reschedule n time forced s
step_unposted s (call.Enable n on) e = same_enable n on s
step_unposted s (call.Status n) e = same_status n s

-- one that is posted changes no word but the one at its place
abbrev Posted : State → ℕ → State × Reply → Type 0
Posted s at a = board_of a.0 ≡ slice_set (board_of s) at (slice_index (board_of a.0) at)

pub step_posted : (s : State) (c : Call) (at : ℕ) → slot_of_reply c (step s c).1 ≡ Some at → Posted s at (step s c)
step_posted s (call.Report n run code) at =
    by_report (λ a. slot_of_reply (call.Report n run code) a.1 ≡ Some at → Posted s at a) n run code s (λ why e. nowhere at e)
    (λ o r f e.
    let here : n ≡ at = cc in
    subst (λ i. Posted s i (report_of_run n r.start code o s)) here (reported_words n _ (new_standing_in s n (state_found_in s n code)) s.objects s.standings))
step_posted s (call.Take now) at = nowhere at
step_posted s (call.Abandon n run now) at = nowhere at
step_posted s (call.Reschedule n time forced) at = nowhere at
step_posted s (call.Enable n on) at = nowhere at
step_posted s (call.Status n) at = nowhere at
