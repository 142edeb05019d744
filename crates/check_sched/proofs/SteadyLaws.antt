-- Laws of objects that an OK leaves as they stand: what such a report answers, and which objects are such ones after one.
use Rattle.std.proofs.Common.{◌≡◌, ℕ, zero, suc, ◌<◌, ◌==◌, Bool, true, false, List, [], replicate, length, Option, Some, None, refl, sym, ap, subst, ◌∙◌}
use Rattle.std.specs.Prelude.{is_some, option_and_then, slice_get, unwrap_or}
use Rattle.std.specs.Option.{option_map_or}
use Rattle.std.proofs.lemmas.Bool.{eqb-true, eqb-false}
use Rattle.check_objects.specs.Configuration.{Configuration, host_of, object_count}
use Rattle.check_states.specs.declared.state.Code.{Code}
use Rattle.check_states.specs.declared.state.Code.TheVariants as code
use Rattle.check_states.specs.declared.state.State as rules
use Rattle.check_states.specs.declared.state.State.TheVariants as state
use Rattle.check_states.specs.declared.standing.Standing.{Standing}
use Rattle.check_states.specs.Flapping.{is_flapping, results_after}
use Rattle.check_states.specs.Standing.{pending_standing}
use Rattle.check_states.specs.State.{ok_or_up_state, is_another_state, is_host_state, is_problem}
use Rattle.check_states.specs.Verdict.{verdict_on}
use Rattle.check_saved_state.specs.Scheduling.{Scheduling, is_timed, is_timed_if_forced}
use Rattle.check_sched.specs.declared.call.Reply.{Reply}
use Rattle.check_sched.specs.declared.call.Reply.TheVariants as reply
use Rattle.check_sched.specs.Report.{is_host_up, next_after, state_found_by}
use Rattle.check_sched.specs.Scheduling.{object_after_run}
use Rattle.check_sched.specs.State.{State, IsState, flap_thresholds_of, is_host, max_attempts_of, next_of, results_at, standing_at}
use Rattle.check_sched.specs.Steady.{IsSteady, IsSteadyIn}
use Rattle.check_sched.specs.Step.{state_found_in, is_forced, new_standing_in, report_result, state_after_report, standing_reply, update_at, with_object}
use Rattle.check_sched.proofs.FlappingLaws.{results_here, standing_here}
use Rattle.check_sched.proofs.RunningLaws.{timed_if, timed_then}
use Rattle.check_sched.proofs.ReportLaws.{next_already, verdict_by_host}
use Rattle.check_sched.proofs.StandingLaws.{found_sort}
use Rattle.check_sched.proofs.UpdateLaws.{update_at_apart, update_at_read, update_at_still}
use Rattle.check_saved_state.proofs.SavedLemmas.{all_at}

-- ---- what an OK means

no_problem : (host : Bool) → is_problem (ok_or_up_state host) ≡ true → ⊥
no_problem true e = cc
no_problem false e = cc

fine_by : (host : Option ℕ) (setup : Configuration) (standings : List Standing) (n : ℕ)
    → state_found_by host setup standings n code.Ok ≡ ok_or_up_state (is_host_state (state_found_by host setup standings n code.Ok))
fine_by None setup standings n = refl
fine_by (Some host) setup standings n = refl

-- OK of a service, and UP of a host
fine_found : (s : State) (n : ℕ) → n < object_count s.setup → state_found_in s n code.Ok ≡ ok_or_up_state (is_host s.setup n)
fine_found s n in_range = fine_by (host_of s.setup n) s.setup s.standings n ∙ ap ok_or_up_state (found_sort s n code.Ok in_range)

-- ---- a report that leaves the object as it stands

fine_judged : (s : State) (n : ℕ) → IsSteadyIn s n → new_standing_in s n (ok_or_up_state (is_host s.setup n)) ≡ standing_at s.standings n
fine_judged s n is =
    let fine = ok_or_up_state (is_host s.setup n) in
    let before = standing_at s.standings n in
    let max = max_attempts_of s.setup n in
    let thresholds = flap_thresholds_of s.setup n in
    verdict_by_host before fine max (is_host_up (host_of s.setup n) s.standings) true _ (λ e. absurd (no_problem (is_host s.setup n) e))
    ∙ ap (λ kept. verdict_on before fine max true (is_flapping kept before.flapping thresholds.0 thresholds.1)) is.kept
    ∙ is.stands

same_state : (t : rules.State) → is_another_state t t ≡ false
same_state state.Ok = refl
same_state state.Warning = refl
same_state state.Critical = refl
same_state state.Unknown = refl
same_state state.Up = refl
same_state state.Down = refl
same_state state.Unreachable = refl

-- what it leaves
still : (s : State) (n : ℕ) (next : Option ℕ) → IsSteadyIn s n
    → state_after_report n (ok_or_up_state (is_host s.setup n)) (standing_at s.standings n) next s ≡ with_object n (object_after_run next) s
still s n next is =
    let fine = ok_or_up_state (is_host s.setup n) in
    let standing = standing_at s.standings n in
    let standings : update_at n (λ (before : Standing). standing) s.standings ≡ s.standings =
    update_at_still n (λ (before : Standing). standing) s.standings (λ x e. ap (λ found. unwrap_or found (pending_standing true)) e) in
    let results : update_at n (λ kept. results_after kept fine) s.results ≡ s.results =
    update_at_still n (λ kept. results_after kept fine) s.results
    (λ x e. let same : results_at s.results n ≡ x = ap (λ found. unwrap_or found []) e in subst (λ kept. results_after kept fine ≡ kept) same is.kept) in
    λ i. record {
      setup = s.setup;
      start = s.start;
      objects = update_at n (object_after_run next) s.objects;
      standings = standings i;
      results = results i;
      runs = s.runs;
    }

-- what is answered to it, and what it leaves
pub steady_answer : (s : State) (n start : ℕ) (already : Option ℕ) → n < object_count s.setup → IsSteadyIn s n
    → let standing = standing_at s.standings n in
    let next = next_after s.setup n standing start already in
    report_result n start code.Ok already s ≡ (with_object n (object_after_run next) s, reply.Standing standing false next)
steady_answer s n start already in_range is =
    ap (λ u. answered u (new_standing_in s n u)) (fine_found s n in_range)
    ∙ ap (answered (ok_or_up_state (is_host s.setup n))) (fine_judged s n is)
    ∙ (λ i. (still s n next is i, reply.Standing standing (same_state standing.state i) next))
  where
    standing : Standing
    standing = standing_at s.standings n

    next : Option ℕ
    next = next_after s.setup n standing start already

    answered : rules.State → Standing → State × Reply
    answered u t = (state_after_report n u t (next_after s.setup n t start already) s, standing_reply n t (next_after s.setup n t start already) s)

timed_by : (s : State) (n : ℕ) (next : Option ℕ) (found : Option Scheduling) → IsState s → slice_get s.objects n ≡ found
    → (is_some (option_and_then (λ o. o.next) found) ≡ true → is_some next ≡ true) → is_timed next (option_map_or (λ o. o.forced) found false) ≡ true
timed_by s n next None is e h = timed_if next false (λ forced. cc)
timed_by s n next (Some o) is e h =
    timed_if next o.forced (λ forced. h (timed_then o.next o.forced (all_at is_timed_if_forced s.objects n o is.forced e) forced))

-- an object that is forced has a next time after a report
pub report_timed : (s : State) (n start : ℕ) (standing : Standing) (already : Option ℕ) → IsState s → next_of n s ≡ already
    → is_timed (next_after s.setup n standing start already) (is_forced s n) ≡ true
report_timed s n start standing already is e =
    timed_by s n (next_after s.setup n standing start already) (slice_get s.objects n) is refl
    (λ set. next_already s.setup n standing start already (ap is_some (sym e) ∙ set))

-- ---- which objects are left as they stand, after a report

-- one whose OK made the standing that there was, and leaves the results as they are
pub steady_after : (s : State) (n : ℕ) (c : Code) (found : rules.State) (before standing : Standing) → n < object_count s.setup
    → found ≡ state_found_in s n c → standing_at s.standings n ≡ before → standing ≡ new_standing_in s n found
    → c ≡ code.Ok → before ≡ standing → let kept = results_after (results_at s.results n) found in
    results_after kept found ≡ kept → IsSteady s.setup n standing kept
steady_after s n c found before standing in_range meant read made ok same stays =
    let kept = results_after (results_at s.results n) found in
    let fine : found ≡ ok_or_up_state (is_host s.setup n) = meant ∙ ap (state_found_in s n) ok ∙ fine_found s n in_range in
    let max = max_attempts_of s.setup n in
    let up = is_host_up (host_of s.setup n) s.standings in
    let thresholds = flap_thresholds_of s.setup n in
    let flaps : Standing → Bool = λ t. is_flapping kept t.flapping thresholds.0 thresholds.1 in
    let once : verdict_on standing found max up (flaps standing) ≡ standing =
    subst (λ t. verdict_on t found max up (flaps t) ≡ standing) (read ∙ same) (sym made) in
    record {
      kept = subst (λ f. results_after kept f ≡ kept) fine stays;
      stands =
          sym (verdict_by_host standing (ok_or_up_state (is_host s.setup n)) max up true (flaps standing) (λ e. absurd (no_problem (is_host s.setup n) e)))
          ∙ subst (λ f. verdict_on standing f max up (flaps standing) ≡ standing) fine once;
    }

marks_by : (setup : Configuration) (n k : ℕ) (mark same : Bool) (marks : List Bool) (standings : List Standing) (results : List (List rules.State))
    (standing : Standing) (found : rules.State) → (n == k) ≡ same
    → ((j : ℕ) → slice_get marks j ≡ Some true → IsSteady setup j (standing_at standings j) (results_at results j))
    → n < length standings → n < length results → (mark ≡ true → IsSteady setup n standing (results_after (results_at results n) found))
    → slice_get (update_at n (λ before. mark) marks) k ≡ Some true
    → IsSteady setup k (standing_at (update_at n (λ before. standing) standings) k) (results_at (update_at n (λ kept. results_after kept found) results) k)
marks_by setup n k mark true marks standings results standing found e was one two new set =
    let here : n ≡ k = eqb-true n k e in
    let marked : mark ≡ true = update_at_read n mark true marks (ap (slice_get (update_at n (λ before. mark) marks)) here ∙ set) in
    subst (λ j. IsSteady setup j (standing_at (update_at n (λ before. standing) standings) j) (results_at (update_at n (λ kept. results_after kept found) results) j)) here
    (rw (standing_here standings n standing one, results_here results n found two) (new marked))
marks_by setup n k mark false marks standings results standing found e was one two new set =
    let apart = eqb-false n k e in
    rw (update_at_apart n k (λ before. standing) standings apart, update_at_apart n k (λ kept. results_after kept found) results apart)
    (was k (sym (update_at_apart n k (λ before. mark) marks apart) ∙ set))

-- the marks after a report, where its object is marked as it is after it
pub marks_after : (setup : Configuration) (n : ℕ) (mark : Bool) (marks : List Bool) (standings : List Standing) (results : List (List rules.State))
    (standing : Standing) (found : rules.State)
    → ((j : ℕ) → slice_get marks j ≡ Some true → IsSteady setup j (standing_at standings j) (results_at results j))
    → n < length standings → n < length results → (mark ≡ true → IsSteady setup n standing (results_after (results_at results n) found))
    → (k : ℕ) → slice_get (update_at n (λ before. mark) marks) k ≡ Some true
    → IsSteady setup k (standing_at (update_at n (λ before. standing) standings) k) (results_at (update_at n (λ kept. results_after kept found) results) k)
marks_after setup n mark marks standings results standing found was one two new k set =
    marks_by setup n k mark (n == k) marks standings results standing found refl was one two new set

-- none is marked at the opening
pub none_marked : (count k : ℕ) → slice_get (replicate count false) k ≡ Some true → ⊥
none_marked zero k e = cc
none_marked (suc count) zero e = cc
none_marked (suc count) (suc k) e = none_marked count k e
