-- A round's calls, one after another.
use Rattle.std.proofs.Common.{◌≡◌, ℕ, suc, ◌+◌, ◌<◌, ◌≤◌, List, [], ◌∷◌, ◌++◌, length, Some, None, inl, inr, refl, sym, ap, subst, ◌∙◌, length-append, arith}
use mathlib.Core.List.{IsPrefix}
use Rattle.std.specs.Prelude.{Contains}
use Rattle.std.specs.List.{All}
use Rattle.std.proofs.lemmas.Grind.{flat_map-append}
use Rattle.std.proofs.lemmas.List.Elements.{All-append, All-cons, All-contains, All-nil}
use Rattle.ticket_steps.specs.declared.books.Entry.{Entry}
use Rattle.ticket_steps.specs.History.{entry}
use Rattle.ticket_lock.specs.Callers.{Caller}
use Rattle.check_sched.specs.declared.call.Call.{Call}
use Rattle.check_sched.specs.declared.call.Call.TheVariants as call
use Rattle.check_sched.specs.declared.call.Reply.{Reply}
use Rattle.check_sched.specs.declared.call.Reply.TheVariants as reply
use Rattle.check_desk.specs.Desks.{HasRecorded}
use Rattle.check_workers.specs.Shifts.{HasMadeCalls}
use Rattle.check_workers.proofs.CallerLemmas.{made_none, made_reply, made_then}
use Rattle.nagsched_loop.specs.Effects.{Effect, HasEffects, answers, asks}
use Rattle.nagsched_loop.specs.Loop.{HasMadeIncomingCalls, HasAbandoned, HasSlept, IsLoopRound, HasBegunCheck, IsAbandonment, KeepsRuns, effects_of}
use Rattle.nagsched_loop.specs.Loop.{runs_after_call, runs_after_calls}
use Rattle.nagsched_loop.specs.Loop.{limit_at, run_with_limit}
use Rattle.nagsched_loop.specs.Work.{AreRounds, EndsRound, IsTimedRound, by_call, by_event, by_round}
use Rattle.nagsched_loop.specs.declared.environment.End.{End}
use Rattle.nagsched_loop.specs.declared.environment.End.TheVariants as end
use Rattle.nagsched_loop.specs.declared.environment.Event.TheVariants as news
use Rattle.nagsched_loop.specs.declared.runs.Run.{Run}
use Rattle.nagsched_loop.proofs.RunLemmas.{keeps_pushed, keeps_same, left_more, left_none, left_of_within, left_then}

-- one call more, beside the entries that there were
made_more : (es : List (Entry Call Reply)) (asked : Call) (reply : Reply) (a b c : Caller Call Reply)
    → HasMadeCalls es 0 a b → HasRecorded asked reply b c → HasMadeCalls (es ++ entry a.own asked reply ∷ []) 0 a c
made_more es asked reply a b c f h =
    subst (λ own. HasMadeCalls (es ++ entry own asked reply ∷ []) 0 a c) f.own
    (made_then es (entry b.own asked reply ∷ []) 0 0 a b c f (made_reply asked reply b c h))

suc_is_more : (n : ℕ) → suc n ≡ n + 1
suc_is_more n = omega arith

module _ {S : Type 0} (does : S → Effect → S → Type 0) where
  pub does_then : (ds es : List Effect) (s t u : S) → HasEffects does ds s t → HasEffects does es t u → HasEffects does (ds ++ es) s u
  does_then [] es s t u f g = subst (λ v. HasEffects does es v u) (sym f) g
  does_then (d ∷ ds) es s t u f g = (f.0, f.1, does_then ds es f.0 t u f.2 g)

  -- This many calls have come in, and each was answered.
  pub record HasAnswered (count : ℕ) (before after : Caller Call Reply) (runs left : List Run) (s t : S) : Type 0 where
    pub entries : List (Entry Call Reply)
    pub many : length entries ≡ count
    pub deeds : HasEffects does (effects_of entries) s t
    pub made : HasMadeCalls entries 0 before after
    pub left_are : left ≡ runs_after_calls entries runs

  pub answered_none : (c : Caller Call Reply) (runs : List Run) (s : S) → HasAnswered 0 c c runs runs s s
  answered_none c runs s = record { entries = []; many = refl; deeds = refl; made = made_none c; left_are = left_none runs }

  pub answered_more : (count : ℕ) (asked : Call) (reply : Reply) (a b c : Caller Call Reply) (first runs left : List Run) (s t u v : S)
      → HasAnswered count a b first runs s t → does t (asks (Some (news.Call asked))) u → HasRecorded asked reply b c → does u (answers asked reply) v
      → left ≡ runs_after_call asked runs → HasAnswered (count + 1) a c first left s v
  answered_more count asked reply a b c first runs left s t u v f come h answer is =
      let e = entry a.own asked reply in
      let long = length-append f.entries (e ∷ []) in
      let many = f.many in
      record {
        entries = f.entries ++ e ∷ [];
        many = omega arith;
        deeds =
            subst (λ ds. HasEffects does ds s v) (sym (flat_map-append (λ x. asks (Some (news.Call x.call)) ∷ answers x.call x.reply ∷ []) f.entries (e ∷ [])))
            (does_then (effects_of f.entries) (effects_of (e ∷ [])) s t v f.deeds (u, come, (v, answer, refl)));
        made = made_more f.entries asked reply a b c f.made h;
        left_are = left_more f.entries e first runs left f.left_are is;
      }

  -- the calls that came in, where there is no more
  pub called_all : (count : ℕ) (a b : Caller Call Reply) (runs left : List Run) (s t u : S)
      → HasAnswered count a b runs left s t → does t (asks None) u → HasMadeIncomingCalls does a b runs left s u
  called_all count a b runs left s t u f none = record {
    entries = f.entries;
    came = inl (does_then (effects_of f.entries) (asks None ∷ []) s t u f.deeds (u, none, refl));
    made = f.made;
    left_are = f.left_are;
  }

  -- the calls that came in, where there are as many as a round takes
  pub called_most : (a b : Caller Call Reply) (runs left : List Run) (s t : S)
      → HasAnswered 1000 a b runs left s t → HasMadeIncomingCalls does a b runs left s t
  called_most a b runs left s t f = record { entries = f.entries; came = inr (f.many, f.deeds); made = f.made; left_are = f.left_are }

  -- the event that ends the generation came after the calls that came in
  pub ended_by_event : (count : ℕ) (ending : End) (a b : Caller Call Reply) (runs left : List Run) (s t u : S)
      → HasAnswered count a b runs left s t → does t (asks (Some (news.Ends ending))) u → EndsRound does ending s u
  ended_by_event count ending a b runs left s t u f came =
      by_event ending f.entries (does_then (effects_of f.entries) (asks (Some (news.Ends ending)) ∷ []) s t u f.deeds (u, came, refl))

  -- a call that came in after them wasn't made
  pub ended_by_call : (count : ℕ) (ending : End) (asked : Call) (a b : Caller Call Reply) (runs left : List Run) (s t u : S)
      → HasAnswered count a b runs left s t → does t (asks (Some (news.Call asked))) u → ending ≡ end.Renewal → EndsRound does ending s u
  ended_by_call count ending asked a b runs left s t u f came is =
      subst (λ e. EndsRound does e s u) (sym is)
      (by_call f.entries asked (does_then (effects_of f.entries) (asks (Some (news.Call asked)) ∷ []) s t u f.deeds (u, came, refl)))

  -- the round ended after the calls that came in
  pub ended_after_calls : (ending : End) (a b : Caller Call Reply) (runs left : List Run) (s t : S)
      → HasMadeIncomingCalls does a b runs left s t → ending ≡ end.Renewal → EndsRound does ending s t
  ended_after_calls ending a b runs left s t f is = subst (λ e. EndsRound does e s t) (sym is) (by_round f.entries f.came)

  -- one round more
  pub rounds_more : (n : ℕ) (a b c : Caller Call Reply) (first runs left : List Run) (s t u : S)
      → AreRounds does n a b first runs s t → IsTimedRound does b c runs left t u → AreRounds does (n + 1) a c first left s u
  rounds_more n a b c first runs left s t u f round =
      subst (λ k. AreRounds does k a c first left s u) (suc_is_more n) (b, runs, t, f, round)

  -- a take forgets no run
  pub begun_keeps : (now : ℕ) (answer : Reply) (runs left : List Run) (a b : List (Entry Call Reply)) (s t : S)
      → HasBegunCheck does now answer runs left s t → IsPrefix a b → KeepsRuns a b runs left
  begun_keeps now (reply.Taken object number) runs left a b s t h seen =
      subst (KeepsRuns a b runs) (sym h.2) (keeps_pushed a b runs (run_with_limit object number (limit_at h.0 now) ∷ []) seen)
  begun_keeps now other runs left a b s t h seen = subst (KeepsRuns a b runs) (sym h.0) (keeps_same a b runs seen)

  -- a round: the calls that came in, the runs that are abandoned, the take, and sleep
  pub taken_round : (now : ℕ) (answer : Reply) (first runs list left : List Run) (a b c d : Caller Call Reply) (s t u v : S)
      → HasMadeIncomingCalls does a b first runs s t → HasAbandoned now b c runs list → All (λ run. now < run.limit) list
      → HasRecorded (call.Take now) answer c d → HasBegunCheck does now answer list left t u → HasSlept does now answer left u v
      → IsLoopRound does now a d first left s v
  taken_round now answer first runs list left a b c d s t u v f g in_time h begun slept =
      let is : list ≡ runs_after_calls (f.entries ++ g.entries) first =
      g.left_are ∙ ap (runs_after_calls g.entries) f.left_are ∙ sym (left_then f.entries g.entries first) in
      record {
        incoming = f.entries;
        abandoned = g.entries;
        answer = answer;
        asked = t;
        begun = u;
        came = f.came;
        are_abandonments = subst (λ l. All (IsAbandonment now l) g.entries) f.left_are g.are_abandonments;
        in_time = subst (All (λ run. now < run.limit)) is in_time;
        made =
            made_more (f.entries ++ g.entries) (call.Take now) answer a c d (made_then f.entries g.entries 0 0 a b c f.made g.made) h;
        taken = subst (λ l. HasBegunCheck does now answer l left t u) is begun;
        slept = slept;
      }

pub abandoned_none : (now : ℕ) (c : Caller Call Reply) (runs : List Run) → HasAbandoned now c c runs runs
abandoned_none now c runs =
    record { entries = []; are_abandonments = All-nil (IsAbandonment now runs); made = made_none c; left_are = left_none runs }

-- one run more that is abandoned
pub abandoned_more : (now : ℕ) (run : Run) (reply : Reply) (a b c : Caller Call Reply) (first runs left : List Run)
    → HasAbandoned now a b first runs → Contains runs run → run.limit ≤ now → HasRecorded (call.Abandon run.object run.number now) reply b c
    → left ≡ runs_after_call (call.Abandon run.object run.number now) runs → HasAbandoned now a c first left
abandoned_more now run reply a b c first runs left f at past h is =
    let asked = call.Abandon run.object run.number now in
    let e = entry a.own asked reply in
    let within = subst (All (Contains first)) (sym f.left_are) (left_of_within f.entries first) in
    record {
      entries = f.entries ++ e ∷ [];
      are_abandonments =
          All-append (IsAbandonment now first) f.entries (e ∷ []) f.are_abandonments
          (All-cons (IsAbandonment now first) e [] (run, All-contains (Contains first) runs run within at, past, refl) (All-nil (IsAbandonment now first)));
      made = made_more f.entries asked reply a b c f.made h;
      left_are = left_more f.entries e first runs left f.left_are is;
    }
