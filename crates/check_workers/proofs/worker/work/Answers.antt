use Rattle.std.proofs.Common.{◌≡◌, ℕ, List, Some, None, ◌<◌, length, [], ◌∷◌, ◌++◌, ◌+◌, take, drop, get_or, refl, sym, ap, subst, ◌∙◌, append_assoc, arith}
use Rattle.std.proofs.Common.{rules}
use Rattle.std.proofs.lemmas.List.{take_all, take-append-drop, take_more}
use Rattle.check_desk.specs.Desks.{desk_opening}
use Rattle.check_desk.specs.Passes.{pass_of}
use Rattle.check_workers.specs.Tallies.{IsBounded, IsSum, tally_of}
use Rattle.check_workers.proofs.ShiftLemmas.{IsWorking, both_few, came_counted, counted_few, ended_counted, stopped_counted, worked_left, working_ended}
use Rattle.check_workers.proofs.ShiftLemmas.{working_few, working_more, working_none, working_stopped}
use Rattle.check_workers.proofs.SumLemmas.{sum_plus}
use Rattle.check_workers.proofs.TallyLemmas.{few_tally}
use Rattle.check_desk.proofs.PublicLaws.{bounded_calls}
use Rattle.check_workers.proofs.worker.work.Goals as goal

-- the moments done, the one at work, and those to come
split_at : (xs : List ℕ) (i : ℕ) → i < length xs → take i xs ++ get_or xs i 0 ∷ drop (i + 1) xs ≡ xs
split_at xs i h =
    sym (append_assoc (take i xs) (get_or xs i 0 ∷ []) (drop (i + 1) xs)) ∙ ap
    (λ l. l ++ drop (i + 1) xs) (sym (take_more xs i 0 h)) ∙ take-append-drop (i + 1) xs

pub loop-now-init : goal.loop-now-init
loop-now-init g c =
    let t = c.default-tally.result in
    let none : t ≡ tally_of [] [] = search rules in (
      c.requires,
      working_none (g.P.Plugin.allows c.args.plugin.now) (pass_of c.args.pass) t none,
      subst IsSum (sym none) (refl, refl),
    )

pub loop-now-preserved : goal.loop-now-preserved
loop-now-preserved g c =
    let allows = g.P.Plugin.allows c.args.plugin.now in
    let xs = c.args.moments.now in
    let i = c.loop-now.now-index in
    let done = rw c.in_default.is at c.work_once-back.ensures.progress in (
      c.work_once-back.ensures.desk,
      subst (λ l. IsWorking allows l (pass_of c.args.pass) (pass_of c.work_once-back.result.0) c.plus-tally.result) (sym (take_more xs i 0 c.loop-now-test.true))
          (rw c.plus-tally.ensures (working_more allows (take i xs) (get_or xs i 0) (pass_of c.args.pass) (pass_of c.loop-now.pass)
          (pass_of c.work_once-back.result.0) c.loop-now.tally c.work_once-back.result.1
          c.loop-now.invariant.1 done)),
      rw c.plus-tally.ensures (sum_plus c.loop-now.tally c.work_once-back.result.1 c.loop-now.invariant.2 c.work_once-back.ensures.sums),
    )

pub returns-in-Stopped-clause-worked : goal.returns-in-Stopped-clause-worked
returns-in-Stopped-clause-worked g c =
    let allows = g.P.Plugin.allows c.args.plugin.now in
    let xs = c.args.moments.now in
    let i = c.loop-now.now-index in
    let w = c.loop-now.invariant.1 in
    let h = rw c.in-Stopped.is at c.work_once-back.ensures.progress in (
      record { number = (pass_of c.args.pass).own; rounds = w.rounds; left_open = h.left_open; stopped = Some c.in-Stopped.stop },
      working_stopped allows (take i xs) (drop (i + 1) xs) xs (get_or xs i 0) (desk_opening c.args.desk.now).room c.in-Stopped.stop c.in-Stopped.open
          (pass_of c.args.pass) (pass_of c.loop-now.pass)
          (pass_of c.work_once-back.result.0) c.loop-now.tally c.work_once-back.result.1 (split_at xs i c.loop-now-test.true) w h,
      rw (c.plus.ensures, c.plus-tally.ensures, c.of_stop.ensures)
          (stopped_counted allows (take i xs) (get_or xs i 0) (desk_opening c.args.desk.now).room c.in-Stopped.stop c.in-Stopped.open
          (pass_of c.args.pass) (pass_of c.loop-now.pass) (pass_of c.work_once-back.result.0) c.loop-now.tally c.work_once-back.result.1 w h),
      h.run_is,
    )

pub returns-in-Stopped-clause-left : goal.returns-in-Stopped-clause-left
returns-in-Stopped-clause-left g c =
    let x = returns-in-Stopped-clause-worked g c in
    worked_left (g.P.Plugin.allows c.args.plugin.now) c.args.moments.now (desk_opening c.args.desk.now).room x.0 (pass_of c.args.pass)
    (pass_of c.work_once-back.result.0) c.plus.result x.1 x.2

pub returns-clause-worked : goal.returns-clause-worked
returns-clause-worked g c =
    let allows = g.P.Plugin.allows c.args.plugin.now in
    let xs = c.args.moments.now in
    let all : take c.loop-now.now-index xs ≡ xs = take_all c.loop-now.now-index xs c.loop-now-test.false in
    let w : IsWorking allows xs (pass_of c.args.pass) (pass_of c.loop-now.pass) c.loop-now.tally =
    subst (λ l. IsWorking allows l (pass_of c.args.pass) (pass_of c.loop-now.pass) c.loop-now.tally) all c.loop-now.invariant.1 in (
      record { number = (pass_of c.args.pass).own; rounds = w.rounds; left_open = None; stopped = None },
      working_ended allows xs (desk_opening c.args.desk.now).room (pass_of c.args.pass) (pass_of c.loop-now.pass) c.loop-now.tally w,
      ended_counted allows xs (pass_of c.args.pass) (pass_of c.loop-now.pass) c.loop-now.tally w,
      refl,
    )

pub returns-clause-left : goal.returns-clause-left
returns-clause-left g c =
    let x = returns-clause-worked g c in
    worked_left (g.P.Plugin.allows c.args.plugin.now) c.args.moments.now (desk_opening c.args.desk.now).room x.0 (pass_of c.args.pass)
    (pass_of c.loop-now.pass) c.loop-now.tally x.1 x.2

pub plus-tally-requires : goal.plus-tally-requires
plus-tally-requires g c = (
  working_few (g.P.Plugin.allows c.args.plugin.now) (take c.loop-now.now-index c.args.moments.now) (pass_of c.args.pass)
      (pass_of c.loop-now.pass) c.loop-now.tally c.loop-now.invariant.1 (bounded_calls c.loop-now.pass),
  counted_few (pass_of c.loop-now.pass) (pass_of c.work_once-back.result.0) c.work_once-back.result.1
      (came_counted (g.P.Plugin.allows c.args.plugin.now) _ (desk_opening c.args.desk.now).room (pass_of c.loop-now.pass)
      (pass_of c.work_once-back.result.0) c.work_once-back.result.1 c.work_once-back.result.2 c.work_once-back.ensures.progress)
      (bounded_calls c.work_once-back.result.0),
)

pub plus-requires : goal.plus-requires
plus-requires g c = (
  rw c.plus-tally.ensures (both_few (g.P.Plugin.allows c.args.plugin.now) (take c.loop-now.now-index c.args.moments.now) (pass_of c.args.pass)
      (pass_of c.loop-now.pass) (pass_of c.work_once-back.result.0)
      c.loop-now.tally c.work_once-back.result.1 c.loop-now.invariant.1
      (came_counted (g.P.Plugin.allows c.args.plugin.now) _ (desk_opening c.args.desk.now).room (pass_of c.loop-now.pass)
      (pass_of c.work_once-back.result.0) c.work_once-back.result.1 c.work_once-back.result.2 c.work_once-back.ensures.progress)
      (bounded_calls c.work_once-back.result.0)),
  subst IsBounded (sym c.of_stop.ensures) (few_tally [] (c.in-Stopped.stop ∷ []) (omega arith) (omega arith)),
)
