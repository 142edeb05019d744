use Rattle.std.proofs.Common.{refl, sym, ◌∙◌, map}
use Rattle.setup_model.proofs.RepeatLemmas.{first_repeat_is}
use Rattle.check_saved_state.proofs.RepeatLemmas.{run_here, run_later, run_none}
use Rattle.check_saved_state.specs.Verification.{is_same_run, run_number}
use Rattle.check_saved_state.proofs.invariants.first_repeated_run.Goals as goal
use Rattle.check_saved_state.proofs.invariants.first_repeated_run.Goals.{in-Some+in_ok-insert+else-not-branch, in_default}

pub loop-index-init : goal.loop-index-init
loop-index-init c = record { repeat = first_repeat_is is_same_run (map run_number c.args.objects.now); known = λ n. rw c.in_ok-numbers.ensures.empty refl }

pub returns-then-not-branch-clause-place : goal.returns-then-not-branch-clause-place
returns-then-not-branch-clause-place c =
    sym (c.loop-index.invariant.repeat
    ∙ run_here c.args.objects.now c.loop-index.index c.index-objects-index.result c.loop-index.numbers.keys c.in-Some.number c.in_ok-insert.field-0
    c.loop-index-test.true c.index-objects-index.is c.in-Some.ensures c.loop-index.invariant.known c.in_ok-insert.ensures.added c.if-not-branch.true)

pub loop-index-preserved : goal.loop-index-preserved
loop-index-preserved c =
    let objects = c.args.objects.now in
    let i = c.loop-index.index in
    let o = c.index-objects-index.result in
    elim c.match-run_number.branch [
      | in-Some+in_ok-insert+else-not-branch w ↦
          let next = run_later objects i o c.loop-index.numbers.keys w.insert.new.self.keys w.in-Some.number w.in_ok-insert.field-0
          c.loop-index-test.true c.index-objects-index.is w.in-Some.ensures c.loop-index.invariant.known w.in_ok-insert.ensures.added
          w.if-not-branch.false w.in_ok-insert.ensures.keys in
          rw w.numbers-is (record { repeat = c.loop-index.invariant.repeat ∙ next.0; known = next.1 })
      | in_default w ↦
          let next = run_none objects i o c.loop-index.numbers.keys c.loop-index-test.true c.index-objects-index.is w.in_default.ensures
          c.loop-index.invariant.known in
          rw w.numbers-is (record { repeat = c.loop-index.invariant.repeat ∙ next.0; known = next.1 })
    ]
