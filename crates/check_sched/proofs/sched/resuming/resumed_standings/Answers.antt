use Rattle.std.proofs.Common.{◌<◌, ◌∙◌, ap, arith}
use Rattle.std.specs.Prelude.{nat_lt}
use Rattle.std.proofs.lemmas.List.{take_all}
use Rattle.check_objects.specs.Configuration.{object_count}
use Rattle.check_saved_state.specs.Saved.{saved_by_name}
use Rattle.check_sched.specs.Saved.{standing_after_resume}
use Rattle.check_sched.specs.State.{is_host}
use Rattle.check_sched.proofs.EachObjectLaws.{one_each, standing_seen}
use Rattle.check_sched.proofs.ReportLaws.{few_attempts, object_read_in_range, one_attempt}
use Rattle.check_sched.proofs.ResumedLaws.{length-made}
use Rattle.check_sched.proofs.sched.resuming.resumed_standings.Goals as goal

pub standing-requires-clause-nonempty : goal.standing-requires-clause-nonempty
standing-requires-clause-nonempty c =
    one_attempt c.object-object.result.now
    (object_read_in_range c.args.setup.now c.loop-index.index c.object-object.result.now c.len-count.ensures.setup c.object-object.ensures)

pub standing-requires-clause-bounded : goal.standing-requires-clause-bounded
standing-requires-clause-bounded c =
    few_attempts c.object-object.result.now
    (object_read_in_range c.args.setup.now c.loop-index.index c.object-object.result.now c.len-count.ensures.setup c.object-object.ensures)

pub loop-index-preserved : goal.loop-index-preserved
loop-index-preserved c =
    let setup = c.args.setup.now in
    let saved = c.args.saved.now in
    let n = c.loop-index.index in
    let in_range : n < object_count setup = omega arith in
    one_each setup (λ p. standing_after_resume (is_host setup p.0) p.1.object (saved_by_name saved p.1.name)) n c.loop-index.standings.items _
    c.standing.result in_range c.in_ok-push.ensures.items c.loop-index.invariant
    (λ o e. standing_seen setup saved n o c.object-object.result.now _ _ c.standing.result e c.object-object.ensures
    (ap (λ hosts. nat_lt n hosts) c.hosts.ensures.count) (c.saved_match-kept.ensures setup c.requires in_range) c.standing.ensures)

pub returns : goal.returns
returns c =
    let setup = c.args.setup.now in
    let saved = c.args.saved.now in
    let long = length-made setup (λ p. standing_after_resume (is_host setup p.0) p.1.object (saved_by_name saved p.1.name)) in
    c.loop-index.invariant ∙ take_all c.loop-index.index _ (omega (arith, long))
