use Rattle.std.proofs.Common.{rules, ap, ◌∙◌, bytes_eq, map}
use Rattle.setup_model.proofs.RepeatLemmas.{first_repeat_is}
use Rattle.check_saved_state.proofs.RepeatLemmas.{name_here, name_later}
use Rattle.check_saved_state.specs.declared.fault.SavedFault.TheVariants as faults
use Rattle.setup_model.specs.Agreement.{error_at}
use Rattle.check_saved_state.proofs.verification.verify_distinct.Goals as goal

pub loop-index-init : goal.loop-index-init
loop-index-init c = first_repeat_is bytes_eq (map (λ o. o.name) c.args.objects.now) ∙ search rules

pub returns-then-not-branch : goal.returns-then-not-branch
returns-then-not-branch c =
    ap (error_at faults.Duplicate)
    (c.loop-index.invariant
    ∙ name_here c.args.objects.now c.loop-index.index c.index-objects-index.result c.loop-index.names.keys c.object.inside.name c.in_ok-insert.field-0
    c.loop-index-test.true c.index-objects-index.is (ap (λ o. o.name) c.object.view_is) c.in_ok-insert.ensures.added c.if-not-branch.true)

pub loop-index-preserved : goal.loop-index-preserved
loop-index-preserved c =
    c.loop-index.invariant
    ∙ name_later c.args.objects.now c.loop-index.index c.index-objects-index.result c.loop-index.names.keys c.insert.new.self.keys
    c.object.inside.name c.in_ok-insert.field-0
    c.loop-index-test.true c.index-objects-index.is (ap (λ o. o.name) c.object.view_is) c.in_ok-insert.ensures.added c.if-not-branch.false
    c.in_ok-insert.ensures.keys
