use Rattle.std.proofs.Common.{subst}
use Rattle.nagsched_handles.specs.declared.target.HandleTarget.{HandleTarget}
use Rattle.nagsched_handles.specs.Closing.{HasRenewedBook}
use Rattle.nagsched_handles.specs.Handles.{box_value}
use Rattle.nagsched_handles.proofs.closing.renew.Goals as goal

pub returns : goal.returns
returns c =
    rw (c.put.ensures) (subst (λ (b : HandleTarget). HasRenewedBook c.args.room b c.renew_target-renewed.result.0 (box_value c.renew_target-renewed.result.1))
    c.take.ensures.value c.renew_target-renewed.ensures)
