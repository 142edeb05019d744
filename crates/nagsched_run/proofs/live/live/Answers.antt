use Rattle.nagsched_run.proofs.live.live.Goals as goal

pub returns : goal.returns
returns g c = rw (c.as_drive_result.ensures) c.converse.ensures.conversation
