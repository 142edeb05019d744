use Rattle.nagsched_handles.proofs.Options.{some_of}
use Rattle.nagsched_handles.proofs.handle.Handle.take.Goals as goal

pub into_box_parts-requires : goal.into_box_parts-requires
into_box_parts-requires c = some_of c.replace-raw.result.raw.value c.replace-raw.result.full c.replace-raw.result.consistent c.if-full-eq0.false
