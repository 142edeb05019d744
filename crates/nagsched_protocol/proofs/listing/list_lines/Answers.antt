use Rattle.std.proofs.Common.{◌++◌, string_bytes}
use Rattle.std.specs.Prelude.{codes, decimal}
use Rattle.check_objects.specs.Configuration.{object_count}
use Rattle.nagsched_protocol.specs.Text.{line_of, listed_line}
use Rattle.nagsched_protocol.proofs.TextLemmas.{listed_more}
use Rattle.nagsched_protocol.proofs.listing.list_lines.Goals as goal

pub loop-number-preserved : goal.loop-number-preserved
loop-number-preserved c =
    let sched = c.args.sched.now in
    listed_more (listed_line sched) c.loop-number.number (line_of (codes "listed " ++ decimal (object_count sched.setup)))
    (string_bytes c.loop-number.text) (string_bytes c.push_object.new.text) c.in_ok-push_object.ensures c.loop-number.invariant
