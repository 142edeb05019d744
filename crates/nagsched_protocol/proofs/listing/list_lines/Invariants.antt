use Rattle.std.proofs.Common.{◌≡◌, ◌++◌, string_bytes}
use Rattle.std.specs.Prelude.{codes, decimal, flat_map}
use Rattle.std.specs.List.{range_with_len}
use Rattle.check_objects.specs.Configuration.{object_count}
use Rattle.nagsched_protocol.specs.Text.{line_of, listed_line}
use Rattle.nagsched_protocol.proofs.listing.list_lines.Given as goal

abbrev pub invariant-loop-number : goal.invariant-loop-number
invariant-loop-number l =
    string_bytes l.text ≡ line_of (codes "listed " ++ decimal (object_count l.sched.setup)) ++ flat_map (listed_line l.sched) (range_with_len 0 l.number)
