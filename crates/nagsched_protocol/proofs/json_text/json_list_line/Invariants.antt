use Rattle.std.proofs.Common.{◌≡◌, [], ◌++◌}
use Rattle.std.specs.Prelude.{flat_map}
use Rattle.std.specs.List.{range_with_len}
use Rattle.nagsched_protocol.specs.Requested.{head_id}
use Rattle.nagsched_protocol.specs.JsonText.{first_tokens, list_begins, object_tokens}
use Rattle.nagsched_protocol.proofs.json_text.json_list_line.Given as goal

abbrev pub invariant-loop-number : goal.invariant-loop-number
invariant-loop-number l =
    (l.json.before ≡ [])
    × (l.json.tokens ≡ (first_tokens l.head.line (head_id l.head) ++ list_begins) ++ flat_map (object_tokens l.sched) (range_with_len 0 l.number))
