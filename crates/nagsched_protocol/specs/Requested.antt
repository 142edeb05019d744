-- The requests of the code as the definitions see them.
use Rattle.std.specs.Prelude.{Option, option_map, string_bytes}
use Rattle.nagsched_protocol.specs.declared.json_text.Head.{Head}
use Rattle.nagsched_protocol.specs.declared.request.Request.{Request}
use Rattle.nagsched_protocol.specs.declared.request.RequestId.{RequestId}
use Rattle.nagsched_protocol.specs.declared.request.RequestId.TheVariants as ids
use Rattle.nagsched_protocol.specs.Request as spec

abbrev pub id_view : RequestId → spec.Id
id_view (ids.Number n) = spec.number_id n
id_view (ids.Text text) = spec.text_id (string_bytes text)

abbrev pub request : Request → spec.Request
request r = record { command = r.command; id = option_map id_view r.id }

-- the id in the beginning of an answer
abbrev pub head_id : Head → Option spec.Id
head_id head = option_map (λ id. id_view id.now) head.id
