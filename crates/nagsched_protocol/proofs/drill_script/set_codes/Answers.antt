use Rattle.std.proofs.lemmas.List.{map-set}
use Rattle.nagsched_protocol.proofs.drill_script.set_codes.Goals as goal

pub returns-then-object-len : goal.returns-then-object-len
returns-then-object-len c = rw c.in-Plugin.is (map-set (λ list. list.items) c.args.lists.now.items c.in-Plugin.object c.in-Plugin.codes)
