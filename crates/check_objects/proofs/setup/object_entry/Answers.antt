use Rattle.std.proofs.Common.{sym, ap, ◌∙◌, ◌-◌, ◌≤◌, length, option_map, arith}
use Rattle.std.specs.Prelude.{slice_get}
use Rattle.std.specs.Map.Iter.{deref_pair}
use Rattle.check_objects.proofs.ObjectLemmas.{object_front, object_back}
use Rattle.check_objects.proofs.setup.object_entry.Goals as goal

pub returns-then-index-len : goal.returns-then-index-len
returns-then-index-len c =
    let at = sym c.get_index.ensures.entry ∙ ap (option_map deref_pair) c.unwrap.ensures in
    rw (c.as_str.ensures.value) (object_front c.args.hosts.now.entries c.args.services.now.entries c.args.number _ at)

pub returns-else-index-len : goal.returns-else-index-len
returns-else-index-len c =
    let hosts = c.args.hosts.now.entries in
    let services = c.args.services.now.entries in
    let place = ap (λ l. slice_get services (c.args.number - l)) (sym c.len-else-index-len.ensures.len) in
    let at = place ∙ sym c.get_index-else-index-len.ensures.entry ∙ ap (option_map deref_pair) c.unwrap-else-index-len.ensures in
    let past : length hosts ≤ c.args.number = omega (arith, c.if-index-len.false, c.len.ensures.len) in
    rw (c.as_str-else-index-len.ensures.value) (object_back hosts services c.args.number _ past at)
