use Rattle.std.proofs.Common.{sym, ap, ◌∙◌, length, map, option_map}
use Rattle.std.specs.Prelude.{nat_lt}
use Rattle.std.specs.Map.Iter.{deref_pair}
use Rattle.std.proofs.lemmas.Bool.{ltb-true}
use Rattle.std.proofs.lemmas.Option.{slice_get-map}
use Rattle.check_objects.specs.Entries.{host_entry, service_entry}
use Rattle.check_objects.proofs.NameLemmas.{all_passes}
use Rattle.check_objects.proofs.setup.Setup.host_of.Goals as goal

pub returns-clause-within : goal.returns-clause-within
returns-clause-within c =
    let n = length (map host_entry c.self.inside.hosts.entries) in
    let services = c.self.inside.services.entries in
    let at = sym c.get_index.ensures.entry ∙ ap (option_map deref_pair) c.unwrap.ensures in
    let below = all_passes (λ s. nat_lt s.host n) (map service_entry services) _ _ c.self.invariant.setup.hosts_in_range
    (slice_get-map service_entry services _ ∙ ap (option_map service_entry) at) in
    rw (← c.self.view_is) (ltb-true _ _ below)
