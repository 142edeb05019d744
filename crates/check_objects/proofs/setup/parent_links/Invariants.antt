use Rattle.std.proofs.Common.{◌≡◌, map, take}
use Rattle.check_objects.specs.Entries.{host_entry}
use Rattle.check_objects.proofs.setup.parent_links.Given as goal

abbrev pub invariant-loop-number : goal.invariant-loop-number
invariant-loop-number l = map (λ x. x.items) l.links.items ≡ map (λ h. h.parents) (map host_entry (take l.number l.hosts.entries))
