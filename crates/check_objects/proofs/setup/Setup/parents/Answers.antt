use Rattle.std.proofs.Common.{◌≡◌, ◌<◌, sym, ap, subst, ◌∙◌, length, map, true, option_map, []}
use Rattle.std.specs.Prelude.{nat_lt, unwrap_or, All}
use Rattle.std.specs.List.{list_all}
use Rattle.std.proofs.lemmas.Bool.{ltb-true}
use Rattle.std.proofs.lemmas.List.Elements.{All-weaker}
use Rattle.std.proofs.lemmas.List.Sums.{AllPass-from_list_all}
use Rattle.std.proofs.lemmas.Option.{slice_get-map}
use Rattle.check_objects.specs.Entries.{host_entry}
use Rattle.check_objects.proofs.NameLemmas.{all_passes}
use Rattle.check_objects.proofs.setup.Setup.parents.Goals as goal

pub returns-in-Some-clause-within : goal.returns-in-Some-clause-within
returns-in-Some-clause-within c =
    let n = length (map host_entry c.self.inside.hosts.entries) in
    let hosts = c.self.inside.hosts.entries in
    let linked = all_passes (λ h. list_all (λ p. nat_lt p n) h.parents) (map host_entry hosts) _ _ c.self.invariant.setup.linked
    (slice_get-map host_entry hosts _ ∙ ap (option_map host_entry) (sym c.in-Some.ensures.entry)) in
    let below = All-weaker (λ p. nat_lt p n ≡ true) (λ p. p < n) (λ p e. ltb-true p n e) c.in-Some.host.now.parents.items
    (AllPass-from_list_all (λ p. nat_lt p n) c.in-Some.host.now.parents.items linked) in
    rw (← c.self.view_is) (subst (All (λ p. p < n)) (sym c.as_slice.ensures) below)

pub returns-in-None-clause-parents : goal.returns-in-None-clause-parents
returns-in-None-clause-parents c =
    rw (← c.self.view_is) (ap (λ o. unwrap_or (option_map (λ h. h.parents) (option_map host_entry o)) []) c.in-None.ensures.entry
    ∙ ap (λ o. unwrap_or (option_map (λ h. h.parents) o) []) (sym (slice_get-map host_entry c.self.inside.hosts.entries c.args.number)))
