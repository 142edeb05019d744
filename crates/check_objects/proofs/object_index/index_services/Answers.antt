use Rattle.std.proofs.Common.{map, take, get_or, sym, ap, ◌∙◌, bytes_eq, string_bytes, refl}
use Rattle.std.specs.List.{list_any}
use Rattle.setup_model.specs.Keys.{key_of}
use Rattle.setup_model.specs.Name.{full_name, is_host_name, pair_order}
use Rattle.setup_model.specs.ParsedViews.{service, texts}
use Rattle.setup_model.proofs.DefaultItems.{no_service}
use Rattle.setup_model.proofs.ListLemmas.{list_any-map}
use Rattle.check_objects.specs.Entries.{service_entry, description_in}
use Rattle.check_objects.specs.Numbering.{numbered_service}
use Rattle.check_objects.proofs.DependencyEndLemmas.{one_of_all}
use Rattle.check_objects.proofs.NumberingLemmas.{seen_next, new_at, names_apart, description_behind}
use Rattle.check_objects.proofs.object_index.index_services.Goals as goal

pub append-requires : goal.append-requires
append-requires c =
    let ss = c.args.sorted.now in
    let i = c.loop-item.item-index in
    let item = get_or ss i no_service in
    let named = full_name (item.host.now, item.description.now) in
    ap (λ n. list_any (λ x. bytes_eq n (string_bytes x.0)) c.loop-item.services.entries) c.in_ok-name.ensures
    ∙ sym (list_any-map (λ y. bytes_eq named y.name) service_entry c.loop-item.services.entries)
    ∙ ap (list_any (λ y. bytes_eq named y.name)) c.loop-item.invariant
    ∙ list_any-map (λ y. bytes_eq named y.name) (numbered_service (texts c.args.names.now.keys)) (map service (take i ss))
    ∙ new_at pair_order key_of (λ s. full_name (key_of s)) (λ s. is_host_name s.host) (λ x y p q less. names_apart (key_of x) (key_of y) p q less)
    service ss i no_service item c.loop-item-test.true refl c.requires.ascending c.requires.without_semicolon

pub loop-item-preserved : goal.loop-item-preserved
loop-item-preserved c =
    let ss = c.args.sorted.now in
    let i = c.loop-item.item-index in
    let item = get_or ss i no_service in
    let without_semicolon = one_of_all (λ s. is_host_name s.host) service ss i no_service c.loop-item-test.true c.requires.without_semicolon in
    let description = ap description_in c.in_ok-name.ensures ∙ description_behind item.host.now item.description.now without_semicolon in
    seen_next service_entry (numbered_service (texts c.args.names.now.keys)) service c.loop-item.services.entries c.append.new.map.entries
    (c.in_ok-name.name, record { object = item.check; host = c.number_of-host.result }) ss i no_service item
    c.loop-item.invariant c.loop-item-test.true refl c.in_ok-append.ensures
    (λ j. record { name = c.in_ok-name.ensures j; description = description j; object = item.check; host = c.number_of-host.ensures j })
