use Rattle.std.proofs.Common.{map, take, sym, ap, ◌∙◌, bytes_eq, string_bytes, true}
use Rattle.std.specs.List.{list_any}
use Rattle.setup_model.specs.Name.{text_order}
use Rattle.setup_model.specs.ParsedViews.{host, texts}
use Rattle.setup_model.proofs.ListLemmas.{list_any-map}
use Rattle.check_objects.specs.Entries.{host_entry}
use Rattle.check_objects.specs.Numbering.{numbered_host}
use Rattle.check_objects.proofs.NumberingLemmas.{seen_next, new_at, all_good, texts_apart}
use Rattle.check_objects.proofs.object_index.index_hosts.Goals as goal

pub append-requires : goal.append-requires
append-requires c =
    let hs = c.args.sorted.now in
    let i = c.loop-item.item-index in
    let item = c.item-item.result in
    ap (λ n. list_any (λ x. bytes_eq n (string_bytes x.0)) c.loop-item.hosts.entries) c.in_ok-name.ensures.ok
    ∙ sym (list_any-map (λ y. bytes_eq item.name.now y.name) host_entry c.loop-item.hosts.entries)
    ∙ ap (list_any (λ y. bytes_eq item.name.now y.name)) c.loop-item.invariant
    ∙ list_any-map (λ y. bytes_eq item.name.now y.name) (numbered_host (texts c.args.names.now.keys)) (map host (take i hs))
    ∙ new_at text_order (λ h. h.name) (λ h. h.name) (λ h. true) (λ x y p q less. texts_apart x.name y.name less) host hs i item item
    c.loop-item-test.true c.item-item.is c.requires.ascending (all_good (map host hs))

pub loop-item-preserved : goal.loop-item-preserved
loop-item-preserved c =
    let item = c.item-item.result in
    seen_next host_entry (numbered_host (texts c.args.names.now.keys)) host c.loop-item.hosts.entries c.append.new.map.entries
    (c.in_ok-name.name, record { object = item.check; parents = c.in_ok-parents.parents }) c.args.sorted.now c.loop-item.item-index item item
    c.loop-item.invariant c.loop-item-test.true c.item-item.is c.in_ok-append.ensures
    (λ j. record { name = c.in_ok-name.ensures.ok j; object = item.check; parents = c.in_ok-parents.ensures j })
