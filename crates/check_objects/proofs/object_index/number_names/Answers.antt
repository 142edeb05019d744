use Rattle.std.proofs.Common.{map, take, sym, ap, ◌∙◌, bytes_eq, refl, true}
use Rattle.std.specs.List.{list_any}
use Rattle.setup_model.specs.Name.{text_order}
use Rattle.setup_model.specs.ParsedViews.{host}
use Rattle.setup_model.proofs.ListLemmas.{one_key_more, list_any-map}
use Rattle.check_objects.proofs.NumberingLemmas.{seen_next, new_at, all_good, texts_apart}
use Rattle.check_objects.proofs.object_index.number_names.Goals as goal

pub loop-item-preserved : goal.loop-item-preserved
loop-item-preserved c =
    let hs = c.args.sorted.now in
    let i = c.loop-item.item-index in
    let item = c.item-item.result in
    let old = c.loop-item.names.keys in
    let new = sym (list_any-map (bytes_eq item.name.now) (λ n. n.now) old) ∙ ap (list_any (bytes_eq item.name.now)) c.loop-item.invariant
    ∙ list_any-map (bytes_eq item.name.now) (λ h. h.name) (map host (take i hs))
    ∙ new_at text_order (λ h. h.name) (λ h. h.name) (λ h. true) (λ x y p q less. texts_apart x.name y.name less) host hs i item item
    c.loop-item-test.true c.item-item.is c.requires (all_good (map host hs)) in
    seen_next (λ k. k.now) (λ h. h.name) host old c.insert.new.self.keys item.name hs i item item c.loop-item.invariant c.loop-item-test.true c.item-item.is
    (one_key_more (list_any (λ n. bytes_eq item.name.now n.now) old) old c.insert.new.self.keys item.name c.in_ok-insert.ensures.keys new) refl
