-- In a setup the number of an object is how many names, or pairs, are smaller.
use Rattle.std.proofs.Common.{◌≡◌, ℕ, get_or, ◌<◌, map, Some, sym, ap, ◌∙◌, arith}
use Rattle.std.specs.Prelude.{slice_get}
use Rattle.std.proofs.lemmas.List.{length-map, get_or-map}
use Rattle.std.proofs.lemmas.Option.{slice_get_within, get_or_from_slice_get}
use Rattle.check_objects.specs.Configuration.{Configuration, Host, Service, IsSetup, host_count, name_of, pair_of}
use Rattle.setup_model.specs.Name.{text_order, pair_order}
use Rattle.check_objects.specs.Numbering.{smaller_count}
use Rattle.check_objects.proofs.NameLemmas.{item_at, name_of_host}
use Rattle.check_objects.proofs.NumberLaws.{texts_total, pairs_total}
use Rattle.check_objects.proofs.SortLemmas.{rank_at}

pub host_counted : (c : Configuration) (n : ℕ) → IsSetup c → n < host_count c → smaller_count text_order (map (λ h. h.name) c.hosts) (name_of c n) ≡ n
host_counted c n is below =
    let i = item_at c.hosts n below in
    let names = map (λ (h : Host). h.name) c.hosts in
    let named : name_of c n ≡ get_or names n (i.item.name) = name_of_host c n i.item i.at ∙ ap
    (λ (h : Host). h.name) (sym (get_or_from_slice_get c.hosts n i.item i.item i.at))
    ∙ sym (get_or-map (λ (h : Host). h.name) c.hosts n i.item i.item.name below) in
    ap (smaller_count text_order names) named ∙ rank_at text_order texts_total names n i.item.name is.hosts_ascend
    (omega (arith, below, length-map c.hosts (λ (h : Host). h.name)))

pub service_counted : (c : Configuration) (n : ℕ) (s : Service) → IsSetup c → slice_get c.services n ≡ Some s
    → smaller_count pair_order (map (pair_of c) c.services) (pair_of c s) ≡ n
service_counted c n s is at =
    let below = slice_get_within c.services n s at in
    let pairs = map (pair_of c) c.services in
    let named : pair_of c s ≡ get_or pairs n (pair_of c s) = ap (pair_of c) (sym (get_or_from_slice_get c.services n s s at)) ∙ sym
    (get_or-map (pair_of c) c.services n s (pair_of c s) below) in
    ap (smaller_count pair_order pairs) named ∙ rank_at pair_order pairs_total pairs n (pair_of c s) is.services_ascend
    (omega (arith, below, length-map c.services (pair_of c)))
