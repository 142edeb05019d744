use Rattle.std.proofs.Common.{◌≡◌, ap, ◌∙◌, ◌&&◌, get_or, Some, map, refl, rules, bytes_eq, option_map}
use Rattle.std.specs.Prelude.{slice_get}
use Rattle.std.specs.List.{list_any}
use Rattle.std.proofs.lemmas.Option.{slice_get-map, slice_get-get_or}
use Rattle.setup_model.specs.ParsedViews.{service}
use Rattle.setup_model.specs.Keys.{first_equal_index, key_of, is_same_key}
use Rattle.setup_model.specs.Place.{service_place}
use Rattle.setup_model.proofs.DefaultItems.{no_service}
use Rattle.setup_model.proofs.ListLemmas.{dropped_at, one_key_more}
use Rattle.setup_model.proofs.RepeatLemmas.{first_repeat_is}
use Rattle.setup_reader.proofs.VerificationLemmas.{keys_later, like_the_first, repeat_here, repeat_later, repeated_at, was_known, was_new}
use Rattle.setup_reader.proofs.names.verify_distinct_services.Goals as goal

pub loop-index-init : goal.loop-index-init
loop-index-init c =
    record { repeat = first_repeat_is is_same_key (map key_of (map service c.args.services.now)) ∙ search rules; names = search rules }

pub returns-then-not-is_new : goal.returns-then-not-is_new
returns-then-not-is_new c =
    let ss = c.args.services.now in
    let i = c.loop-index.index in
    let keys = c.loop-index.keys.keys in
    let item = get_or ss i no_service in
    let all = map key_of (map service ss) in
    let rest = dropped_at ss i no_service c.loop-index-test.true in
    let known = was_known c.in_ok-first.is_new (list_any (λ k. bytes_eq item.host.now k.0.now && bytes_eq item.description.now k.1.now) keys)
    c.in_ok-first.ensures.added c.if-not-is_new.true in
    let repeat = c.loop-index.invariant.repeat
    ∙ repeat_here is_same_key (λ k. (k.0.now, k.1.now)) (λ ds. map key_of (map service ds)) (λ d. (d.host, d.description)) (λ d ds. refl) keys ss i item rest
    known in
    let at : slice_get all i ≡ Some (item.host.now, item.description.now) =
    slice_get-map key_of (map service ss) i ∙ ap (option_map key_of) (slice_get-map service ss i
    ∙ ap (option_map service) (slice_get-get_or ss i no_service c.loop-index-test.true)) in
    let like = like_the_first is_same_key (λ k. (k.0.now, k.1.now)) all keys _ i c.in_ok-first.first (item.host.now, item.description.now)
    c.loop-index.invariant.names at known c.in_ok-first.ensures.index in
    repeated_at service_place (first_equal_index is_same_key all) _ i c.service.result c.in_ok-first.first repeat c.service.ensures like

pub loop-index-preserved : goal.loop-index-preserved
loop-index-preserved c =
    let ss = c.args.services.now in
    let i = c.loop-index.index in
    let keys = c.loop-index.keys.keys in
    let item = get_or ss i no_service in
    let new = was_new c.in_ok-first.is_new (list_any (λ k. bytes_eq item.host.now k.0.now && bytes_eq item.description.now k.1.now) keys)
    c.in_ok-first.ensures.added c.if-not-is_new.false in
    let more = one_key_more (list_any (λ k. bytes_eq item.host.now k.0.now && bytes_eq item.description.now k.1.now) keys) keys
    c.insert_full.new.self.keys (item.host, item.description) c.in_ok-first.ensures.keys new in
    let rest = dropped_at ss i no_service c.loop-index-test.true in
    record {
      repeat =
          c.loop-index.invariant.repeat
          ∙ repeat_later is_same_key (λ k. (k.0.now, k.1.now)) (λ ds. map key_of (map service ds)) (λ d. (d.host, d.description))
          (λ d ds. refl) keys c.insert_full.new.self.keys ss i item rest new more;
      names =
          c.loop-index.invariant.names
          ∙ keys_later is_same_key (λ k. (k.0.now, k.1.now)) (λ ds. map key_of (map service ds)) (λ d. (d.host, d.description))
          (λ d ds. refl) keys c.insert_full.new.self.keys ss i item rest more;
    }
