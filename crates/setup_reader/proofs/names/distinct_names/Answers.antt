use Rattle.std.proofs.Common.{◌≡◌, ap, ◌∙◌, Ok, Some, map, length, refl, rules, bytes_eq, option_map}
use Rattle.std.specs.Prelude.{slice_get}
use Rattle.std.specs.List.{list_any}
use Rattle.std.proofs.lemmas.Option.{slice_get-map, slice_get_read}
use Rattle.setup_model.specs.Agreement.{◌>>=◌}
use Rattle.setup_model.specs.ParsedViews.{host}
use Rattle.setup_model.specs.Keys.{first_equal_index, names_of}
use Rattle.setup_model.specs.Place.{host_place}
use Rattle.setup_model.proofs.ListLemmas.{dropped_as, one_key_more}
use Rattle.setup_model.proofs.RepeatLemmas.{first_repeat_is}
use Rattle.setup_reader.proofs.VerificationLemmas.{keys_later, like_the_first, repeat_here, repeat_later, repeated_at, was_known, was_new}
use Rattle.setup_reader.proofs.names.distinct_names.Goals as goal

pub loop-index-init : goal.loop-index-init
loop-index-init c = record { repeat = first_repeat_is bytes_eq (names_of (map host c.args.hosts.now)) ∙ search rules; names = search rules }

pub returns-then-not-is_new : goal.returns-then-not-is_new
returns-then-not-is_new c =
    let hs = c.args.hosts.now in
    let i = c.loop-index.index in
    let keys = c.loop-index.names.keys in
    let item = c.index-hosts-index.result in
    let names = names_of (map host hs) in
    let rest = dropped_as hs i item c.loop-index-test.true c.index-hosts-index.is in
    let known = was_known c.in_ok-first.is_new (list_any (λ n. bytes_eq item.name.now n.now) keys) c.in_ok-first.ensures.added c.if-not-is_new.true in
    let repeat = c.loop-index.invariant.repeat
    ∙ repeat_here bytes_eq (λ n. n.now) (λ ds. names_of (map host ds)) (λ d. d.name) (λ d ds. refl) keys hs i item rest known in
    let at : slice_get names i ≡ Some item.name.now =
    slice_get-map (λ h. h.name) (map host hs) i ∙ ap (option_map (λ h. h.name)) (slice_get-map host hs i
    ∙ ap (option_map host) (slice_get_read hs (length hs) i item refl c.loop-index-test.true c.index-hosts-index.is)) in
    let like = like_the_first bytes_eq (λ n. n.now) names keys _ i c.in_ok-first.first item.name.now c.loop-index.invariant.names at known
    c.in_ok-first.ensures.index in
    ap (λ r. r >>= λ _. Ok names) (repeated_at host_place (first_equal_index bytes_eq names) _ i c.host.result c.in_ok-first.first repeat c.host.ensures like)

pub loop-index-preserved : goal.loop-index-preserved
loop-index-preserved c =
    let hs = c.args.hosts.now in
    let i = c.loop-index.index in
    let keys = c.loop-index.names.keys in
    let item = c.index-hosts-index.result in
    let new = was_new c.in_ok-first.is_new (list_any (λ n. bytes_eq item.name.now n.now) keys) c.in_ok-first.ensures.added c.if-not-is_new.false in
    let more = one_key_more (list_any (λ n. bytes_eq item.name.now n.now) keys) keys c.insert_full.new.self.keys item.name c.in_ok-first.ensures.keys new in
    let rest = dropped_as hs i item c.loop-index-test.true c.index-hosts-index.is in
    record {
      repeat =
          c.loop-index.invariant.repeat
          ∙ repeat_later bytes_eq (λ n. n.now) (λ ds. names_of (map host ds)) (λ d. d.name)
          (λ d ds. refl) keys c.insert_full.new.self.keys hs i item rest new more;
      names =
          c.loop-index.invariant.names
          ∙ keys_later bytes_eq (λ n. n.now) (λ ds. names_of (map host ds)) (λ d. d.name)
          (λ d ds. refl) keys c.insert_full.new.self.keys hs i item rest more;
    }
