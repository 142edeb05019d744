use Rattle.std.proofs.Common.{map, rules, subst}
use Rattle.std.specs.List.Sorted.{IsPermutation}
use Rattle.std.proofs.lemmas.Fn.{always_returns_same}
use Rattle.setup_model.specs.Keys.{key_of}
use Rattle.setup_model.specs.Name.{pair_order}
use Rattle.setup_model.specs.ParsedViews.{service}
use Rattle.check_objects.proofs.NumberLaws.{pairs_once, pairs_total}
use Rattle.check_objects.proofs.SortLemmas.{sorted_is_in_order}
use Rattle.check_objects.proofs.object_index.sort_services.Goals as goal

pub returns : goal.returns
returns c =
    let ds = c.args.parsed.now in
    let by_pair = c.sort_unstable_by_key.ensures.sorted (λ s. (s.host, s.description)) (always_returns_same _ _ _ (λ a r f k. search rules)) in
    let once = pairs_once (map service ds) c.requires.distinct in
    let moved = subst (λ l. IsPermutation l c.sort_unstable_by_key.new.self.items) c.in_ok-sorted.ensures.items c.sort_unstable_by_key.ensures.permutation in
    sorted_is_in_order pair_order pairs_total key_of service ds c.sort_unstable_by_key.new.self.items once moved by_pair
