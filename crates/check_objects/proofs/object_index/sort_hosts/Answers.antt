use Rattle.std.proofs.Common.{map, rules, subst}
use Rattle.std.specs.List.Sorted.{IsPermutation}
use Rattle.std.proofs.lemmas.Fn.{always_returns_same}
use Rattle.setup_model.specs.Name.{text_order}
use Rattle.setup_model.specs.ParsedViews.{host}
use Rattle.check_objects.proofs.NumberLaws.{names_once, texts_total}
use Rattle.check_objects.proofs.SortLemmas.{sorted_is_in_order}
use Rattle.check_objects.proofs.object_index.sort_hosts.Goals as goal

pub returns : goal.returns
returns c =
    let ds = c.args.parsed.now in
    let by_name = c.sort_unstable_by_key.ensures.sorted (λ h. h.name) (always_returns_same _ _ _ (λ a r f k. search rules)) in
    let once = names_once (map host ds) c.requires.distinct in
    let moved = subst (λ l. IsPermutation l c.sort_unstable_by_key.new.self.items) c.in_ok-sorted.ensures.items c.sort_unstable_by_key.ensures.permutation in
    sorted_is_in_order text_order texts_total (λ h. h.name) host ds c.sort_unstable_by_key.new.self.items once moved by_name
