use Rattle.std.proofs.Common.{◌≡◌, ◌∙◌, rules, tests, lit<, map, bytes_eq}
use Rattle.std.specs.List.{list_any}
use Rattle.std.proofs.lemmas.Iterator.Search.{all_from_yields_List}
use Rattle.std.proofs.lemmas.Iterator.Splits.{YieldsList-from_str_split}
use Rattle.setup_reader.specs.JsonTree.{is_among}
use Rattle.setup_reader.proofs.TreeLemmas.{among_names}
use Rattle.setup_reader.proofs.criteria.are_letters.Goals as goal

pub returns : goal.returns
returns c =
    let letters = c.args.letters.now in
    all_from_yields_List (is_among (map (λ letter. letter.now) letters)) _ _ c.all.result c.all.ensures.ran
    (YieldsList-from_str_split 44 c.args.text.now (lit< tt) c.split.ensures.text c.split.ensures.has_more c.split.ensures.pattern)
    (λ x b q k.
    let same : b ≡ list_any (λ letter. bytes_eq letter.now x.now) letters = search (rules, tests) in
    (search (rules, tests), same ∙ among_names (λ letter. letter.now) letters x.now))
