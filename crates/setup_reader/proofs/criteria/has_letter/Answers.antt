use Rattle.std.proofs.Common.{rules, tests, lit<}
use Rattle.std.specs.Prelude.{bytes_eq}
use Rattle.std.proofs.lemmas.Iterator.Search.{any_from_yields_List}
use Rattle.std.proofs.lemmas.Iterator.Splits.{YieldsList-from_str_split}
use Rattle.setup_reader.proofs.criteria.has_letter.Goals as goal

pub returns : goal.returns
returns c =
    any_from_yields_List (λ piece. bytes_eq piece c.args.letter.now) _ _ c.any.result c.any.ensures.ran
    (YieldsList-from_str_split 44 c.args.text.now (lit< tt) c.split.ensures.text c.split.ensures.has_more c.split.ensures.pattern)
    (λ x b q k. search (rules, tests))
