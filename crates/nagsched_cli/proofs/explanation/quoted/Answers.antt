use Rattle.std.proofs.Common.{◌∙◌, ap}
use Rattle.std.specs.Prelude.{vec_items}
use Rattle.nagsched_cli.proofs.QuotedLemmas.{one_string}
use Rattle.nagsched_cli.proofs.explanation.quoted.Goals as goal

pub returns : goal.returns
returns c =
    let text = rw c.unwrap.ensures at c.from_utf8.ensures.ok in
    ap vec_items text
    ∙ one_string c.args.text.now _ _ _ _ (c.string.ensures.room.0 ∙ c.new-writer.ensures.before ∙ c.new.ensures.items)
    c.new-writer.ensures.tokens c.in_ok-string.ensures.ok c.into_inner.ensures.items
