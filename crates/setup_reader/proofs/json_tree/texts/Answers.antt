use Rattle.std.proofs.Common.{sym, ◌∙◌, ap, true, false}
use Rattle.std.specs.List.{list_all}
use Rattle.setup_reader.proofs.TreeLemmas.{is_text, texts_of_items}
use Rattle.setup_reader.proofs.json_tree.texts.Goals as goal

pub returns-then-are_texts : goal.returns-then-are_texts
returns-then-are_texts c =
    let same = c.deref-then-are_texts.ensures.value ∙ sym c.deref.ensures.value in
    sym (texts_of_items _ c.in_ok-items.items.now.items _ true c.in_ok-items.ensures c.deref-then-are_texts.ensures.value
    (ap (list_all is_text) same ∙ sym c.are_texts.ensures ∙ c.if-are_texts.true))

pub returns-else-are_texts : goal.returns-else-are_texts
returns-else-are_texts c =
    sym (texts_of_items _ c.in_ok-items.items.now.items _ false c.in_ok-items.ensures c.deref.ensures.value (sym c.are_texts.ensures ∙ c.if-are_texts.false))
