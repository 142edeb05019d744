use Rattle.std.proofs.Common.{◌∙◌, refl, sym}
use Rattle.std.proofs.lemmas.Result.{on_ok_weaker}
use Rattle.check_book.specs.Books.{opening_of}
use Rattle.nagsched_handles.proofs.Fresh.{fresh_all, opened}
use Rattle.nagsched_handles.proofs.opening.open_book.Goals as goal

pub place_all-requires-clause-fresh : goal.place_all-requires-clause-fresh
place_all-requires-clause-fresh c =
    fresh_all c.args.terms.calls c.in-Ok-open_with.desk 0 c.in-Ok-open_with.passes.items c.in-Ok-open_with.ensures.new

pub returns-in-Ok-open_with-clause-ok : goal.returns-in-Ok-open_with-clause-ok
returns-in-Ok-open_with-clause-ok c =
    let made = c.in-Ok-open_with.ensures in
    on_ok_weaker c.place_all.result
    (opened c.args.terms (opening_of c.args.named.book) _ c.in-Ok-open_with.passes.items c.place_all.new.handles refl made.opening (made.passes ∙ sym made.list) made.new)
    c.place_all.ensures.ok
