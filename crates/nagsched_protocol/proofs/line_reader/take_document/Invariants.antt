use Rattle.std.proofs.Common.{◌≡◌, true}
use Rattle.nagsched_protocol.specs.LiveInput.{has_feed}
use Rattle.nagsched_protocol.proofs.LiveInputLemmas.{Coming}
use Rattle.nagsched_protocol.proofs.line_reader.take_document.Given as goal

abbrev pub invariant-loop-reads : goal.invariant-loop-reads
invariant-loop-reads g l =
    Coming l.fn.line.most l.initial.buffered (g.R.Read.remaining l.initial.reader) (g.R.Read.remaining l.reader) l.line l.buffered l._reads
    × (has_feed l.initial.buffered ≡ true → l.reader ≡ l.initial.reader)
