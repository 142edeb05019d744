use Rattle.std.proofs.Common.{◌≡◌, true}
use Rattle.nagsched_protocol.specs.LiveInput.{has_feed}
use Rattle.nagsched_run.proofs.NextLineLemmas.{TakingAndWriting}
use Rattle.nagsched_run.proofs.next_line.take_next_line.Given as goal

abbrev pub invariant-loop-reads : goal.invariant-loop-reads
invariant-loop-reads g l =
    TakingAndWriting l.fn.line.most l.initial.buffered (g.R.Read.remaining l.initial.reader) (g.R.Read.remaining l.reader)
    (g.W.Write.contents l.initial.writer) (g.W.Write.contents l.writer) l.line l.buffered l._reads
    × (has_feed l.initial.buffered ≡ true → l.reader ≡ l.initial.reader)
