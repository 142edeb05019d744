use Rattle.std.proofs.Common.{◌≡◌, ◌≤◌, string_capacity}
use Rattle.nagsched_protocol.specs.declared.line_reader.TheConstants.{LINE_PREFIX_BYTES}
use Rattle.nagsched_protocol.specs.declared.text.TheConstants.{REPLY_BYTES}
use Rattle.nagsched_run.proofs.LiveLemmas.{Talked}
use Rattle.nagsched_run.proofs.live.Conversation.answer_lines.Given as goal

abbrev pub invariant-loop-number : goal.invariant-loop-number
invariant-loop-number g l =
    Talked l.form l.begins l.fn.self.sched l.fn.self.buffered (g.R.Read.remaining l.initial.reader) (g.R.Read.remaining l.reader) (g.W.Write.contents l.initial.writer)
    (g.W.Write.contents l.writer) l.number l.self.sched l.self.buffered
    × (l.self.line.most ≡ LINE_PREFIX_BYTES) × (REPLY_BYTES ≤ string_capacity l.self.reply)
