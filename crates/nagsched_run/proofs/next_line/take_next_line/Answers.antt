use Rattle.std.proofs.Common.{◌∙◌, ◌++◌, arith, refl, sym}
use Rattle.std.specs.Prelude.{IfErr}
use Rattle.std.proofs.lemmas.Result.{err_from_is_err_and}
use Rattle.nagsched_protocol.specs.LiveError.{IsLineReadingError}
use Rattle.nagsched_protocol.proofs.LiveInputLemmas.{Consumes-then, if_ok_never, never_asked, took_begun, took_first, took_last}
use Rattle.nagsched_run.proofs.NextLineLemmas.{Keeps-then, after_ask, never_spent, writes_first, writes_more}
use Rattle.nagsched_run.proofs.next_line.take_next_line.Goals as goal

pub loop-reads-init : goal.loop-reads-init
loop-reads-init g c = (writes_first _ _ _ _ _ c.clear.ensures, λ feed. refl)

pub returns-in_err-take_line : goal.returns-in_err-take_line
returns-in_err-take_line g c =
    let s = c.loop-reads.invariant.0 in
    let p = err_from_is_err_and c.from_residual.result c.from_residual.ensures.1 in
    let after : IfErr c.from_residual.result (IsLineReadingError s.taking.bytes_read) = rw (p.1, p.2) tt in
    record {
      reading = (s.taking.bytes_read, s.taking.consumed, if_ok_never _ _ c.from_residual.ensures.0, after);
      no_read = c.loop-reads.invariant.1;
      memory = λ feed. rw (p.1, p.2) refl;
      kept = s.written;
    }

pub returns-then-branch : goal.returns-then-branch
returns-then-branch g c =
    let s = c.loop-reads.invariant.0 in
    let t = c.in_ok-take_line.ensures in
    record {
      reading = (s.taking.bytes_read, s.taking.consumed, took_first s.taking _ _ _ _ (sym c.if-branch.true ∙ t.whole) t.rest t.line (λ e. cc), tt);
      no_read = c.loop-reads.invariant.1;
      memory = λ feed. tt;
      kept = s.written;
    }

pub flush_and_read-requires : goal.flush_and_read-requires
flush_and_read-requires g c =
    let t = c.in_ok-take_line.ensures in
    (took_begun c.loop-reads.invariant.0.taking _ _ _ t.whole t.rest t.line c.if-branch.false).nothing

pub returns-in_err-flush_and_read : goal.returns-in_err-flush_and_read
returns-in_err-flush_and_read g c =
    let s = c.loop-reads.invariant.0 in
    let t = c.in_ok-take_line.ensures in
    let r = c.in_err-flush_and_read.ensures.bytes_read in
    let p = err_from_is_err_and c.from_residual-in_err-flush_and_read.result c.from_residual-in_err-flush_and_read.ensures.1 in
    let begun = took_begun s.taking _ _ _ t.whole t.rest t.line c.if-branch.false in
    let after : IfErr c.from_residual-in_err-flush_and_read.result (IsLineReadingError (s.taking.bytes_read ++ r.0)) =
    rw (p.1, p.2) (after_ask (s.taking.bytes_read ++ r.0) _ c.in_err-flush_and_read.ensures.errors) in
    record {
      reading = (s.taking.bytes_read ++ r.0, Consumes-then _ _ _ s.taking.bytes_read r.0 s.taking.consumed r.1, if_ok_never _ _ c.from_residual-in_err-flush_and_read.ensures.0, after);
      no_read = never_asked _ _ s.taking.bytes_read _ _ begun;
      memory = never_asked _ _ s.taking.bytes_read _ _ begun;
      kept = Keeps-then _ _ _ s.written c.flush_and_read.ensures.kept;
    }

pub returns-then-not-branch : goal.returns-then-not-branch
returns-then-not-branch g c =
    let s = c.loop-reads.invariant.0 in
    let t = c.in_ok-take_line.ensures in
    let r = c.in_ok-flush_and_read.ensures.bytes_read in
    let begun = took_begun s.taking _ _ _ t.whole t.rest t.line c.if-branch.false in
    let end = c.in_ok-flush_and_read.ensures.end c.if-not-branch.true in
    record {
      reading = (s.taking.bytes_read ++ r.0, Consumes-then _ _ _ s.taking.bytes_read r.0 s.taking.consumed r.1, took_last s.taking _ _ r.0 _ _ begun r.2 end.0 end.1, tt);
      no_read = never_asked _ _ s.taking.bytes_read _ _ begun;
      memory = λ feed. tt;
      kept = Keeps-then _ _ _ s.written c.flush_and_read.ensures.kept;
    }

pub loop-reads-preserved : goal.loop-reads-preserved
loop-reads-preserved g c =
    let s = c.loop-reads.invariant.0 in
    let t = c.in_ok-take_line.ensures in
    let r = c.in_ok-flush_and_read.ensures.bytes_read in
    let begun = took_begun s.taking _ _ _ t.whole t.rest t.line c.if-branch.false in (
      writes_more s _ _ _ _ r.0 _ begun r.1 c.flush_and_read.ensures.kept r.2 (c.in_ok-flush_and_read.ensures.more c.if-not-branch.false),
      never_asked _ _ s.taking.bytes_read _ _ begun,
    )

pub returns : goal.returns
returns g c =
    let s = c.loop-reads.invariant.0 in
    let spent = c.loop-reads-test.false in
    record {
      reading = (s.taking.bytes_read, s.taking.consumed, tt, omega (arith, s.taking.many, spent));
      no_read = c.loop-reads.invariant.1;
      memory = never_spent s (omega (arith, spent));
      kept = s.written;
    }
