use Rattle.std.proofs.Common.{refl, arith, ◌∙◌, sym, inl, inr, ◌++◌}
use Rattle.nagsched_protocol.specs.LiveError.{IsReadingError}
use Rattle.nagsched_protocol.proofs.LiveInputLemmas.{Begun, after_input, asked_so, comes_first, comes_more, full_is, given_so, if_err_passed, if_ok_never}
use Rattle.nagsched_protocol.proofs.LiveInputLemmas.{never_asked, took_begun, took_first, took_last}
use Rattle.nagsched_protocol.proofs.line_reader.take_document.Given.{Over}
use Rattle.nagsched_protocol.proofs.line_reader.take_document.Goals.{After-is_full}
use Rattle.nagsched_protocol.proofs.line_reader.take_document.Goals as goal

-- the line so far, if the buffer had no line feed
begun : (g : Over) (c : After-is_full g)
    → Begun c.args.line.now.most (c.args.buffered.now ++ c.loop-reads.invariant.0.taking.bytes_read) c.take_line.new.line c.take_line.new.self
begun g c =
    let t = c.in_ok-take_line.ensures in
    took_begun c.loop-reads.invariant.0.taking _ _ _ t.whole t.rest t.line c.if-branch.false

pub loop-reads-init : goal.loop-reads-init
loop-reads-init g c = (comes_first _ _ _ _ c.requires.begins.0 c.requires.begins.1 c.requires.bounded, λ feed. refl)

pub returns-in_err-take_line : goal.returns-in_err-take_line
returns-in_err-take_line g c =
    let s = c.loop-reads.invariant.0 in
    let after = if_err_passed c.from_residual.result (IsReadingError s.taking.bytes_read) c.from_residual.ensures.1 (λ e is. rw is tt) in
    record { reading = given_so s _ _ (if_ok_never _ _ c.from_residual.ensures.0) after; no_read = c.loop-reads.invariant.1 }

pub returns-then-branch : goal.returns-then-branch
returns-then-branch g c =
    let s = c.loop-reads.invariant.0 in
    let t = c.in_ok-take_line.ensures in
    record {
      reading = given_so s _ _ (took_first s.taking _ _ _ _ (sym c.if-branch.true ∙ t.whole) t.rest t.line (λ e. cc)) tt;
      no_read = c.loop-reads.invariant.1;
    }

pub returns-then-is_full : goal.returns-then-is_full
returns-then-is_full g c =
    let s = c.loop-reads.invariant.0 in
    let t = c.in_ok-take_line.ensures in
    let kept = (begun g (goal.at.returns-then-is_full g c).After-is_full).kept in
    record {
      reading = given_so s _ _ (took_first s.taking _ _ _ _ (sym c.if-branch.false ∙ t.whole) t.rest t.line
          (λ e. inr (full_is _ _ _ kept (sym c.is_full.ensures ∙ c.if-is_full.true)))) tt;
      no_read = c.loop-reads.invariant.1;
    }

pub read_more-requires : goal.read_more-requires
read_more-requires g c = (begun g (goal.at.read_more-requires g c).After-is_full).nothing

pub returns-in_err-read_more : goal.returns-in_err-read_more
returns-in_err-read_more g c =
    let s = c.loop-reads.invariant.0 in
    let r = c.in_err-read_more.ensures.bytes_read in
    let passed = c.from_residual-in_err-read_more in
    let here = begun g (goal.at.returns-in_err-read_more g c).After-is_full in
    record {
      reading = asked_so s _ _ _ r.0 _ _ here (sym c.is_full.ensures ∙ c.if-is_full.false) r.1 r.3 (if_ok_never _ _ passed.ensures.0)
          (if_err_passed passed.result (IsReadingError (s.taking.bytes_read ++ r.0)) passed.ensures.1
          (λ e is. rw is (after_input (s.taking.bytes_read ++ r.0) _ c.in_err-read_more.ensures.errors)));
      no_read = never_asked _ _ s.taking.bytes_read _ _ here;
    }

pub returns-then-not-branch : goal.returns-then-not-branch
returns-then-not-branch g c =
    let s = c.loop-reads.invariant.0 in
    let r = c.in_ok-read_more.ensures.bytes_read in
    let end = c.in_ok-read_more.ensures.end c.if-not-branch.true in
    let here = begun g (goal.at.returns-then-not-branch g c).After-is_full in
    record {
      reading = asked_so s _ _ _ r.0 _ _ here (sym c.is_full.ensures ∙ c.if-is_full.false) r.1 r.3
          (took_last s.taking _ _ r.0 _ _ here r.2 end.0 (inl end.1)) tt;
      no_read = never_asked _ _ s.taking.bytes_read _ _ here;
    }

pub loop-reads-preserved : goal.loop-reads-preserved
loop-reads-preserved g c =
    let s = c.loop-reads.invariant.0 in
    let r = c.in_ok-read_more.ensures.bytes_read in
    let here = begun g (goal.at.loop-reads-preserved g c).After-is_full in (
      comes_more s _ _ _ r.0 _ here (sym c.is_full.ensures ∙ c.if-is_full.false) r.1 r.3 r.2 (c.in_ok-read_more.ensures.more c.if-not-branch.false),
      never_asked _ _ s.taking.bytes_read _ _ here,
    )

pub returns : goal.returns
returns g c =
    let s = c.loop-reads.invariant.0 in
    record { reading = given_so s _ _ tt (omega (arith, s.taking.many, c.loop-reads-test.false)); no_read = c.loop-reads.invariant.1 }
