use Rattle.std.proofs.Common.{arith}
use Rattle.std.proofs.lemmas.List.{length-take}
use Rattle.std.proofs.lemmas.Result.{err_from_is_err_and}
use Rattle.nagsched_protocol.proofs.InputLemmas.{begun_by, read_limit, read_end, read_nothing, some_there}
use Rattle.nagsched_protocol.proofs.input.read_at_most.Goals as goal
use Rattle.nagsched_protocol.proofs.input.read_at_most.Goals.{else-loop-chunk-test, then-loop-chunk-test+in_ok-count+then-count-eq0}

pub returns-in_err-append-clause-memory : goal.returns-in_err-append-clause-memory
returns-in_err-append-clause-memory g c =
    let p = err_from_is_err_and c.from_residual-in_err-append.result c.from_residual-in_err-append.ensures.1 in
    rw (p.1, p.2) (λ m. begun_by _ _ _ c.loop-chunk.input.items _ c.in_ok-count.count c.loop-chunk.invariant.0 c.in_ok-count.ensures.bytes.0 c.in_ok-count.ensures.count
    c.if-count-eq0.false)

pub returns-clause-all : goal.returns-clause-all
returns-clause-all g c = elim c.loop-chunk-test.branch [
  | else-loop-chunk-test w ↦ read_limit _ _ c.loop-chunk.input.items c.args.most c.loop-chunk.invariant.0 (omega arith)
  | then-loop-chunk-test+in_ok-count+then-count-eq0 w ↦ read_end _ _ _ c.loop-chunk.input.items _ _ c.args.most c.loop-chunk.invariant.0 w.in_ok-count.ensures.bytes.0
      w.if-count-eq0.true (w.in_ok-count.ensures.bytes.1 w.if-count-eq0.true (omega (arith, length-take w.min-wanted.result c.loop-chunk.chunk))) (omega arith)
]

pub returns-clause-left : goal.returns-clause-left
returns-clause-left g c = elim c.loop-chunk-test.branch [
  | else-loop-chunk-test w ↦ rw (w.reader-is) (c.loop-chunk.invariant.0, some_there c.loop-chunk.input.items (omega (arith, c.requires)))
  | then-loop-chunk-test+in_ok-count+then-count-eq0 w ↦ rw (w.reader-is) (
    read_nothing _ _ _ c.loop-chunk.input.items _ w.in_ok-count.count c.loop-chunk.invariant.0 w.in_ok-count.ensures.bytes.0 w.if-count-eq0.true,
    λ none. w.in_ok-count.ensures.bytes.1 w.if-count-eq0.true (omega (arith, length-take w.min-wanted.result c.loop-chunk.chunk)),
  )
]
