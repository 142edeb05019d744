use Rattle.std.proofs.Common.{◌≡◌, ◌∙◌, ap, sym}
use Rattle.std.proofs.lemmas.Result.{err_from_is_err_and}
use Rattle.nagsched_protocol.specs.declared.drive_error.DriveError.TheVariants as faults
use Rattle.nagsched_jobs.specs.Reading.{is_full_with_feed}
use Rattle.nagsched_jobs.proofs.ReadingLemmas.{begun_long, decided, started_on, undecided}
use Rattle.nagsched_jobs.proofs.reading.read_document_input.Goals as goal
use Rattle.nagsched_jobs.proofs.reading.read_document_input.Goals.{then-is_full_with_feed+in_ok-behind+in_ok-extend_from_slice, else-is_full_with_feed}

pub returns-in_err-input : goal.returns-in_err-input
returns-in_err-input g c =
    let p = err_from_is_err_and c.from_residual.result c.from_residual.ensures.1 in
    let e = c.in_err-input.ensures in
    rw (p.1, p.2) (record { all = tt; left = tt; errors = e.errors; memory = e.memory })

pub returns-in_err-behind : goal.returns-in_err-behind
returns-in_err-behind g c =
    let p = err_from_is_err_and c.from_residual-in_err-behind.result c.from_residual-in_err-behind.ensures.1 in
    let e = c.in_err-behind.ensures in
    let tested = ap is_full_with_feed (sym c.deref.ensures.value) ∙ sym c.is_full_with_feed.ensures ∙ c.if-is_full_with_feed.true in
    rw (p.1, p.2)
    (record { all = tt; left = tt; errors = e.errors; memory = λ m. begun_long _ _ _ c.in_ok-input.input.items c.in_ok-input.ensures.left tested (e.memory m) })

pub returns-in_err-extend_from_slice : goal.returns-in_err-extend_from_slice
returns-in_err-extend_from_slice g c =
    let p = err_from_is_err_and c.from_residual-in_err-extend_from_slice.result c.from_residual-in_err-extend_from_slice.ensures.1 in
    let tested = ap is_full_with_feed (sym c.deref.ensures.value) ∙ sym c.is_full_with_feed.ensures ∙ c.if-is_full_with_feed.true in
    rw (p.1, p.2)
    (record {
      all = tt;
      left = tt;
      errors = λ w. let both : faults.Memory ≡ faults.Write = w in cc;
      memory = λ m. begun_long _ _ _ c.in_ok-input.input.items c.in_ok-input.ensures.left tested (c.in_ok-behind.behind.items, c.in_ok-behind.ensures.left);
    })

pub returns : goal.returns
returns g c = elim c.if-is_full_with_feed.branch [
  | then-is_full_with_feed+in_ok-behind+in_ok-extend_from_slice w ↦
      let tested = ap is_full_with_feed (sym c.deref.ensures.value) ∙ sym c.is_full_with_feed.ensures ∙ w.if-is_full_with_feed.true in
      let first = c.in_ok-input.ensures in
      let more = w.in_ok-behind.ensures in
      rw (w.input-is, w.reader-is)
      (record {
        all =
            rw (w.in_ok-extend_from_slice.ensures.items, w.deref-then-is_full_with_feed.ensures.value)
            (undecided _ _ c.in_ok-input.input.items w.in_ok-behind.behind.items first.all first.left.0 more.all tested);
        left =
            rw (w.in_ok-extend_from_slice.ensures.items, w.deref-then-is_full_with_feed.ensures.value)
            (started_on _ _ _ c.in_ok-input.input.items w.in_ok-behind.behind.items first.left tested more.left);
        errors = tt;
        memory = tt;
      })
  | else-is_full_with_feed w ↦
      let tested = ap is_full_with_feed (sym c.deref.ensures.value) ∙ sym c.is_full_with_feed.ensures ∙ w.if-is_full_with_feed.false in
      let first = c.in_ok-input.ensures in
      rw (w.input-is, w.reader-is)
      (record { all = decided _ c.in_ok-input.input.items first.all tested; left = first.left; errors = tt; memory = tt })
]
