use Rattle.std.proofs.Common.{◌≡◌, ap, subst, ◌∙◌, arith}
use Rattle.ticket_steps.specs.History.{IsLegal}
use Rattle.check_sched.specs.State.{opening}
use Rattle.check_book.proofs.PublicLaws.{book_is_legal, joined_setup}
use Rattle.check_book.specs.Books.{entries_of, opening_of, refused_of}
use Rattle.check_book.specs.BookState.{BookState, book_opening, book_step}
use Rattle.check_desk.specs.Desks.{desk_opening}
use Rattle.check_workers.specs.Crews.{AreShiftsOf}
use Rattle.nagsched_jobs.specs.Drill.{returns_scripted}
use Rattle.nagsched_protocol.specs.DrillScripted.{drill_script}
use Rattle.nagsched_jobs.proofs.DrillLaws.{drill_is}
use Rattle.nagsched_jobs.proofs.drill.work_all.Goals as goal

pub returns-in-Ok-clause-drill : goal.returns-in-Ok-clause-drill
returns-in-Ok-clause-drill g c =
    let script = drill_script c.args.script in
    let allows = returns_scripted script.returns in
    let desk = c.in_ok-desk.desk in
    let passes = c.in_ok-desk.passes.items in
    let history = entries_of c.in-Ok.book in
    let x = c.in-Ok.ensures.shifts in
    let opened : desk_opening desk ≡ book_opening c.args.script.setup c.args.start c.args.room =
    c.in_ok-desk.ensures.opening in
    let room : (desk_opening desk).room ≡ c.args.room = ap (λ s. s.room) opened in
    let are : AreShiftsOf allows script.moments c.args.room history passes x.0 =
    subst (λ m. AreShiftsOf allows m c.args.room history passes x.0) c.deref.ensures.value
    (subst (λ r. AreShiftsOf allows c.deref.result.now r history passes x.0) room x.1) in
    let whole : opening_of c.in-Ok.book ≡ book_opening c.args.script.setup c.args.start c.args.room = c.in-Ok.ensures.opening ∙ opened in
    let legal = book_is_legal (opening c.args.script.setup c.args.start) c.args.room history
    (subst (λ s. IsLegal book_step s history) whole c.in-Ok.ensures.lawful.legal) in
    drill_is script c.args.start c.args.workers c.args.room history (refused_of c.in-Ok.book) desk passes x.0 c.in-Ok._tally c.requires.bounded
    c.in_ok-desk.ensures.list c.in_ok-desk.ensures.new are x.2
    (λ number from. c.in-Ok.ensures.numbers number (let same = c.in_ok-desk.ensures.passes in omega (arith, same, from))) c.in-Ok.ensures.calls legal

pub returns-in-Ok-clause-setup : goal.returns-in-Ok-clause-setup
returns-in-Ok-clause-setup g c =
    let book = c.in-Ok.book in
    let whole : opening_of book ≡ book_opening c.args.script.setup c.args.start c.args.room =
    c.in-Ok.ensures.opening ∙ c.in_ok-desk.ensures.opening in
    ap (λ (s : BookState). s.sched.setup) c.in-Ok.ensures.lawful.replayed
    ∙ joined_setup (opening_of book) (entries_of book)
    ∙ ap (λ (s : BookState). s.sched.setup) whole
