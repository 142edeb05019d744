use Rattle.std.proofs.Common.{◌≡◌, ◌<◌, IfSome, arith, subst}
use Rattle.ticket_lock.specs.Tokens.{start_of, words_of}
use Rattle.check_desk.specs.Desks.{objects_of}
use Rattle.check_desk.proofs.BoardLemmas.{words_opened}
use Rattle.check_desk.proofs.desk.Desk.leave.Goals as goal

pub post-hold-requires-clause-place : goal.post-hold-requires-clause-place
post-hold-requires-clause-place c =
    let desk = c.args.self.now in
    let less : c.in-Some.place < objects_of desk = subst (λ place. IfSome place (λ at. at < objects_of desk)) c.in-Some.is c.requires.place in
    let long : words_of desk.lock ≡ objects_of desk = words_opened (start_of desk.lock).book in
    omega (arith, less, long)
