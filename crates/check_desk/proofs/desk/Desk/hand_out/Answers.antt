use Rattle.std.proofs.Common.{◌≡◌, ◌<◌, ◌+◌, ◌-◌, ◌∙◌, ap, arith, length, length-append}
use Rattle.ticket_lock.specs.Tokens.{seat_of}
use Rattle.check_desk.specs.Desks.{calls_of, passes_of}
use Rattle.check_desk.specs.Passes.{new_pass_with}
use Rattle.check_desk.proofs.PassLemmas.{last_is, more_is, new_at, new_push, own_is, rest_from, rest_size}
use Rattle.check_desk.proofs.desk.Desk.hand_out.Goals as goal

pub split-own-requires-clause-count : goal.split-own-requires-clause-count
split-own-requires-clause-count c =
    let desk = c.args.self.now in
    let calls = calls_of desk in
    let n = c.loop-number._number in
    let size = rest_size calls n (passes_of desk - n) (seat_of c.loop-number.rest) c.loop-number.invariant.0.rest_is in
    let more : 1 < length (seat_of c.loop-number.rest).numbers = omega (arith, size, desk.passes_are, c.loop-number-test.true) in
    (omega (arith, more, c.count-others.ensures.numbers), omega (arith, more, c.count-others.ensures.numbers))

pub loop-number-preserved : goal.loop-number-preserved
loop-number-preserved c =
    let desk = c.args.self.now in
    let calls = calls_of desk in
    let n = c.loop-number._number in
    let rest = seat_of c.loop-number.rest in
    let was = c.loop-number.invariant.0 in
    let more : 1 < passes_of desk - n = omega (arith, desk.passes_are, c.loop-number-test.true) in
    let own : seat_of c.split-own.result.0 ≡ new_pass_with calls n = rw (c.split-own.ensures.kept, c.count-others.ensures.numbers)
    (own_is calls n (passes_of desk - n) rest more was.rest_is) in
    let left : seat_of c.split-own.result.1 ≡ rest_from calls (n + 1)
    (passes_of desk - n - 1) = rw (c.split-own.ensures.split_part, c.count-others.ensures.numbers)
    (more_is calls n (passes_of desk - n) rest more was.rest_is) in
    let less : passes_of desk - n - 1 ≡ passes_of desk - (n + 1) = omega arith in (
      record {
        count = (let pushed = ap length c.push_reserved.ensures.items ∙ length-append c.loop-number.list.items _ in omega (arith, pushed, was.count));
        new =
            rw c.push_reserved.ensures.items (new_push calls desk 0 c.loop-number.list.items _ was.new c.split-own.ensures.lock.0
            (own ∙ ap (new_pass_with calls) (omega (arith, was.count))));
        rest_is = left ∙ ap (rest_from calls (n + 1)) less;
      },
      c.split-own.ensures.lock.1,
    )

pub returns-clause-new : goal.returns-clause-new
returns-clause-new c =
    let desk = c.args.self.now in
    let calls = calls_of desk in
    let n = c.loop-number._number in
    let was = c.loop-number.invariant.0 in
    let one : passes_of desk - n ≡ 1 = omega (arith, desk.passes_are, c.loop-number-test.false, c.loop-number.auto._number-end, c.requires.nonempty) in
    rw c.push_reserved-2.ensures.items (new_push calls desk 0 c.loop-number.list.items _ was.new c.loop-number.invariant.1
    (last_is calls n (seat_of c.loop-number.rest) (was.rest_is ∙ ap (rest_from calls n) one) ∙ ap (new_pass_with calls) (omega (arith, was.count))))

pub returns-clause-own : goal.returns-clause-own
returns-clause-own c = λ k d lt. new_at (calls_of c.args.self.now) c.args.self.now 0 _ k d (returns-clause-new c) lt
