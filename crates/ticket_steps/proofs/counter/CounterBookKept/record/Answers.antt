use Rattle.std.proofs.Common.{rules, arith, ◌≡◌, refl, ◌+◌, ◌%◌, ◌^◌, ◌∷◌, ◌++◌, [], sym, ap, subst}
use Rattle.ticket_steps.specs.Counting.{counter_step}
use Rattle.ticket_steps.specs.History.{entry, IsLegal}
use Rattle.ticket_steps.proofs.Histories.{replay-last, legal-last}
use Rattle.ticket_steps.proofs.counter.CounterBookKept.record.Goals as goal

pub invariant_of-self-2 : goal.invariant_of-self-2
invariant_of-self-2 c =
    let b = c.args.self.now in
    let e = entry c.args.pass c.args.call ((b.sum + c.args.call) % 2 ^ 64) in
    let items : c.push.new.self.items ≡ b.entries.items ++ e ∷ [] = search rules in
    record {
      reserved = omega (arith, c.push.ensures.capacity, b.reserved);
      legal = subst (IsLegal counter_step 0) (sym items) (legal-last counter_step 0 b.entries.items e b.legal (ap (λ s. (s + c.args.call) % 2 ^ 64) b.summed));
      summed = rw items (rw replay-last (ap (λ s. (s + c.args.call) % 2 ^ 64) b.summed));
    }

pub returns-clause-replied : goal.returns-clause-replied
returns-clause-replied c =
    let b = c.args.self.now in
    let e = entry c.args.pass c.args.call ((b.sum + c.args.call) % 2 ^ 64) in
    let items : c.push.new.self.items ≡ b.entries.items ++ e ∷ [] = search rules in
    (items, refl)

-- where there is a reply nothing was refused: said by name, so that a body that refuses here is refused at once
pub returns-clause-refused : goal.returns-clause-refused
returns-clause-refused c = tt
