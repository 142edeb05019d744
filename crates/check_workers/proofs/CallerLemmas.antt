-- What a caller has made, call by call.
use Rattle.std.proofs.Common.{◌≡◌, ℕ, ◌+◌, ◌-◌, List, [], ◌∷◌, ◌++◌, length, refl, sym, ap, subst, ◌∙◌, append_assoc, append-nil, length-append, arith}
use mathlib.Core.List.{IsPrefix}
use Rattle.ticket_steps.specs.declared.books.Entry.{Entry}
use Rattle.ticket_steps.specs.History.{entry, of}
use Rattle.ticket_steps.proofs.EntryLemmas.{of-append}
use Rattle.ticket_lock.specs.Callers.{Caller}
use Rattle.check_sched.specs.declared.call.Call.{Call}
use Rattle.check_sched.specs.declared.call.Reply.{Reply}
use Rattle.check_desk.specs.Desks.{HasRecorded}
use Rattle.check_workers.specs.Shifts.{HasMadeCalls}

-- ---- beginnings of histories

pub prefix_trans : {A : Type 0} (xs ys zs : List A) → IsPrefix xs ys → IsPrefix ys zs → IsPrefix xs zs
prefix_trans xs ys zs (us, p) (vs, q) = (us ++ vs, sym (append_assoc xs us vs) ∙ ap (λ l. l ++ vs) p ∙ q)

-- ---- a caller that has made nothing, one call, one call after another

pub made_none : (c : Caller Call Reply) → HasMadeCalls [] 0 c c
made_none c = record {
  own = refl;
  numbers = refl;
  seen = ([], append-nil c.seen);
  new = (λ p has. sym (append-nil (of p c.seen)));
  calls = omega arith;
  left = omega arith;
}

pub made_then : (es fs : List (Entry Call Reply)) (m n : ℕ) (a b c : Caller Call Reply) → HasMadeCalls es m a b → HasMadeCalls fs n b c → HasMadeCalls (es ++ fs) (m + n) a c
made_then es fs m n a b c f g = record {
  own = g.own ∙ f.own;
  numbers = g.numbers ∙ f.numbers;
  seen = prefix_trans a.seen b.seen c.seen f.seen g.seen;
  new = (λ p has.
      g.new p (rw f.numbers has) ∙ ap (λ l. l ++ of p fs) (f.new p has) ∙ append_assoc (of p a.seen) (of p es) (of p fs)
      ∙ ap (λ l. of p a.seen ++ l) (sym (of-append p es fs)));
  calls = (let fc = f.calls in let gc = g.calls in let len = length-append es fs in omega arith);
  left = (let fl = f.left in let gl = g.left in let len = length-append es fs in omega arith);
}

-- a call with a reply
pub made_reply : (call : Call) (reply : Reply) (before after : Caller Call Reply) → HasRecorded call reply before after
    → HasMadeCalls (entry before.own call reply ∷ []) 0 before after
made_reply call reply before after h =
    let e = entry before.own call reply in
    subst (λ c. HasMadeCalls (e ∷ []) 0 before c) (sym h.after_is) (record {
      own = refl;
      numbers = refl;
      seen = prefix_trans before.seen h.history (h.history ++ e ∷ []) h.follows.0 (e ∷ [], refl);
      new = (λ p has. of-append p h.history (e ∷ []) ∙ ap (λ l. l ++ of p (e ∷ [])) (h.follows.1 p has));
      calls = (let s : before.calls + 1 ≡ before.calls + length (e ∷ []) + 0 = omega arith in s);
      left = (let some = h.has_left in let s : before.left ≡ (before.left - 1) + length (e ∷ []) + 0 = omega arith in s);
    })
