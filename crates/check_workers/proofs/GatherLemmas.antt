-- Passes that are gathered, and their tallies.
use Rattle.std.proofs.Common.{◌≡◌, ℕ, zero, suc, ◌+◌, ◌<◌, ◌≤◌, ◌^◌, List, [], ◌∷◌, ◌++◌, length, refl, sym, ap, subst, ◌∙◌, append-nil, length-append, arith}
use Rattle.std.specs.Prelude.{flat_map, slice_index_or}
use Rattle.std.specs.List.{All}
use Rattle.std.proofs.lemmas.List.{get_or_append_left}
use Rattle.std.proofs.lemmas.List.Concat.{flat_map-cons}
use Rattle.std.proofs.lemmas.List.Elements.{All-cons, All-nil}
use Rattle.std.proofs.lemmas.List.Sums.{sum_by-cons}
use Rattle.std.proofs.Math.Seq.{get_or-append_seam}
use native.Mathlib.Numerals.{unary_clauses}
use Rattle.ticket_steps.specs.declared.books.Entry.{Entry}
use Rattle.ticket_steps.specs.Sums.{occurrences}
use Rattle.ticket_steps.proofs.SumLemmas.{occurrences-append}
use Rattle.ticket_lock.specs.Callers.{gathered_caller}
use Rattle.ticket_lock.specs.Views.{Follows}
use Rattle.check_sched.specs.declared.call.Call.{Call}
use Rattle.check_sched.specs.declared.call.Reply.{Reply}
use Rattle.check_desk.specs.declared.desk.Desk.{Desk}
use Rattle.check_desk.specs.declared.passes.Pass.{Pass}
use Rattle.check_desk.specs.Desks.{IsPassOf}
use Rattle.check_desk.specs.Passes.{pass_of}
use Rattle.check_workers.specs.declared.tally.Tally.{Tally}
use Rattle.check_workers.specs.Crews.{AreGathered, IsTallied, IsTallyWithin}
use Rattle.check_workers.specs.Tallies.{IsBounded, plus, tally_of}
use Rattle.check_workers.proofs.CallerLemmas.{prefix_trans}

-- ---- bounds of tallies

pub within_few : (calls numbers : ℕ) (t : Tally) → IsTallyWithin calls numbers t → calls < 2 ^ 42 → numbers ≤ 1024 → IsBounded t
within_few calls numbers t w c n = record {
  takes = (let h = w.takes in omega arith);
  taken = (let h = w.taken in omega arith);
  put_off = (let h = w.put_off in omega arith);
  idle = (let h = w.idle in omega arith);
  at_limit = (let h = w.at_limit in omega arith);
  refused = (let h = w.refused in omega arith);
  reports = (let h = w.reports in omega arith);
  reported = (let h = w.reported in omega arith);
  late = (let h = w.late in omega arith);
  unanswered = (let h = w.unanswered in omega arith);
  stops = (let h = w.stops in omega arith);
}

within_plus : (c d n m : ℕ) (t u : Tally) → IsTallyWithin c n t → IsTallyWithin d m u → IsTallyWithin (c + d) (n + m) (plus t u)
within_plus c d n m t u v w = record {
  takes = (let h = v.takes in let k = w.takes in omega arith);
  taken = (let h = v.taken in let k = w.taken in omega arith);
  put_off = (let h = v.put_off in let k = w.put_off in omega arith);
  idle = (let h = v.idle in let k = w.idle in omega arith);
  at_limit = (let h = v.at_limit in let k = w.at_limit in omega arith);
  refused = (let h = v.refused in let k = w.refused in omega arith);
  reports = (let h = v.reports in let k = w.reports in omega arith);
  reported = (let h = v.reported in let k = w.reported in omega arith);
  late = (let h = v.late in let k = w.late in omega arith);
  unanswered = (let h = v.unanswered in let k = w.unanswered in omega arith);
  stops = (let h = v.stops in let k = w.stops in omega arith);
}

-- a pass is gathered into another: its tally is few
pub tallied_few : (desk : Desk) (pass : Pass) (t : Tally) → (pass_of pass).calls < 2 ^ 42 → length (pass_of pass).numbers ≤ 1024 → IsTallied desk pass t
    → IsBounded t
tallied_few desk pass t calls numbers h = within_few (pass_of pass).calls (length (pass_of pass).numbers) t h.1 calls numbers

-- ---- what was seen

pub follows_trans : (ns ms : List ℕ) (xs ys zs : List (Entry Call Reply)) → ((n : ℕ) → 0 < occurrences n ns → 0 < occurrences n ms) → Follows ns xs ys
    → Follows ms ys zs → Follows ns xs zs
follows_trans ns ms xs ys zs among f g = (prefix_trans xs ys zs f.0 g.0, λ n has. g.1 n (among n has) ∙ f.1 n has)

-- ---- lists that are taken apart from the end

pub all_front : {X : Type 0} (P : X → Type 0) (xs ys : List X) → All P (xs ++ ys) → All P xs
all_front P xs ys all k d lt = subst P (get_or_append_left xs ys d k lt) (all k d (let len = length-append xs ys in omega arith))

pub all_last : {X : Type 0} (P : X → Type 0) (xs : List X) (x : X) → All P (xs ++ x ∷ []) → P x
all_last P xs x all = subst P (get_or-append_seam xs x [] x) (all (length xs) x (let len = length-append xs (x ∷ []) in omega arith))

-- the numbers of one pass are among those of all
numbered : (n : ℕ) (worked : List (Pass × Tally)) (k : ℕ) (d : Pass × Tally) → k < length worked → 0 < occurrences n (pass_of (slice_index_or worked k d).0).numbers
    → 0 < occurrences n (flat_map (λ w. (pass_of w.0).numbers) worked)
numbered n [] k d lt has = absurd (omega arith)
numbered n (w ∷ worked) zero d lt has =
    let all = ap (occurrences n) (flat_map-cons (λ w. (pass_of w.0).numbers) w worked)
    ∙ occurrences-append n (pass_of w.0).numbers (flat_map (λ w. (pass_of w.0).numbers) worked) in
    omega arith
numbered n (w ∷ worked) (suc k) d lt has =
    let all = ap (occurrences n) (flat_map-cons (λ w. (pass_of w.0).numbers) w worked)
    ∙ occurrences-append n (pass_of w.0).numbers (flat_map (λ w. (pass_of w.0).numbers) worked) in
    let rest = numbered n worked k d (omega arith) has in
    omega arith

-- ---- gathering

plus_none : (t : Tally) → t ≡ plus t (tally_of [] [])
plus_none t =
    let is : record {
      takes = t.takes;
      taken = t.taken;
      put_off = t.put_off;
      idle = t.idle;
      at_limit = t.at_limit;
      refused = t.refused;
      reports = t.reports;
      reported = t.reported;
      late = t.late;
      unanswered = t.unanswered;
      stops = t.stops;
    }
    ≡ plus t (tally_of [] []) = simp unary_clauses refl in is

-- one pass only
pub gathered_one : (desk : Desk) (pass : Pass) (t : Tally) → IsTallied desk pass t → AreGathered desk ((pass, t) ∷ []) pass t
gathered_one desk pass t h = record {
  tallied = h;
  numbers = sym (append-nil (pass_of pass).numbers);
  calls = (let sum = sum_by-cons {X = Pass × Tally} (λ w. (pass_of w.0).calls) (pass, t) [] in omega arith);
  seen = All-cons (λ w. Follows (pass_of w.0).numbers (pass_of w.0).seen (pass_of pass).seen) (pass, t) [] (([], append-nil (pass_of pass).seen), λ n has. refl)
      (All-nil (λ w. Follows (pass_of w.0).numbers (pass_of w.0).seen (pass_of pass).seen));
  sum = plus_none t;
}

-- one pass more, before those that are gathered
pub gathered_more : (desk : Desk) (worked : List (Pass × Tally)) (other pass result : Pass) (more t : Tally) → IsTallied desk other more
    → AreGathered desk worked pass t
    → IsPassOf desk result → pass_of result ≡ gathered_caller (pass_of other) (pass_of pass)
    → Follows (pass_of other).numbers (pass_of other).seen (pass_of result).seen → Follows (pass_of pass).numbers (pass_of pass).seen (pass_of result).seen
    → AreGathered desk ((other, more) ∷ worked) result (plus more t)
gathered_more desk worked other pass result more t h g is join first rest =
    let numbers : (pass_of result).numbers ≡ (pass_of other).numbers ++ (pass_of pass).numbers = ap (λ c. c.numbers) join in
    let calls : (pass_of result).calls ≡ (pass_of other).calls + (pass_of pass).calls = ap (λ c. c.calls) join in
    let len : length (pass_of result).numbers ≡ length (pass_of other).numbers + length (pass_of pass).numbers = ap length numbers ∙ length-append
    (pass_of other).numbers (pass_of pass).numbers in
    record {
      tallied = (
        is,
        rw (calls, len) (within_plus (pass_of other).calls (pass_of pass).calls (length (pass_of other).numbers)
            (length (pass_of pass).numbers) more t h.1 g.tallied.1),
      );
      numbers = numbers ∙ ap (λ l. (pass_of other).numbers ++ l) g.numbers ∙ sym (flat_map-cons (λ w. (pass_of w.0).numbers) (other, more) worked);
      calls = calls ∙ ap (λ n. (pass_of other).calls + n) g.calls ∙ sym (sum_by-cons (λ w. (pass_of w.0).calls) (other, more) worked);
      seen = All-cons (λ w. Follows (pass_of w.0).numbers (pass_of w.0).seen (pass_of result).seen) (other, more) worked first (λ k d lt.
          follows_trans (pass_of (slice_index_or worked k d).0).numbers (pass_of pass).numbers (pass_of (slice_index_or worked k d).0).seen
          (pass_of pass).seen (pass_of result).seen
          (λ n has. subst (λ l. 0 < occurrences n l) (sym g.numbers) (numbered n worked k d lt has)) (g.seen k d lt) rest);
      sum = ap (λ u. plus more u) g.sum;
    }
