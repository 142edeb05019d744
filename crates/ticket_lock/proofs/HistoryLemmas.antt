-- Histories that were seen, and the one history that continues them.
use Rattle.std.proofs.Common.{◌≡◌, ℕ, suc, ◌<◌, ◌≤◌, List, [], ◌∷◌, ◌++◌, length, sym, refl, ap, ◌∙◌, subst, arith, append_assoc, length-append, Bool, cond}
use Rattle.std.proofs.Common.{drop, lt-ltb, le-ltb}
use Rattle.std.proofs.lemmas.List.{append-nil}
use mathlib.Core.Logic.{dite}
use native.Mathlib.Decide.{dec_le}
use mathlib.Core.List.{IsPrefix}
use Rattle.ticket_steps.specs.declared.books.Entry.{Entry}
use Rattle.ticket_steps.specs.History.{of}
use Rattle.ticket_steps.specs.Sums.{occurrences}
use Rattle.ticket_steps.proofs.EntryLemmas.{of-yes, of-append}
use Rattle.ticket_steps.proofs.SumLemmas.{occurrences-append}
use Rattle.ticket_lock.specs.Views.{Follows, longer}

module _ {C R : Type 0} where
  pub prefix_then : (xs ys zs : List (Entry C R)) → IsPrefix xs ys → IsPrefix xs (ys ++ zs)
  prefix_then xs ys zs h = (h.0 ++ zs, sym (append_assoc xs h.0 zs) ∙ ap (λ (l : List (Entry C R)). l ++ zs) h.1)

  abbrev head_or : Entry C R → List (Entry C R) → Entry C R
  head_or d [] = d
  head_or d (x ∷ xs) = x

  -- of two prefixes of one history the shorter is a prefix of the longer
  pub prefix_of_longer : (xs ys log : List (Entry C R)) → IsPrefix xs log → IsPrefix ys log → length xs ≤ length ys → IsPrefix xs ys
  prefix_of_longer [] ys log a b h = (ys, refl)
  prefix_of_longer (x ∷ xs) [] log a b h = absurd (omega arith)
  prefix_of_longer (x ∷ xs) (y ∷ ys) [] a b h = absurd (omega (arith, ap length a.1))
  prefix_of_longer (x ∷ xs) (y ∷ ys) (z ∷ zs) a b h =
      let t = prefix_of_longer xs ys zs (a.0, ap (drop 1) a.1) (b.0, ap (drop 1) b.1) (omega arith) in
      let same : x ≡ y = ap (head_or x) (a.1 ∙ sym b.1) in
      (t.0, λ i. same i ∷ t.1 i)

  empty_of : (xs : List (Entry C R)) → length xs ≡ 0 → xs ≡ []
  empty_of [] h = refl
  empty_of (x ∷ xs) h = absurd (omega arith)

  -- a history between two that have the same entries of a number has these too
  pub of_between : (p : ℕ) (xs ys log : List (Entry C R)) → IsPrefix xs ys → IsPrefix ys log → of p log ≡ of p xs → of p ys ≡ of p xs
  of_between p xs ys log a b same =
      let one = of-append p xs a.0 in
      let two = of-append p ys b.0 in
      let ys_is : of p ys ≡ of p xs ++ of p a.0 = ap (of p) (sym a.1) ∙ one in
      let log_is : of p log ≡ of p ys ++ of p b.0 = ap (of p) (sym b.1) ∙ two in
      let nothing : of p a.0 ≡ [] = empty_of (of p a.0) (omega
      (arith, ap length ys_is, ap length log_is, ap length same, length-append (of p xs) (of p a.0), length-append (of p ys) (of p b.0))) in
      ys_is ∙ (ap (λ (l : List (Entry C R)). of p xs ++ l) nothing ∙ append-nil (of p xs))

  -- a history that was seen, and a longer one
  pub follows_longer : (numbers : List ℕ) (xs ys log : List (Entry C R)) → Follows numbers xs log → IsPrefix ys log → length xs ≤ length ys
      → Follows numbers xs ys
  follows_longer numbers xs ys log f b h = let a = prefix_of_longer xs ys log f.0 b h in (a, λ p has. of_between p xs ys log a b (f.1 p has))

  pub longer_is : (xs ys : List (Entry C R)) (P : List (Entry C R) → Type 0) → (length xs < length ys → P ys) → (length ys ≤ length xs → P xs)
      → P (longer xs ys)
  longer_is xs ys P f g = dite (dec_le (suc (length xs)) (length ys))
      (λ lt. subst (λ (b : Bool). P (cond b ys xs)) (sym (lt-ltb (length xs) (length ys) lt)) (f lt))
      (λ ge. let le : length ys ≤ length xs = omega arith in subst (λ (b : Bool). P (cond b ys xs)) (sym (le-ltb (length xs) (length ys) le)) (g le))

  pub longer_of : (ms ns : List ℕ) (xs ys log : List (Entry C R)) → Follows ms xs log → Follows ns ys log → Follows (ms ++ ns) (longer xs ys) log
  longer_of ms ns xs ys log f g =
      let pre : IsPrefix (longer xs ys) log = longer_is xs ys (λ (l : List (Entry C R)). IsPrefix l log) (λ _. g.0) (λ _. f.0) in (
        pre,
        λ p has. dite (dec_le (suc 0) (occurrences p ms))
            (λ in_as. f.1 p in_as ∙ sym (of_between p xs (longer xs ys) log
            (longer_is xs ys (λ (l : List (Entry C R)). IsPrefix xs l) (λ lt. prefix_of_longer xs ys log f.0 g.0 (omega arith)) (λ _. ([], append-nil xs)))
            pre (f.1 p in_as)))
            (λ out. let in_bs : 0 < occurrences p ns = omega (arith, has, occurrences-append p ms ns, out) in
            g.1 p in_bs ∙ sym (of_between p ys (longer xs ys) log
            (longer_is xs ys (λ (l : List (Entry C R)). IsPrefix ys l) (λ _. ([], append-nil ys)) (λ le. prefix_of_longer ys xs log g.0 f.0 (omega arith)))
            pre (g.1 p in_bs))),
      )

  nothing_left : (rest : List (Entry C R)) → ((p : ℕ) → of p rest ≡ []) → rest ≡ []
  nothing_left [] h = refl
  nothing_left (e ∷ es) h = absurd (omega (arith, ap length (h e.pass), ap length (of-yes e.pass e es refl)))

  -- a history with all entries of every number is the whole one
  pub all_seen : (seen log : List (Entry C R)) → IsPrefix seen log → ((p : ℕ) → of p log ≡ of p seen) → log ≡ seen
  all_seen seen log pre same =
      let none_of : (p : ℕ) → of p pre.0 ≡ [] = λ p. empty_of (of p pre.0) (omega
      (arith, ap length (same p), ap length (ap (of p) (sym pre.1) ∙ of-append p seen pre.0), length-append (of p seen) (of p pre.0))) in
      sym pre.1 ∙ (ap (λ (l : List (Entry C R)). seen ++ l) (nothing_left pre.0 none_of) ∙ append-nil seen)

  pub empty_before : (p : ℕ) (seen log : List (Entry C R)) → IsPrefix seen log → of p log ≡ [] → of p log ≡ of p seen
  empty_before p seen log pre none_of =
      none_of
      ∙ sym (empty_of (of p seen) (omega (
        arith,
        ap length none_of,
        ap length (ap (of p) (sym pre.1) ∙ of-append p seen pre.0),
        length-append
            (of p seen) (of p pre.0),
      )))

  pub follows_self : (numbers : List ℕ) (log : List (Entry C R)) → Follows numbers log log
  follows_self numbers log = (([], append-nil log), λ p h. refl)

  -- a history that is the whole one
  pub follows_whole : (numbers : List ℕ) (seen log : List (Entry C R)) → seen ≡ log → Follows numbers seen log
  follows_whole numbers seen log is = subst (λ (q : List (Entry C R)). Follows numbers q log) (sym is) (follows_self numbers log)

  pub follows_none : (log : List (Entry C R)) → Follows [] [] log
  follows_none log = ((log, refl), λ p h. absurd (omega arith))

  -- the history continues, with nothing of these numbers
  pub follows_later : (numbers : List ℕ) (seen log log' zs : List (Entry C R)) → Follows numbers seen log → log' ≡ log ++ zs
      → ((p : ℕ) → 0 < occurrences p numbers → of p log' ≡ of p log) → Follows numbers seen log'
  follows_later numbers seen log log' zs f is still =
      (subst (λ (l : List (Entry C R)). IsPrefix seen l) (sym is) (prefix_then seen log zs f.0), λ p has. still p has ∙ f.1 p has)

  -- the same for fewer numbers
  pub follows_fewer : (ms ns : List ℕ) (seen log : List (Entry C R)) → Follows ns seen log
      → ((p : ℕ) → 0 < occurrences p ms → 0 < occurrences p ns) → Follows ms seen log
  follows_fewer ms ns seen log f fewer = (f.0, λ p has. f.1 p (fewer p has))
