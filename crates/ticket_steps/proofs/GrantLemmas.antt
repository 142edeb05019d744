-- How the grant words keep the number served.
use Rattle.std.proofs.Common.{◌≡◌, ℕ, zero, suc, ◌+◌, ◌<◌, List, [], ◌∷◌, length, length-set, get_or, get_or-set_other, set, sym, refl, ap, ◌∙◌, subst, arith}
use Rattle.std.proofs.lemmas.Grind.{get_or-set_at}
use Rattle.std.proofs.lemmas.List.Recursion.{max_bounds, max_least}
use mathlib.Core.Logic.{dite}
use native.Mathlib.Decide.{ℕ_discrete}
use Rattle.ticket_steps.specs.Grants.{AreGrantsOf, IsLastGrant, greatest, watched_word}

-- where each word is the last grant that it can be, all else follows
grants_are : (served : ℕ) (words : List ℕ) → length words ≡ 4
    → ((place : ℕ) → place < 4 → IsLastGrant served place (get_or words place 0)) → AreGrantsOf served words
grants_are served words four each = record {
  four = four;
  greatest_is =
      let top = max_bounds greatest (λ (n : ℕ). n) refl (λ n ns. refl) words (watched_word served) 0 (omega (arith, four)) in
      let least = max_least greatest (λ (n : ℕ). n) refl (λ n ns. refl) words 0 served (λ i lt. (each i (omega (arith, four))).within) in
      let here = (each (watched_word served) (omega arith)).last served (omega arith) refl in
      omega (arith, top, least, here);
  found = λ ticket le.
      let here = each (watched_word ticket) (omega arith) in
      (λ e. omega (arith, here.within, e, le), λ e. omega (arith, here.within, e, here.last ticket (omega (arith, e)) refl));
  each = each;
}

abbrev nothing : List ℕ
nothing = 0 ∷ 0 ∷ 0 ∷ 0 ∷ []

none_granted : (place : ℕ) → get_or {A = ℕ} nothing place 0 ≡ zero
none_granted zero = refl
none_granted (suc zero) = refl
none_granted (suc (suc zero)) = refl
none_granted (suc (suc (suc zero))) = refl
none_granted (suc (suc (suc (suc place)))) = refl

-- at the opening ticket 0 is served
pub grants_opened : AreGrantsOf 0 (0 ∷ 0 ∷ 0 ∷ 0 ∷ [])
grants_opened = grants_are 0 (0 ∷ 0 ∷ 0 ∷ 0 ∷ []) refl
    (λ place lt. subst (IsLastGrant 0 place) (sym (none_granted place)) record {
      within = omega arith;
      own = λ more. absurd (omega arith);
      last = λ ticket le _. le;
    })

-- a leave writes the next ticket into the word that this one watches
pub grants_left : (served place : ℕ) (words : List ℕ) → AreGrantsOf served words → place ≡ watched_word (served + 1)
    → AreGrantsOf (served + 1) (set words place (served + 1))
grants_left served place words before is =
    grants_are (served + 1) (set words place (served + 1)) (length-set words place (served + 1) ∙ before.four)
    (λ at lt. dite (ℕ_discrete at place)
    (λ here. subst (IsLastGrant (served + 1) at) (sym (get_or-set_at words place at (served + 1) 0 here (omega (arith, before.four, is))))
    record { within = omega arith; own = λ _. sym (here ∙ is); last = λ ticket le _. le })
    (λ other. let old = before.each at lt in
    subst (IsLastGrant (served + 1) at) (sym (get_or-set_other words place at (served + 1) 0 other)) record {
      within = omega (arith, old.within);
      own = old.own;
      last = λ ticket le watches. old.last ticket (dite (ℕ_discrete ticket (served + 1))
          (λ next. absurd (other (sym watches ∙ (ap watched_word next ∙ sym is)))) (λ earlier. omega (arith, le, earlier))) watches;
    }))
