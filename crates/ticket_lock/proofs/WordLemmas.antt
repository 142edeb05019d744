-- The words of the table, read and written. Only this file opens the layout of the words.
use Rattle.std.proofs.Common.{◌≡◌, ◌↔◌, ℕ, suc, ◌+◌, ◌-◌, ◌<◌, ◌≤◌, List, [], ◌∷◌, ◌++◌, length, get_or, set, sym, refl, ap, ◌∙◌, arith}
use Rattle.std.proofs.lemmas.List.{get_or_append_left, get_or-append-add, set-append_left, set-append_right}
use Rattle.ticket_steps.specs.Grants.{watched_word}
use Rattle.ticket_steps.proofs.GrantLemmas.{grants_left, grants_opened}
use Rattle.ticket_lock.specs.Layout.{first_words, grant_word, board_word, next_word}
use Rattle.ticket_lock.specs.Words.{AreWordsOf}

-- as the table is made
pub words_opened : (board : List ℕ) → AreWordsOf 0 0 board (first_words board)
words_opened board = record { grants = 0 ∷ 0 ∷ 0 ∷ 0 ∷ []; words = refl; keep = grants_opened }

grant_word_is : (ticket : ℕ) → grant_word ticket ≡ suc (watched_word ticket)
grant_word_is ticket = omega arith

board_word_is : (place : ℕ) → board_word place ≡ suc (4 + place)
board_word_is place = omega arith

module _ (next served : ℕ) (board ws : List ℕ) (w : AreWordsOf next served board ws) where
  in_four : (ticket : ℕ) → watched_word ticket < length w.grants
  in_four ticket = omega (arith, w.keep.four)

  pub next_found : get_or ws next_word 0 ≡ next
  next_found = ap (λ (q : List ℕ). get_or q next_word 0) w.words

  pub next_raised : (n : ℕ) → AreWordsOf n served board (set ws next_word n)
  next_raised n = record { grants = w.grants; words = ap (λ (q : List ℕ). set q next_word n) w.words; keep = w.keep }

  -- the word that a ticket watches which isn't left yet
  pub watched_found : (ticket : ℕ) → served ≤ ticket → (get_or ws (grant_word ticket) 0 ≡ ticket) ↔ (ticket ≡ served)
  watched_found ticket le =
      let at : get_or ws (grant_word ticket) 0 ≡ get_or w.grants (watched_word ticket) 0 =
      (λ i. get_or (w.words i) (grant_word_is ticket i) 0) ∙ get_or_append_left w.grants board 0 (watched_word ticket) (in_four ticket) in
      let is = w.keep.found ticket le in (λ e. is.0 (sym at ∙ e), λ e. at ∙ is.1 e)

  -- once the next number is served
  pub next_granted : AreWordsOf next (served + 1) board (set ws (grant_word (served + 1)) (served + 1))
  next_granted = record {
    grants = set w.grants (watched_word (served + 1)) (served + 1);
    words =
        (λ i. set (w.words i) (grant_word_is (served + 1) i) (served + 1))
        ∙ ap (λ (q : List ℕ). next ∷ q) (set-append_left w.grants board (watched_word (served + 1)) (served + 1) (in_four (served + 1)));
    keep = grants_left served (watched_word (served + 1)) w.grants w.keep refl;
  }

  -- a word of the board
  pub board_found : (place : ℕ) → get_or ws (board_word place) 0 ≡ get_or board place 0
  board_found place =
      (λ i. get_or (w.words i) (board_word_is place i) 0)
      ∙ (ap (λ (n : ℕ). get_or (w.grants ++ board) (n + place) 0) (sym w.keep.four) ∙ get_or-append-add w.grants board place 0)

  -- once this number is stored there
  pub board_stored : (place n : ℕ) → AreWordsOf next served (set board place n) (set ws (board_word place) n)
  board_stored place n =
      let at : 4 + place - 4 ≡ place = omega arith in record {
        grants = w.grants;
        words =
            (λ i. set (w.words i) (board_word_is place i) n)
            ∙ ap (λ (q : List ℕ). next ∷ q) (set-append_right w.grants board 4 (4 + place) n w.keep.four (omega arith)
            ∙ ap (λ (m : ℕ). w.grants ++ set board m n) at);
        keep = w.keep;
      }
