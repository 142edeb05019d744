-- The layout of the table: the place of each of its words, and the list of them all. Only this file defines it.
use Rattle.std.specs.Prelude.{ℕ, ◌+◌, List, [], ◌∷◌, ◌++◌}
use Rattle.ticket_steps.specs.Grants.{watched_word}

-- the place of the next ticket
abbrev pub next_word : ℕ
next_word = 0

-- the place of the grant word that a ticket watches; the seat that waits with the ticket reads it, and the holder before it writes it
abbrev pub grant_word : ℕ → ℕ
grant_word ticket = watched_word ticket + 1

-- the place of a word of the board
abbrev pub board_word : ℕ → ℕ
board_word place = place + 5

-- the words of the table: the next ticket, the grant words, and the board
abbrev pub table_words : ℕ → List ℕ → List ℕ → List ℕ
table_words next grants board = next ∷ (grants ++ board)

-- the number of these words, if the board has this many
abbrev pub word_count : ℕ → ℕ
word_count words = words + 5

-- the words of a new table: no ticket is drawn, ticket 0 is served, and this is the board
abbrev pub first_words : List ℕ → List ℕ
first_words board = table_words 0 (0 ∷ 0 ∷ 0 ∷ 0 ∷ []) board
