-- The grant words: the number served, stored in four words, so that the waiting seats needn't all look at one word.
use Rattle.std.specs.Prelude.{◌≡◌, ◌↔◌, ℕ, ◌%◌, ◌<◌, ◌≤◌, List, [], ◌∷◌, length, max, slice_index}

-- the place of the grant word that a ticket watches
abbrev pub watched_word : ℕ → ℕ
watched_word ticket = ticket % 4

-- the greatest of these numbers
abbrev pub greatest : List ℕ → ℕ
greatest [] = 0
greatest (n ∷ ns) = max n (greatest ns)

-- the word at this place when this number is served: the last ticket served among those that watch the word, or 0 if none was
pub record IsLastGrant (served place word : ℕ) : Type 0 where
  pub within : word ≤ served
  pub own : 0 < word → watched_word word ≡ place
  pub last : (ticket : ℕ) → ticket ≤ served → watched_word ticket ≡ place → ticket ≤ word

-- these are the grant words when this number is served
pub record AreGrantsOf (served : ℕ) (words : List ℕ) : Type 0 where
  pub four : length words ≡ 4
  -- the greatest of them is the number served
  pub greatest_is : greatest words ≡ served
  -- for a ticket that isn't left yet: the word that it watches equals the ticket exactly if the ticket is served
  pub found : (ticket : ℕ) → served ≤ ticket → (slice_index words (watched_word ticket) ≡ ticket) ↔ (ticket ≡ served)
  pub each : (place : ℕ) → place < 4 → IsLastGrant served place (slice_index words place)
