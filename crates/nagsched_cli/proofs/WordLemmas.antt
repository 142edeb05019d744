-- The texts of some of the arguments.
use Rattle.std.proofs.Common.{◌≡◌, ℕ, ◌-◌, ◌≤◌, List, [], length, take, drop, sym, ap, ◌∙◌, arith}
use Rattle.std.specs.Borrow.{Bor}
use Rattle.std.specs.List.{list_any}
use Rattle.std.specs.Str.{bytes_eq}
use Rattle.std.proofs.Math.ListN.{drop_of_length-le}
use Rattle.std.proofs.lemmas.List.{drop-map, take-map, take_all, length-drop, length-map}
use Rattle.clap.proofs.WalkLemmas.{list_any-map}
use Rattle.clap.specs.Walk.{texts}
use Rattle.clap.specs.Words.{Text}
use Rattle.nagsched_cli.specs.ArgumentFaults.{name_part}

pub words_dropped : (words : List (Bor Text)) (place : ℕ) → texts (take (length words - place) (drop place words)) ≡ drop place (texts words)
words_dropped words place =
    let all : length (drop place words) ≤ length words - place = rw length-drop (omega arith) in
    ap texts (take_all (length words - place) (drop place words) all) ∙ sym (drop-map (λ (w : Bor Text). w.now) place words)

pub words_taken : (words : List (Bor Text)) (place : ℕ) → texts (take place words) ≡ take place (texts words)
words_taken words place = sym (take-map (λ (w : Bor Text). w.now) place words)

short : (words : List (Bor Text)) (place : ℕ) → length words ≤ place → length (texts words) ≤ place
short words place h = rw length-map h

pub no_words_left : (words : List (Bor Text)) (place : ℕ) → length words ≤ place → [] ≡ drop place (texts words)
no_words_left words place h = sym (drop_of_length-le (texts words) (short words place h))

pub all_words_taken : (words : List (Bor Text)) (place : ℕ) → length words ≤ place → texts words ≡ take place (texts words)
all_words_taken words place h = sym (take_all place (texts words) (short words place h))

pub any_word : (name : Text) (words : List (Bor Text))
    → list_any (λ (w : Bor Text). bytes_eq (name_part w.now) name) words ≡ list_any (λ w. bytes_eq (name_part w) name) (texts words)
any_word name words = list_any-map (λ w. bytes_eq (name_part w) name) (λ (w : Bor Text). w.now) words

pub any_name : (name : Text) (names : List (Bor Text)) → list_any (λ (n : Bor Text). bytes_eq n.now name) names ≡ list_any (λ n. bytes_eq n name) (texts names)
any_name name names = list_any-map (λ n. bytes_eq n name) (λ (n : Bor Text). n.now) names
