-- How long the text of a tree is at most: its tokens, with a comma for each.
use Rattle.std.proofs.Common.{◌≡◌, ℕ, ◌+◌, ◌*◌, ◌^◌, ◌<◌, ◌≤◌, ◌&&◌, ◌/◌, ◌%◌, Bool, true, false, cond, List, [], ◌∷◌, length, ap, arith, length-append}
use Rattle.std.specs.Prelude.{decimal, nat_lt}
use Rattle.std.specs.Char.{digit_char}
use Rattle.std.proofs.lemmas.Fmt.{length-decimal-le}
use Rattle.json.specs.Print.{begins, ends, escape, escape_byte, escape_letter, print_from, quoted}
use Rattle.json.specs.Token.{Token}
use Rattle.json.specs.Tree.{room}
use Rattle.serde_json.specs.Data.{Data}
use Rattle.serde_json.specs.Written.{compact_text}
use Rattle.serde_json.proofs.Texts.{print-outline}
use Rattle.check_saved_state.specs.Tree.{tokens_of}

comma_length : (b : Bool) → length {A = ℕ} (cond b (44 ∷ []) []) ≤ 1
comma_length true = omega arith
comma_length false = omega arith

print_length : (after_value : Bool) (ts : List Token) → length (print_from after_value ts) ≤ room ts
unfolding print_from
print_length after_value [] = omega arith
print_length after_value (t ∷ ts) =
    let a = comma_length (after_value && begins t) in
    let b = print_length (ends t) ts in
    simp length-append (omega (arith, a, b))

pub text_length : (d : Data) → length (compact_text d) ≤ room (tokens_of d)
text_length d = omega (arith, ap length (print-outline d), print_length false (tokens_of d))

-- ---- a string's escapes: at most six bytes for each

choice_length : (a b : Bool) (l c d x : ℕ) → length (cond a (92 ∷ l ∷ []) (cond b (92 ∷ 117 ∷ 48 ∷ 48 ∷ c ∷ d ∷ []) (x ∷ []))) ≤ 6
choice_length true b l c d x = omega arith
choice_length false true l c d x = omega arith
choice_length false false l c d x = omega arith

escape_length : (s : List ℕ) → length (escape s) ≤ 6 * length s
unfolding escape_byte
escape_length [] = omega arith
escape_length (x ∷ xs) =
    let a = choice_length (nat_lt 0 (escape_letter x)) (nat_lt x 32) (escape_letter x) (digit_char (x / 16)) (digit_char (x % 16)) x in
    let b = escape_length xs in
    simp length-append (omega (arith, a, b))

pub quoted_length : (s : List ℕ) → length (quoted s) ≤ 2 + 6 * length s
quoted_length s = let a = escape_length s in simp length-append (omega (arith, a))

-- ---- numbers of 64 bits

pub number_length : (n : ℕ) → n < 2 ^ 64 → length (decimal n) ≤ 20
number_length n h = length-decimal-le 20 n (omega arith) (omega arith) h
