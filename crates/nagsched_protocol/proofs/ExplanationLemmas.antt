-- The tokens of a line, and the sentence that they give.
use Rattle.std.proofs.Common.{◌≡◌, ℕ, suc, ◌+◌, ◌-◌, ◌<◌, Bool, true, false, List, [], ◌++◌, Option, Some, None, Result, Ok, Err, refl, ap, sym, ◌∙◌, arith}
use Rattle.std.specs.Prelude.{IsUtf8, MatchResult, OnErr, codes, unwrap_or}
use Rattle.std.specs.Str.{is_utf8}
use Rattle.std.proofs.lemmas.Str.{IsUtf8-from_is_utf8, is_utf8-from_IsUtf8}
use Rattle.json.specs.Lex.{lex, punctuate, tokens}
use Rattle.json.specs.Json.{max_depth, skip_value}
use Rattle.json.specs.Token.{Token}
use Rattle.nagsched_protocol.specs.Explanation.{are_value, item_at, last_good, line_tokens, not_json_text, place_text, stop_text, stops}

-- a line that is UTF-8
pub all_tokens : (line text : List ℕ) → text ≡ line → IsUtf8 line → tokens text ≡ line_tokens line
all_tokens line text same u = rw (is_utf8-from_IsUtf8 line u) (ap tokens same)

not_utf8_by : (b : Bool) → (b ≡ true → ⊥) → b ≡ false
not_utf8_by true h = absurd (h refl)
not_utf8_by false h = refl

pub not_utf8 : (line : List ℕ) → (IsUtf8 line → ⊥) → is_utf8 line ≡ false
not_utf8 line h = not_utf8_by (is_utf8 line) (λ e. h (IsUtf8-from_is_utf8 line e))

-- a line that isn't
pub no_tokens : (line : List ℕ) → (IsUtf8 line → ⊥) → tokens [] ≡ line_tokens line
unfolding lex punctuate
no_tokens line h = rw (not_utf8 line h) refl

-- ---- items that are passed

pub passed_item : {E : Type 0} (r : Result (Unit {0}) E) (ts us : List Token) → MatchResult r (λ u. skip_value max_depth ts ≡ Some us) (λ e. skip_value max_depth ts ≡ None)
    → OnErr r (us ≡ []) → unwrap_or (skip_value max_depth ts) [] ≡ us
passed_item (Ok u) ts us is none = rw is refl
passed_item (Err e) ts us is none = rw (is, none) refl

pub item_next : (n p : ℕ) (ts us : List Token) → p < n → unwrap_or (skip_value max_depth ts) [] ≡ us → item_at (n - p) ts ≡ item_at (n - (p + 1)) us
item_next n p ts us h e =
    let one : n - p ≡ suc (n - (p + 1)) = omega (arith, h) in
    ap (λ k. item_at k ts) one ∙ ap (item_at (n - (p + 1))) e

-- ---- a line that isn't JSON

pub stop_stopped : (ts : List Token) → stops ts ≡ true → stop_text ts ≡ codes "reading stopped " ++ place_text (last_good None ts)
stop_stopped ts e = rw e refl

pub stop_value : (ts : List Token) → stops ts ≡ false → are_value ts ≡ true → stop_text ts ≡ codes "a number in it is out of range"
stop_value ts e f = rw (e, f) refl

pub stop_end : (ts : List Token) → stops ts ≡ false → are_value ts ≡ false
    → stop_text ts ≡ codes "it ends " ++ (place_text (last_good None ts) ++ codes ", but isn't one whole value of at most 127 levels")
stop_end ts e f = rw (e, f) refl

pub other_text : (line : List ℕ) → (IsUtf8 line → ⊥) → not_json_text line ≡ codes ": it isn't UTF-8"
other_text line h = rw (not_utf8 line h) refl

pub utf8_text : (line : List ℕ) → IsUtf8 line → not_json_text line ≡ codes ": it isn't JSON; " ++ stop_text (tokens line)
utf8_text line u = rw (is_utf8-from_IsUtf8 line u) refl
