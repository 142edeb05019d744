-- Bytes that are UTF-8 or not, bytes without the white space at their end, and line feeds that are passed.
use Rattle.std.proofs.Common.{◌≡◌, ℕ, suc, ◌+◌, ◌-◌, ◌<◌, ◌==◌, Bool, true, false, List, Some, None, refl, ap, sym, ◌∙◌, arith}
use Rattle.std.specs.Prelude.{IsUtf8}
use Rattle.std.specs.List.{position}
use Rattle.std.specs.Str.{is_utf8, IsTrimAsciiEnd}
use Rattle.std.proofs.lemmas.Str.{IsUtf8-from_is_utf8, is_utf8-from_IsUtf8}
use Rattle.std.proofs.lemmas.Str.Ascii.{trim_ascii_end_is}
use Rattle.setup_diagnostics.specs.JsonFaults.{after_feeds, after_index, text_in, trimmed}

pub is_text : (bytes : List ℕ) → IsUtf8 bytes → true ≡ is_utf8 bytes
is_text bytes u = sym (is_utf8-from_IsUtf8 bytes u)

no_text_by : (b : Bool) → (b ≡ true → ⊥) → false ≡ b
no_text_by true h = absurd (h refl)
no_text_by false h = refl

pub is_no_text : (bytes : List ℕ) → (IsUtf8 bytes → ⊥) → false ≡ is_utf8 bytes
is_no_text bytes h = no_text_by (is_utf8 bytes) (λ e. h (IsUtf8-from_is_utf8 bytes e))

pub some_text : (bytes text : List ℕ) → text ≡ bytes → IsUtf8 bytes → Some text ≡ text_in bytes
some_text bytes text same u = rw (is_utf8-from_IsUtf8 bytes u) (ap Some same)

pub no_text : (bytes : List ℕ) → (IsUtf8 bytes → ⊥) → None ≡ text_in bytes
no_text bytes h = rw (sym (is_no_text bytes h)) refl

pub trimmed_is : (bytes rest : List ℕ) → IsTrimAsciiEnd bytes rest → rest ≡ trimmed bytes
trimmed_is bytes rest h = trim_ascii_end_is bytes rest h

pub feeds_next : (n p : ℕ) (bytes rest : List ℕ) → p < n → rest ≡ after_index (position (λ b. b == 10) bytes) bytes
    → after_feeds (n - p) bytes ≡ after_feeds (n - (p + 1)) rest
feeds_next n p bytes rest h e =
    let one : n - p ≡ suc (n - (p + 1)) = omega (arith, h) in
    ap (λ k. after_feeds k bytes) one ∙ ap (after_feeds (n - (p + 1))) (sym e)
