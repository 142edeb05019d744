-- A text that is cut, character by character.
use Rattle.std.proofs.Common.{◌≡◌, ℕ, zero, suc, true, false, cond, List, [], ◌∷◌, ◌++◌, length, take, refl, sym, ap, ◌∙◌, arith, append_assoc, append-nil}
use Rattle.std.specs.Prelude.{nat_lt, flat_map, codes, IsUtf8}
use Rattle.std.specs.Char.{encode_utf8}
use Rattle.std.specs.Str.{chars}
use Rattle.std.proofs.lemmas.Bool.Decides.{nat_tests}
use Rattle.std.proofs.lemmas.Str.{chars-nil, chars_past_char}
use Rattle.setup_diagnostics.specs.Excerpts.{excerpt_to, escape}

longer : (n k : ℕ) → nat_lt (suc n) (suc k) ≡ nat_lt n k
longer n k = grind (arith, nat_tests)

-- one character more of those that are shown
one_more : (n c : ℕ) (cs : List ℕ) → excerpt_to (suc n) (c ∷ cs) ≡ escape c ++ excerpt_to n cs
one_more n c cs =
    ap (λ b. (escape c ++ flat_map escape (take n cs)) ++ cond b (codes "...") []) (longer n (length cs))
    ∙ append_assoc (escape c) (flat_map escape (take n cs)) (cond (nat_lt n (length cs)) (codes "...") [])

never : (n : ℕ) → nat_lt n 0 ≡ false
never n = grind (arith, nat_tests)

always : (k : ℕ) → nat_lt 0 (suc k) ≡ true
always k = grind (arith, nat_tests)

none_left : (n : ℕ) → excerpt_to n [] ≡ []
none_left zero = ap (λ b. cond b (codes "...") []) (never zero)
none_left (suc n) = ap (λ b. cond b (codes "...") []) (never (suc n))

none_more : (c : ℕ) (cs : List ℕ) → excerpt_to 0 (c ∷ cs) ≡ codes "..."
none_more c cs = ap (λ b. cond b (codes "...") []) (always (length cs))

-- what is still to be shown, after one character of it was appended
pub cut_next : (n m c : ℕ) (rest left self new whole : List ℕ) → IsUtf8 rest → rest ≡ encode_utf8 c ++ left → n ≡ suc m → new ≡ self ++ escape c
    → self ++ excerpt_to n (chars rest) ≡ whole → new ++ excerpt_to m (chars left) ≡ whole
cut_next n m c rest left self new whole utf8 begins count pushed is =
    let next : chars rest ≡ c ∷ chars left = chars_past_char rest left c utf8 begins in
    ap (λ l. l ++ excerpt_to m (chars left)) pushed
    ∙ (append_assoc self (escape c) (excerpt_to m (chars left))
    ∙ (ap (λ l. self ++ l) (sym (one_more m c (chars left)))
    ∙ ((λ i. self ++ excerpt_to (sym count i) (sym next i)) ∙ is)))

empty : (rest : List ℕ) → length rest ≡ 0 → rest ≡ []
empty [] e = refl
empty (x ∷ xs) e = absurd (omega (arith, e))

-- where no character is left, nothing is
pub cut_ended : (n : ℕ) (rest self whole : List ℕ) → length rest ≡ 0 → self ++ excerpt_to n (chars rest) ≡ whole → self ≡ whole
cut_ended n rest self whole none is =
    sym (append-nil self)
    ∙ (ap (λ l. self ++ l) (sym (ap (λ r. excerpt_to n (chars r)) (empty rest none) ∙ (ap (excerpt_to n) chars-nil ∙ none_left n))) ∙ is)

-- where no more is to be shown and a character is left, dots are
pub cut_off : (n c : ℕ) (rest left self new whole : List ℕ) → IsUtf8 rest → rest ≡ encode_utf8 c ++ left → n ≡ 0 → new ≡ self ++ codes "..."
    → self ++ excerpt_to n (chars rest) ≡ whole → new ≡ whole
cut_off n c rest left self new whole utf8 begins count pushed is =
    let next : chars rest ≡ c ∷ chars left = chars_past_char rest left c utf8 begins in
    pushed ∙ (ap (λ l. self ++ l) (sym (none_more c (chars left))) ∙ ((λ i. self ++ excerpt_to (sym count i) (sym next i)) ∙ is))
