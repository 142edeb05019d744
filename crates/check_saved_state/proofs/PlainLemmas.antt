-- The compact text of a tree is read as the tree, where its numbers are whole ones of 64 bits, its strings are UTF-8, its keys are ASCII and its
-- members stand in the order of their keys.
use Rattle.std.proofs.Common.{◌≡◌, ℕ, suc, ◌^◌, ◌<◌, ◌≤◌, ◌++◌, ◌&&◌, Bool, true, false, List, [], ◌∷◌, Option, Some, option_map, option_and_then, IsUtf8}
use Rattle.std.proofs.Common.{refl, sym, ap, ◌∙◌, arith, append-nil}
use Rattle.std.specs.Prelude.{decimal}
use Rattle.std.proofs.lemmas.Bool.{and_parts}
use Rattle.std.proofs.lemmas.Fmt.{IsAscii-decimal}
use Rattle.std.proofs.lemmas.Str.{IsUtf8-append, IsUtf8-from_ascii, IsUtf8-nil}
use Rattle.json.specs.Json as json
use Rattle.json.specs.Lex.{tokens}
use Rattle.json.specs.Print.{ArePrintable}
use Rattle.json.specs.Token.{Token}
use Rattle.json.specs.Tree as tree
use Rattle.json.proofs.Printed.Decimals.{IsNumber-decimal}
use Rattle.json.proofs.Printed.Tokens.{tokens-print}
use Rattle.json.proofs.Printed.Trees.{ArePrintable-json_tokens, value-json_tokens}
use Rattle.json.proofs.Printed.Utf8.{IsUtf8-are_ascii, IsUtf8-boolean, IsUtf8-quoted, are_ascii}
use Rattle.serde_json.specs.Data.{unsigned, negative, float, Data, null, boolean, number, string, array, object, Items, no_items, item, Members, no_members}
use Rattle.serde_json.specs.Data.{member, put}
use Rattle.serde_json.specs.Read.{read, max_depth, of_json, of_items, of_members}
use Rattle.serde_json.specs.Written.{comma_if, compact_text, items_outline, items_text, members_outline, members_text, outline}
use Rattle.serde_json.proofs.Numbers.{number_of-decimal}
use Rattle.serde_json.proofs.Texts.{print-outline}

-- the members put one after another
abbrev pub rebuilt : Members → Members → Members
rebuilt no_members found = found
rebuilt (member k d ms) found = rebuilt ms (put k d found)

abbrev have_ascii_keys : Members → Bool
have_ascii_keys no_members = true
have_ascii_keys (member k d ms) = are_ascii k && have_ascii_keys ms

abbrev mutual
  pub IsPlain : Data → Type 0
  IsPlain null = Unit {0}
  IsPlain (boolean b) = Unit {0}
  IsPlain (number (unsigned n)) = n < 2 ^ 64
  IsPlain (number (negative z)) = ⊥
  IsPlain (number (float x)) = ⊥
  IsPlain (string s) = IsUtf8 s
  IsPlain (array ds) = ArePlain ds
  IsPlain (object ms) = (have_ascii_keys ms ≡ true) × (rebuilt ms no_members ≡ ms) × HavePlain ms

  pub ArePlain : Items → Type 0
  ArePlain no_items = Unit {0}
  ArePlain (item d ds) = IsPlain d × ArePlain ds

  pub HavePlain : Members → Type 0
  HavePlain no_members = Unit {0}
  HavePlain (member k d ms) = IsPlain d × HavePlain ms

-- ---- the tree of its tokens

mutual
  of_outline : (d : Data) → IsPlain d → of_json (outline d) ≡ Some d
  of_outline null h = refl
  of_outline (boolean b) h = refl
  of_outline (number (unsigned n)) h = ap (option_map number) (number_of-decimal n h)
  of_outline (number (negative z)) h = absurd h
  of_outline (number (float x)) h = absurd h
  of_outline (string s) h = refl
  of_outline (array ds) h = ap (option_map array) (of_items_outline ds h)
  of_outline (object ms) h = ap (option_map object) (of_members_outline ms no_members h.2 ∙ ap Some h.1)

  of_items_outline : (ds : Items) → ArePlain ds → of_items (items_outline ds) ≡ Some ds
  of_items_outline no_items h = refl
  of_items_outline (item d ds) h = rw (of_outline d h.0, of_items_outline ds h.1) refl

  of_members_outline : (ms found : Members) → HavePlain ms → of_members (members_outline ms) found ≡ Some (rebuilt ms found)
  of_members_outline no_members found h = refl
  of_members_outline (member k d ms) found h = rw (of_outline d h.0) (of_members_outline ms (put k d found) h.1)

mutual
  numbers_outline : (d : Data) → IsPlain d → tree.HasNumbers (outline d)
  numbers_outline null h = tt
  numbers_outline (boolean b) h = tt
  numbers_outline (number (unsigned n)) h = IsNumber-decimal n h
  numbers_outline (number (negative z)) h = absurd h
  numbers_outline (number (float x)) h = absurd h
  numbers_outline (string s) h = tt
  numbers_outline (array ds) h = items_numbers_outline ds h
  numbers_outline (object ms) h = members_numbers_outline ms h.2

  items_numbers_outline : (ds : Items) → ArePlain ds → tree.ItemsHaveNumbers (items_outline ds)
  items_numbers_outline no_items h = tt
  items_numbers_outline (item d ds) h = (numbers_outline d h.0, items_numbers_outline ds h.1)

  members_numbers_outline : (ms : Members) → HavePlain ms → tree.MembersHaveNumbers (members_outline ms)
  members_numbers_outline no_members h = tt
  members_numbers_outline (member k d ms) h = (numbers_outline d h.0, members_numbers_outline ms h.1)

abbrev last_of : Option (json.Json × List Token) → Option Data
last_of o = option_and_then of_json (option_and_then (λ p. json.if_last p.0 p.1) o)

pub printable : (d : Data) → IsPlain d → ArePrintable (tree.json_tokens (outline d))
printable d plain = ArePrintable-json_tokens (outline d) (numbers_outline d plain)

pub tokens_of_text : (d : Data) → IsPlain d → tokens (compact_text d) ≡ tree.json_tokens (outline d)
tokens_of_text d plain = ap tokens (sym (print-outline d)) ∙ tokens-print (tree.json_tokens (outline d)) (printable d plain)

pub read_compact : (d : Data) → IsPlain d → tree.depth (outline d) ≤ max_depth → read (compact_text d) ≡ Some d
read_compact d plain shallow =
    let ts = tree.json_tokens (outline d) in
    ap last_of
    (ap (json.value max_depth) (tokens_of_text d plain ∙ sym (append-nil ts)) ∙ value-json_tokens (outline d) max_depth [] (omega (arith, shallow)))
    ∙ of_outline d plain

-- ---- its bytes

one_byte : (b : ℕ) (xs : List ℕ) → IsUtf8 (b ∷ []) → IsUtf8 xs → IsUtf8 (b ∷ xs)
one_byte b xs h u = IsUtf8-append (b ∷ []) xs h u

comma_is : (b : Bool) → IsUtf8 (comma_if b)
comma_is true = IsUtf8-are_ascii (44 ∷ []) refl
comma_is false = IsUtf8-nil

mutual
  pub text_is_utf8 : (d : Data) → IsPlain d → IsUtf8 (compact_text d)
  text_is_utf8 null h = IsUtf8-are_ascii (compact_text null) refl
  text_is_utf8 (boolean b) h = IsUtf8-boolean b
  text_is_utf8 (number (unsigned n)) h = IsUtf8-from_ascii (decimal n) (IsAscii-decimal n h)
  text_is_utf8 (number (negative z)) h = absurd h
  text_is_utf8 (number (float x)) h = absurd h
  text_is_utf8 (string s) h = IsUtf8-quoted s h
  text_is_utf8 (array ds) h = one_byte 91 (items_text false ds) (IsUtf8-are_ascii (91 ∷ []) refl) (items_are_utf8 false ds h)
  text_is_utf8 (object ms) h = one_byte 123 (members_text false ms) (IsUtf8-are_ascii (123 ∷ []) refl) (members_are_utf8 false ms h.0 h.2)

  items_are_utf8 : (later : Bool) (ds : Items) → ArePlain ds → IsUtf8 (items_text later ds)
  items_are_utf8 later no_items h = IsUtf8-are_ascii (93 ∷ []) refl
  items_are_utf8 later (item d ds) h =
      IsUtf8-append (comma_if later) (compact_text d ++ items_text true ds) (comma_is later)
      (IsUtf8-append (compact_text d) (items_text true ds) (text_is_utf8 d h.0) (items_are_utf8 true ds h.1))

  members_are_utf8 : (later : Bool) (ms : Members) → have_ascii_keys ms ≡ true → HavePlain ms → IsUtf8 (members_text later ms)
  members_are_utf8 later no_members e h = IsUtf8-are_ascii (125 ∷ []) refl
  members_are_utf8 later (member k d ms) e h =
      let keys = and_parts (are_ascii k) (have_ascii_keys ms) e in
      IsUtf8-append (comma_if later) _ (comma_is later)
      (IsUtf8-append _ (58 ∷ (compact_text d ++ members_text true ms)) (IsUtf8-quoted k (IsUtf8-are_ascii k keys.0))
      (one_byte 58 (compact_text d ++ members_text true ms) (IsUtf8-are_ascii (58 ∷ []) refl)
      (IsUtf8-append (compact_text d) (members_text true ms) (text_is_utf8 d h.0) (members_are_utf8 true ms keys.1 h.1))))
