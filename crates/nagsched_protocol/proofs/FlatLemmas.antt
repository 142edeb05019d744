-- What `serde_json` reads from the tokens of an array, item by item, and the calls that the items are.
use Rattle.std.proofs.Common.{◌≡◌, ℕ, ◌<◌, ◌^◌, ◌==◌, Bool, false, List, [], ◌∷◌, length, Option, Some, None, Ok, refl, ap, ◌∙◌, sym, lt-ltb, ne_eqb, get_or}
use Rattle.std.specs.Prelude.{IfSome, IsUtf8, Result, codes, option_and_then, option_map}
use Rattle.std.specs.Option.{SomeIff}
use Rattle.std.proofs.lemmas.Str.{is_utf8-from_IsUtf8}
use Rattle.fast_float.specs.Text.{IsInteger, Parts, digits_of, scan}
use Rattle.json.specs.Json as json
use Rattle.json.specs.Json.{Json, parse_map}
use Rattle.json.specs.Lex.{tokens}
use Rattle.json.specs.Token.{Token}
use Rattle.serde_json.specs.Data.{Data, Items, Num, array, item, no_items, number, string, unsigned}
use Rattle.serde_json.specs.Read.{converted, number_from, number_of, of_items, of_json}
use Rattle.check_objects.specs.JsonTree.{tree_of}
use Rattle.check_objects.specs.Configuration.{Configuration, number_by_name}
use Rattle.check_states.specs.Numbers.{code_of_number}
use Rattle.check_states.specs.declared.state.Code.{Code}
use Rattle.check_sched.specs.declared.call.Call.{Call}
use Rattle.check_sched.specs.declared.call.Call.TheVariants as call
use Rattle.setup_model.specs.Agreement.{◌>>=◌}
use Rattle.nagsched_protocol.specs.Command.{command_by, report_call, take_call}
use Rattle.nagsched_protocol.specs.FlatLine.{data_of_tokens, items_after_bracket}
use Rattle.nagsched_protocol.specs.Line.{command_in}
use Rattle.nagsched_protocol.specs.declared.command.RunCommand.TheVariants as command

firsts : (x y : Items × List Token) → Some x ≡ Some y → x.0 ≡ y.0
firsts x y e = let same : x ≡ y = cc in ap (λ p. p.0) same

seconds : (x y : Items × List Token) → Some x ≡ Some y → x.1 ≡ y.1
seconds x y e = let same : x ≡ y = cc in ap (λ p. p.1) same

-- ---- the array

array_by_items : (js : json.Items) (rest : List Token) (found : Option Items) (ds : Items) → of_items js ≡ found
    → option_map {U = Items × List Token} (λ b. (b, rest)) found ≡ Some (ds, []) → option_and_then of_json (json.if_last (json.array js) rest) ≡ Some (array ds)
array_by_items js rest None ds f e = absurd (cc)
array_by_items js [] (Some d) ds f e = rw f (ap (λ x. Some (array x)) (firsts (d, []) (ds, []) e))
array_by_items js (t ∷ rest) (Some d) ds f e = let clash : t ∷ rest ≡ [] = seconds (d, t ∷ rest) (ds, []) e in absurd (cc)

array_by : (read : Option (json.Items × List Token)) (ds : Items) → converted of_items read ≡ Some (ds, [])
    → option_and_then of_json (option_and_then (λ p. json.if_last p.0 p.1) (parse_map json.array read)) ≡ Some (array ds)
array_by None ds e = absurd (cc)
array_by (Some (js, rest)) ds e = array_by_items js rest (of_items js) ds refl e

-- the tokens of an array that ends with the line
pub data_of_array : (ts : List Token) (ds : Items) → items_after_bracket ts ≡ Some (ds, []) → data_of_tokens (Token.begin_array ∷ ts) ≡ Some (array ds)
unfolding json.value
data_of_array ts ds e = array_by (json.items (json.value 126) (length ts) ts) ds e

-- ---- its items

item_by_items : (j : Json) (d : Data) (js : json.Items) (rest : List Token) (found : Option Items) (ds : Items) → of_json j ≡ Some d → of_items js ≡ found
    → option_map {U = Items × List Token} (λ b. (b, rest)) found ≡ Some (ds, []) → option_map {U = Items × List Token} (λ b. (b, rest)) (of_items (json.item j js)) ≡ Some (item d ds, [])
item_by_items j d js rest None ds g f e = absurd (cc)
item_by_items j d js [] (Some ds') ds g f e = rw (g, f) (ap (λ x. Some (item d x, [])) (firsts (ds', []) (ds, []) e))
item_by_items j d js (t ∷ rest) (Some ds') ds g f e = let clash : t ∷ rest ≡ [] = seconds (ds', t ∷ rest) (ds, []) e in absurd (cc)

item_by : (j : Json) (d : Data) (read : Option (json.Items × List Token)) (ds : Items) → of_json j ≡ Some d → converted of_items read ≡ Some (ds, [])
    → converted of_items (parse_map (json.item j) read) ≡ Some (item d ds, [])
item_by j d None ds g e = absurd (cc)
item_by j d (Some (js, rest)) ds g e = item_by_items j d js rest (of_items js) ds g refl e

pub items_end : items_after_bracket (Token.end_array ∷ []) ≡ Some (no_items, [])
unfolding json.items
items_end = refl

pub items_text : (s : List ℕ) (ts : List Token) (ds : Items) → items_after_bracket ts ≡ Some (ds, [])
    → items_after_bracket (Token.string s ∷ ts) ≡ Some (item (string s) ds, [])
unfolding json.items json.value
items_text s ts ds e = item_by (json.string s) (string s) (json.items (json.value 126) (length ts) ts) ds refl e

pub items_number : (s : List ℕ) (n : Num) (ts : List Token) (ds : Items) → number_of s ≡ Some n → items_after_bracket ts ≡ Some (ds, [])
    → items_after_bracket (Token.number s ∷ ts) ≡ Some (item (number n) ds, [])
unfolding json.items json.value
items_number s n ts ds f e =
    item_by (json.number s) (number n) (json.items (json.value 126) (length ts) ts) ds (ap (option_map number) f) e

-- ---- whole numbers

whole_parts : (p : Parts) (read : Option ℕ) → SomeIff read (IsInteger p × (digits_of p < 2 ^ 64)) (digits_of p)
    → IfSome read (λ n. number_from false p ≡ Some (unsigned n))
whole_parts p None h = tt
whole_parts p (Some n) h =
    rw (lt-ltb _ _ h.0.0.0, h.0.0.1, h.0.0.2, lt-ltb _ _ h.0.1) (ap (λ k. Some (unsigned k)) (sym h.1))

pub whole_digits : (s : List ℕ) (read : Option ℕ) → (get_or s 0 0 ≡ 45 → ⊥) → SomeIff read (IsInteger (scan s) × (digits_of (scan s) < 2 ^ 64)) (digits_of (scan s))
    → IfSome read (λ n. number_of s ≡ Some (unsigned n))
unfolding number_of
whole_digits s read positive h = rw (ne_eqb (get_or s 0 0) 45 positive) (whole_parts (scan s) read h)

-- ---- calls

abbrev IsNumberToken : List Token → ℕ → List Token → Type 0
IsNumberToken ts n rest = (digits : List ℕ) × (ts ≡ Token.number digits ∷ rest) × (number_of digits ≡ Some (unsigned n))

number_first : (ts rest : List Token) (n : ℕ) (ds : Items) → IsNumberToken ts n rest → items_after_bracket rest ≡ Some (ds, [])
    → items_after_bracket ts ≡ Some (item (number (unsigned n)) ds, [])
number_first ts rest n ds (digits, e, f) read = rw e (items_number digits (unsigned n) rest ds f read)

pub take_read : (ts rest : List Token) (now : ℕ) → IsNumberToken ts now rest → rest ≡ Token.end_array ∷ []
    → (members : Items) × (items_after_bracket ts ≡ Some (members, [])) × (take_call members ≡ Ok (call.Take now))
take_read ts rest now first end =
    (item (number (unsigned now)) no_items, number_first ts rest now no_items first (rw end items_end), refl)

pub report_read : (c : Configuration) (ts a b rest : List Token) (name : List ℕ) (run digit object : ℕ) (code : Code) → ts ≡ Token.string name ∷ a
    → IsNumberToken a run b → IsNumberToken b digit rest → rest ≡ Token.end_array ∷ []
    → code_of_number digit ≡ Some code → number_by_name c name ≡ Some object
    → (members : Items) × (items_after_bracket ts ≡ Some (members, [])) × (report_call c members ≡ Ok (call.Report object run code))
report_read c ts a b rest name run digit object code text first second end is_code is_object =
    let last = number_first b rest digit no_items second (rw end items_end) in
    let numbers = number_first a b run (item (number (unsigned digit)) no_items) first last in (
      item (string name) (item (number (unsigned run)) (item (number (unsigned digit)) no_items)),
      rw text (items_text name a (item (number (unsigned run)) (item (number (unsigned digit)) no_items)) numbers),
      rw (is_code, is_object) refl,
    )

said_by : (c : Configuration) (word : List ℕ) (ts : List Token) (members : Items) (made : Call) → items_after_bracket ts ≡ Some (members, [])
    → command_by c word members ≡ Ok (command.Call made)
    → option_map (command_in (command_by c)) (data_of_tokens (Token.begin_array ∷ Token.string word ∷ ts)) ≡ Some (Ok (command.Call made))
said_by c word ts members made read says =
    ap (option_map (command_in (command_by c))) (data_of_array (Token.string word ∷ ts) (item (string word) members) (items_text word ts members read)) ∙ ap Some says

pub take_said : (c : Configuration) (word : List ℕ) (ts : List Token) (members : Items) (made : Call) → word ≡ codes "take"
    → items_after_bracket ts ≡ Some (members, []) → take_call members ≡ Ok made
    → option_map (command_in (command_by c)) (data_of_tokens (Token.begin_array ∷ Token.string word ∷ ts)) ≡ Some (Ok (command.Call made))
take_said c word ts members made is read says =
    said_by c word ts members made read (rw is (ap (λ r. r >>= λ made. Ok (command.Call made)) says))

pub report_said : (c : Configuration) (word : List ℕ) (ts : List Token) (members : Items) (made : Call) → word ≡ codes "report"
    → items_after_bracket ts ≡ Some (members, []) → report_call c members ≡ Ok made
    → option_map (command_in (command_by c)) (data_of_tokens (Token.begin_array ∷ Token.string word ∷ ts)) ≡ Some (Ok (command.Call made))
report_said c word ts members made is read says =
    said_by c word ts members made read (rw is (ap (λ r. r >>= λ made. Ok (command.Call made)) says))

-- the same of a call that may not be there
pub take_calls : (c : Configuration) (all ts : List Token) (word : List ℕ) (made : Option Call) → all ≡ Token.begin_array ∷ Token.string word ∷ ts
    → word ≡ codes "take" → IfSome made (λ call. (members : Items) × (items_after_bracket ts ≡ Some (members, [])) × (take_call members ≡ Ok call))
    → IfSome made (λ call. option_map (command_in (command_by c)) (data_of_tokens all) ≡ Some (Ok (command.Call call)))
take_calls c all ts word None e is h = tt
take_calls c all ts word (Some made) e is (members, read, says) = rw e (take_said c word ts members made is read says)

pub report_calls : (c : Configuration) (all ts : List Token) (word : List ℕ) (made : Option Call) → all ≡ Token.begin_array ∷ Token.string word ∷ ts
    → word ≡ codes "report"
    → IfSome made (λ call. (members : Items) × (items_after_bracket ts ≡ Some (members, [])) × (report_call c members ≡ Ok call))
    → IfSome made (λ call. option_map (command_in (command_by c)) (data_of_tokens all) ≡ Some (Ok (command.Call call)))
report_calls c all ts word None e is h = tt
report_calls c all ts word (Some made) e is (members, read, says) = rw e (report_said c word ts members made is read says)

-- ---- the line

pub tree_of_tokens : (line : List ℕ) → IsUtf8 line → tree_of line ≡ data_of_tokens (tokens line)
unfolding tree_of
tree_of_tokens line u = rw (is_utf8-from_IsUtf8 line u) refl
