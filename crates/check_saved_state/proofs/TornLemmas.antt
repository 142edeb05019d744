-- A text that was cut off isn't read: an object that it opens isn't closed.
use Rattle.std.proofs.Common.{◌≡◌, ℕ, suc, Bool, true, false, fold, List, [], ◌∷◌, ◌++◌, length, Option, Some, None, option_and_then, Err}
use Rattle.std.proofs.Common.{refl, sym, ap, ◌∙◌, subst, arith, append_assoc, append-nil, length-append}
use Rattle.std.specs.Prelude.{nat_lt}
use Rattle.std.proofs.lemmas.Bool.Decides.{nat_tests}
use Rattle.std.proofs.lemmas.List.Folds.{list_all-append}
use Rattle.json.specs.Json as json
use Rattle.json.specs.Json.{Json, Items, Members, value}
use Rattle.json.specs.Lex.{between, fresh, lex, punctuate, tokens}
use Rattle.json.specs.Print.{ArePrintable, ends, print, print_from, separator}
use Rattle.json.specs.Token.{Token, begin_object, end_object, key}
use Rattle.json.specs.Tree.{json_tokens, items_tokens, members_tokens}
use Rattle.json.proofs.Printed.Tokens.{print_from_push, tokens-print}
use Rattle.json.proofs.Unique.Spelling.{value-json_tokens_back}
use Rattle.serde_json.specs.Read.{max_depth, of_json, read}
use Rattle.serde_json.specs.Written.{outline}
use Rattle.serde_json.proofs.Texts.{print-outline}
use Rattle.setup_reader.proofs.TreeLemmas.{tree_none}
use Rattle.setup_model.specs.Agreement.{◌>>=◌}
use Rattle.check_saved_state.specs.declared.fault.SavedFault.TheVariants as faults
use Rattle.check_saved_state.specs.Saved.{IsSaved, Saved}
use Rattle.check_saved_state.specs.Text.{saved_of_text, saved_of_tree, saved_text}
use Rattle.check_saved_state.specs.Tree.{saved_tree}
use Rattle.check_saved_state.proofs.BracketLemmas.{AreGood, brackets, is_good, front_open, lexed, lexed_splits, members_open, one_more_open, open_after}
use Rattle.check_saved_state.proofs.BracketLemmas.{open_members}
use Rattle.check_saved_state.proofs.BracketLemmas.{punctuated_has, value_closes}
use Rattle.check_saved_state.proofs.FitLemmas.{saved_fits}
use Rattle.check_saved_state.proofs.PlainLemmas.{printable}

-- ---- tokens without a fault

good_append : (ts us : List Token) → AreGood ts → AreGood us → AreGood (ts ++ us)
good_append ts us h k = list_all-append is_good ts us ∙ rw (h, k) refl

mutual
  good_value : (j : Json) → AreGood (json_tokens j)
  good_value json.null = refl
  good_value (json.boolean b) = refl
  good_value (json.number s) = refl
  good_value (json.string s) = refl
  good_value (json.array js) = good_items js
  good_value (json.object ms) = good_members ms

  good_items : (js : Items) → AreGood (items_tokens js)
  good_items json.no_items = refl
  good_items (json.item j js) = good_append (json_tokens j) (items_tokens js) (good_value j) (good_items js)

  good_members : (ms : Members) → AreGood (members_tokens ms)
  good_members json.no_members = refl
  good_members (json.member k j ms) = good_append (json_tokens j) (members_tokens ms) (good_value j) (good_members ms)

good_open : (ms : Members) → AreGood (open_members ms)
good_open json.no_members = refl
good_open (json.member k j ms) = good_append (json_tokens j) (open_members ms) (good_value j) (good_open ms)

some_token : (j : Json) → [] ≡ json_tokens j → ⊥
some_token json.null e = cc
some_token (json.boolean b) e = cc
some_token (json.number s) e = cc
some_token (json.string s) e = cc
some_token (json.array js) e = cc
some_token (json.object ms) e = cc

-- ---- an object without its last byte

closed : (ms : Members) → members_tokens ms ≡ open_members ms ++ end_object ∷ []
closed json.no_members = refl
closed (json.member k j ms) =
    ap (λ ts. key k ∷ ts) (ap (λ ts. json_tokens j ++ ts) (closed ms) ∙ sym (append_assoc (json_tokens j) (open_members ms) (end_object ∷ [])))

no_comma : (after_value : Bool) → separator after_value end_object ≡ []
no_comma true = refl
no_comma false = refl

-- the text of an object is that of what it opens, and a brace
object_text : (ms : Members) → print (json_tokens (json.object ms)) ≡ print (begin_object ∷ open_members ms) ++ 125 ∷ []
object_text ms =
    ap (λ ts. print (begin_object ∷ ts)) (closed ms) ∙ print_from_push false (begin_object ∷ open_members ms) end_object
    ∙ ap (λ c. print (begin_object ∷ open_members ms) ++ (c ++ 125 ∷ [])) (no_comma (fold (λ _ t. ends t) false (begin_object ∷ open_members ms)))

first_byte : (ts : List Token) → (more : List ℕ) × (print (begin_object ∷ ts) ≡ 123 ∷ more)
unfolding print_from
first_byte ts = (print_from false ts, refl)

printable_front : (ts us : List Token) → ArePrintable (ts ++ us) → ArePrintable ts
unfolding ArePrintable
printable_front [] us h = tt
printable_front (t ∷ ts) us h = (h.0, printable_front ts us h.1)

printable_open : (ms : Members) → ArePrintable (json_tokens (json.object ms)) → ArePrintable (begin_object ∷ open_members ms)
printable_open ms h = printable_front (begin_object ∷ open_members ms) (end_object ∷ []) (subst (λ ts. ArePrintable (begin_object ∷ ts)) (closed ms) h)

-- a front that lacks a byte at least is a front of the text without its last byte
without_last : (front rest text : List ℕ) (next last : ℕ) → front ++ next ∷ rest ≡ text ++ last ∷ [] → (more : List ℕ) × (text ≡ front ++ more)
without_last [] rest text next last e = (text, refl)
without_last (x ∷ front) rest [] next last e = absurd (too_long front (let tail : front ++ next ∷ rest ≡ [] = cc in tail))
  where
    too_long : (xs : List ℕ) → xs ++ next ∷ rest ≡ [] → ⊥
    too_long [] f = cc
    too_long (y ∷ ys) f = cc
without_last (x ∷ front) rest (y ∷ text) next last e =
    let same : x ≡ y = cc in
    let tail : front ++ next ∷ rest ≡ text ++ last ∷ [] = cc in
    let more = without_last front rest text next last tail in
    (more.0, (λ i. sym same i ∷ more.1 i))

-- ---- its front

module _ (ms : Members) (printable : ArePrintable (json_tokens (json.object ms))) where
  opened : lexed (lex between (print (begin_object ∷ open_members ms))) ≡ true ∷ brackets (open_members ms)
  opened =
      let u = print (begin_object ∷ open_members ms) in
      let known : tokens u ≡ begin_object ∷ open_members ms = tokens-print (begin_object ∷ open_members ms) (printable_open ms printable) in
      sym (punctuated_has fresh (lex between u) (subst AreGood (sym known) (good_open ms))) ∙ ap brackets known

  -- the brackets of a front that isn't empty aren't those of a value
  unclosed : (front more : List ℕ) (j : Json) → print (begin_object ∷ open_members ms) ≡ front ++ more → tokens front ≡ json_tokens j → ⊥
  unfolding lex punctuate
  unclosed [] more j is e = some_token j e
  unclosed (x ∷ front) more j is e =
      let first = first_byte (open_members ms) in
      let whole : 123 ∷ first.0 ≡ x ∷ (front ++ more) = sym first.1 ∙ is in
      let byte : 123 ≡ x = cc in
      let split = lexed_splits between (x ∷ front) more in
      let all : lexed (lex between ((x ∷ front) ++ more)) ≡ true ∷ brackets (open_members ms) = ap (λ t. lexed (lex between t)) (sym is) ∙ opened in
      let of_front : lexed (lex between (x ∷ front)) ≡ true ∷ lexed (lex between front) = ap (λ y. lexed (lex between (y ∷ front))) (sym byte) in
      let inner : true ∷ (lexed (lex between front) ++ lexed (lex split.0 more)) ≡ true ∷ brackets (open_members ms) =
      ap (λ l. l ++ lexed (lex split.0 more)) (sym of_front) ∙ sym split.1 ∙ all in
      let within : lexed (lex between front) ++ lexed (lex split.0 more) ≡ brackets (open_members ms) = cc in
      let some = front_open (lexed (lex between front)) (lexed (lex split.0 more)) 0 0 (ap (λ l. open_after l 0) within ∙ members_open ms 0) in
      let still = one_more_open (lexed (lex between front)) 0 some.0 some.1 in
      let closes : lexed (lex between (x ∷ front)) ≡ brackets (json_tokens j) =
      sym (punctuated_has fresh (lex between (x ∷ front)) (subst AreGood (sym e) (good_value j))) ∙ ap brackets e in
      let none : open_after (lexed (lex between front)) 1 ≡ Some 0 = ap (λ l. open_after l 0) (sym of_front ∙ closes) ∙ value_closes j 0 in
      let clash : Some (suc some.0) ≡ Some 0 = sym still ∙ none in
      cc

not_whole : (ts : List Token) (o : Option (Json × List Token)) → value max_depth ts ≡ o → ((j : Json) → ts ≡ json_tokens j → ⊥)
    → option_and_then of_json (option_and_then (λ p. json.if_last p.0 p.1) o) ≡ None
not_whole ts None e none = refl
not_whole ts (Some (j, [])) e none = absurd (none j (value-json_tokens_back max_depth ts [] j e ∙ append-nil (json_tokens j)))
not_whole ts (Some (j, t ∷ r)) e none = refl

-- the front of an object's text, without a byte at least, isn't read
unread : (ms : Members) (front rest : List ℕ) (next : ℕ) → ArePrintable (json_tokens (json.object ms)) → print (json_tokens (json.object ms)) ≡ front ++ next ∷ rest
    → read front ≡ None
unread ms front rest next printable is =
    let more = without_last front rest (print (begin_object ∷ open_members ms)) next 125 (sym is ∙ object_text ms) in
    not_whole (tokens front) (value max_depth (tokens front)) refl (λ j e. unclosed ms printable front more.0 j more.1 e)

abbrev members_in : Json → Members
members_in (json.object ms) = ms
members_in other = json.no_members

-- the text of a saved state, without a byte at least, is no JSON
pub torn : (saved : Saved) (front rest : List ℕ) (next : ℕ) → IsSaved saved → saved_text saved ≡ front ++ next ∷ rest
    → saved_of_text front ≡ Err faults.NotJson
torn saved front rest next h is =
    let fit = saved_fits saved h in
    let fits = fit.2 in
    let lengths = ap length is ∙ length-append front (next ∷ rest) in
    let short : nat_lt 16777216 (length front) ≡ false = grind (arith, nat_tests, fits, lengths) in
    rw short (ap (λ r. r >>= saved_of_tree) (tree_none front faults.NotJson (λ _.
    unread (members_in (outline (saved_tree saved))) front rest next (printable (saved_tree saved) fit.0) (print-outline (saved_tree saved) ∙ is))))
