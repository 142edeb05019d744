-- The id at the end of a line's items.
use Rattle.std.proofs.Common.{◌≡◌, ℕ, suc, ◌==◌, Bool, true, false, List, [], ◌∷◌, ◌++◌, length, Option, Some, None, refl, ap, ◌∙◌, sym, arith, String, ◌≤◌}
use Rattle.std.proofs.Common.{cond}
use Rattle.std.specs.Prelude.{IsUtf8, nat_lt, option_and_then}
use Rattle.std.specs.Str.{is_utf8}
use Rattle.std.proofs.lemmas.Bool.Decides.{nat_tests}
use Rattle.std.proofs.lemmas.Str.{IsUtf8-from_is_utf8, is_utf8-from_IsUtf8}
use Rattle.std.proofs.lemmas.Bool.{ne_eqb}
use Rattle.std.specs.declared.alloc.Global.{Global}
use Rattle.serde_json.specs.Data.{Data, null, boolean, number, string, array, object, Items, item, no_items}
use Rattle.serde_json.specs.Find.{as_array, as_object}
use Rattle.serde_json.specs.Read.{read}
use Rattle.serde_json.specs.View.{view, items_view, members_view}
use Rattle.serde_json.specs.declared.value.Value.{Value}
use Rattle.nagsched_protocol.specs.Request.{has_one_member, id_in, id_of_line, last_item, without_last}
use Rattle.nagsched_protocol.specs.declared.line.TheConstants.{MAX_LINE_BYTES}
use Rattle.check_objects.specs.JsonTree.{tree_of}

-- ---- the last item

last_of : (vs : List Value) (v : Value) → last_item (items_view (vs ++ v ∷ [])) ≡ Some (view v)
last_of [] v = refl
last_of (w ∷ []) v = refl
last_of (w ∷ x ∷ vs) v = last_of (x ∷ vs) v

pub last_seen : (vs rest : List Value) (v : Value) → vs ≡ rest ++ v ∷ [] → last_item (items_view vs) ≡ Some (view v)
last_seen vs rest v e = rw e (last_of rest v)

pub none_last : (vs : List Value) → length vs ≡ 0 → last_item (items_view vs) ≡ None
none_last [] e = refl
none_last (v ∷ vs) e = absurd (omega (arith, e))

rest_of : (vs : List Value) (v : Value) → without_last (items_view (vs ++ v ∷ [])) ≡ items_view vs
rest_of [] v = refl
rest_of (w ∷ []) v = refl
rest_of (w ∷ x ∷ vs) v = ap (item (view w)) (rest_of (x ∷ vs) v)

pub rest_seen : (vs rest : List Value) (v : Value) → vs ≡ rest ++ v ∷ [] → items_view rest ≡ without_last (items_view vs)
rest_seen vs rest v e = rw e (sym (rest_of rest v))

-- ---- an object with one member

many_members : (n : ℕ) → (suc (suc n) == 1) ≡ false
many_members n = ne_eqb (suc (suc n)) 1 (λ e. omega (arith, e))

one_in : (es : List (String Global × Value)) → (length es == 1) ≡ has_one_member (object (members_view es))
one_in [] = refl
one_in (e ∷ []) = refl
one_in (e ∷ f ∷ es) = many_members (length es)

pub one_member : (d : Data) (es : List (String Global × Value)) → Some (members_view es) ≡ as_object d → (length es == 1) ≡ has_one_member d
one_member null es e = cc
one_member (boolean b) es e = cc
one_member (number n) es e = cc
one_member (string s) es e = cc
one_member (array ds) es e = cc
one_member (object ms) es e = let same : members_view es ≡ ms = cc in one_in es ∙ ap (λ l. has_one_member (object l)) same

pub no_object : (d : Data) → None ≡ as_object d → false ≡ has_one_member d
no_object null e = refl
no_object (boolean b) e = refl
no_object (number n) e = refl
no_object (string s) e = refl
no_object (array ds) e = refl
no_object (object ms) e = cc

-- ---- the id of a line

tree_read : (line : List ℕ) (d : Data) → IsUtf8 line → read line ≡ Some d → tree_of line ≡ Some d
unfolding tree_of
tree_read line d u e = rw (is_utf8-from_IsUtf8 line u, e) refl

unread_by : (line : List ℕ) (b : Bool) → (b ≡ true → read line ≡ None) → cond b (read line) None ≡ None
unread_by line true h = h refl
unread_by line false h = refl

tree_unread : (line : List ℕ) → (IsUtf8 line → read line ≡ None) → tree_of line ≡ None
unfolding tree_of
tree_unread line h = unread_by line (is_utf8 line) (λ e. h (IsUtf8-from_is_utf8 line e))

short_line : (line : List ℕ) → length line ≤ MAX_LINE_BYTES → nat_lt MAX_LINE_BYTES (length line) ≡ false
short_line line h = grind (arith, nat_tests, h)

pub id_read : (line : List ℕ) (d : Data) → length line ≤ MAX_LINE_BYTES → IsUtf8 line → read line ≡ Some d
    → option_and_then id_in (as_array d) ≡ id_of_line line
unfolding id_of_line
id_read line d short u e = rw (short_line line short, tree_read line d u e) refl

pub id_unread : (line : List ℕ) → length line ≤ MAX_LINE_BYTES → (IsUtf8 line → read line ≡ None) → None ≡ id_of_line line
unfolding id_of_line
id_unread line short h = rw (short_line line short, tree_unread line h) refl
