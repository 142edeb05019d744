-- Each object of a tree that was read has each key once, in order, so that each of its members is found by its name.
use Rattle.std.proofs.Common.{◌≡◌, ℕ, List, Option, Some, None, option_map, Ordering, Less, Equal, Greater, nat_cmp, Bool, true, false, cond, refl, sym, ap}
use Rattle.std.proofs.Common.{◌∙◌, subst}
use Rattle.std.specs.Prelude.{option_and_then}
use Rattle.std.proofs.lemmas.Cmp.{nat_list_cmp_total, tied_itself}
use Rattle.std.specs.Cmp.Lexicographic.{slice_cmp}
use Rattle.std.specs.Ordering.{match_ordering, ordering_reverse}
use Rattle.std.specs.Str.{is_utf8}
use Rattle.json.specs.Json as json
use Rattle.json.specs.Lex.{tokens}
use Rattle.serde_json.specs.Data.{Data, null, boolean, number, string, array, object, Items, no_items, item, Members, no_members, member, put}
use Rattle.serde_json.specs.Find.{get, get_member}
use Rattle.serde_json.specs.Read.{number_of, of_json, of_items, of_members, max_depth, read}
use Rattle.setup_reader.specs.JsonTree.{tree_of}
use Rattle.setup_reader.proofs.ReadLemmas.{some_is}

-- ---- what an option was made of

pub mapped : {A B : Type 0} (f : A → B) (o : Option A) (b : B) (P : B → Type 0) → ((a : A) → o ≡ Some a → P (f a)) → option_map f o ≡ Some b → P b
mapped f None b P h e = cc
mapped f (Some a) b P h e = subst P (some_is (f a) b e) (h a refl)

pub chained : {A B : Type 0} (o : Option A) (f : A → Option B) (b : B) (P : Type 0) → ((a : A) → o ≡ Some a → f a ≡ Some b → P)
    → option_and_then f o ≡ Some b → P
chained None f b P h e = cc
chained (Some a) f b P h e = h a refl e

-- ---- keys in order

-- each key is above this one
abbrev pub IsBelow : List ℕ → Members → Type 0
IsBelow k no_members = Unit {0}
IsBelow k (member l d ms) = (slice_cmp nat_cmp k l ≡ Less) × IsBelow k ms

abbrev mutual
  pub IsSorted : Data → Type 0
  IsSorted null = Unit {0}
  IsSorted (boolean b) = Unit {0}
  IsSorted (number n) = Unit {0}
  IsSorted (string s) = Unit {0}
  IsSorted (array ds) = AreSorted ds
  IsSorted (object ms) = HasSorted ms

  pub AreSorted : Items → Type 0
  AreSorted no_items = Unit {0}
  AreSorted (item d ds) = IsSorted d × AreSorted ds

  pub HasSorted : Members → Type 0
  HasSorted no_members = Unit {0}
  HasSorted (member k d ms) = IsBelow k ms × IsSorted d × HasSorted ms

below_before : (k l : List ℕ) (ms : Members) → slice_cmp nat_cmp k l ≡ Less → IsBelow l ms → IsBelow k ms
below_before k l no_members h b = tt
below_before k l (member m d ms) h b = (nat_list_cmp_total.trans k l m h b.0, below_before k l ms h b.1)

below_same : (k l : List ℕ) (ms : Members) → slice_cmp nat_cmp k l ≡ Equal → IsBelow l ms → IsBelow k ms
below_same k l no_members h b = tt
below_same k l (member m d ms) h b = (nat_list_cmp_total.congr k l m h ∙ b.0, below_same k l ms h b.1)

below_put_at : (o : Ordering) (l k m : List ℕ) (d e : Data) (ms : Members) → slice_cmp nat_cmp l k ≡ Less → IsBelow l (member m e ms) → IsBelow l (put k d ms)
    → IsBelow l (match_ordering o (member k d (member m e ms)) (member m d ms) (member m e (put k d ms)))
below_put_at Less l k m d e ms h b more = (h, b)
below_put_at Equal l k m d e ms h b more = b
below_put_at Greater l k m d e ms h b more = (b.0, more)

below_put : (l k : List ℕ) (d : Data) (ms : Members) → slice_cmp nat_cmp l k ≡ Less → IsBelow l ms → IsBelow l (put k d ms)
below_put l k d no_members h b = (h, tt)
below_put l k d (member m e ms) h b = below_put_at (slice_cmp nat_cmp k m) l k m d e ms h b (below_put l k d ms h b.1)

sorted_put_at : (o : Ordering) (k l : List ℕ) (d e : Data) (ms : Members) → slice_cmp nat_cmp k l ≡ o → IsSorted d → HasSorted (member l e ms) → HasSorted (put k d ms)
    → HasSorted (match_ordering o (member k d (member l e ms)) (member l d ms) (member l e (put k d ms)))
sorted_put_at Less k l d e ms is s h more = ((is, below_before k l ms is h.0), s, h)
sorted_put_at Equal k l d e ms is s h more = (h.0, s, h.2)
sorted_put_at Greater k l d e ms is s h more = (below_put l k d ms (nat_list_cmp_total.antisymm l k ∙ ap ordering_reverse is) h.0, h.1, more)

sorted_put : (k : List ℕ) (d : Data) (ms : Members) → IsSorted d → HasSorted ms → HasSorted (put k d ms)
sorted_put k d no_members s h = (tt, s, tt)
sorted_put k d (member l e ms) s h = sorted_put_at (slice_cmp nat_cmp k l) k l d e ms refl s h (sorted_put k d ms s h.2)

mutual
  sorted_json : (j : json.Json) (d : Data) → of_json j ≡ Some d → IsSorted d
  sorted_json json.null d e = subst IsSorted (some_is null d e) tt
  sorted_json (json.boolean b) d e = subst IsSorted (some_is (boolean b) d e) tt
  sorted_json (json.number s) d e = mapped number (number_of s) d IsSorted (λ n is. tt) e
  sorted_json (json.string s) d e = subst IsSorted (some_is (string s) d e) tt
  sorted_json (json.array js) d e = mapped array (of_items js) d IsSorted (λ ds is. sorted_items js ds is) e
  sorted_json (json.object ms) d e = mapped object (of_members ms no_members) d IsSorted (λ found is. sorted_members ms no_members found tt is) e

  sorted_items : (js : json.Items) (ds : Items) → of_items js ≡ Some ds → AreSorted ds
  sorted_items json.no_items ds e = subst AreSorted (some_is no_items ds e) tt
  sorted_items (json.item j js) ds e =
      chained (of_json j) (λ d. option_map (item d) (of_items js)) ds (AreSorted ds)
      (λ d is rest. mapped (item d) (of_items js) ds AreSorted (λ more are. (sorted_json j d is, sorted_items js more are)) rest) e

  sorted_members : (js : json.Members) (found all : Members) → HasSorted found → of_members js found ≡ Some all → HasSorted all
  sorted_members json.no_members found all h e = subst HasSorted (some_is found all e) h
  sorted_members (json.member k j js) found all h e =
      chained (of_json j) (λ d. of_members js (put k d found)) all (HasSorted all)
      (λ d is rest. sorted_members js (put k d found) all (sorted_put k d found (sorted_json j d is) h) rest) e

sorted_by : (b : Bool) (bytes : List ℕ) (d : Data) → cond b (read bytes) None ≡ Some d → IsSorted d
sorted_by true bytes d e =
    chained (option_and_then (λ p. json.if_last p.0 p.1) (json.value max_depth (tokens bytes))) of_json d (IsSorted d) (λ j is rest. sorted_json j d rest) e
sorted_by false bytes d e = cc

pub tree_is_sorted : (bytes : List ℕ) (d : Data) → tree_of bytes ≡ Some d → IsSorted d
unfolding tree_of
tree_is_sorted bytes d e = sorted_by (is_utf8 bytes) bytes d e

-- ---- members by name

missing : (k : List ℕ) (ms : Members) → IsBelow k ms → get_member k ms ≡ None
missing k no_members b = refl
missing k (member l d ms) b = rw (b.0) (missing k ms b.1)

found_at : (o : Ordering) (k l : List ℕ) (e d : Data) (ms : Members) → slice_cmp nat_cmp k l ≡ o → IsBelow l ms → get_member k ms ≡ Some d
    → match_ordering o (get_member k ms) (Some e) (get_member k ms) ≡ Some d
found_at Less k l e d ms is b h = h
found_at Equal k l e d ms is b h = let none : get_member k ms ≡ None = missing k ms (below_same k l ms is b) in let clash = sym none ∙ h in cc
found_at Greater k l e d ms is b h = h

-- a member behind the first is found as without it
pub found_behind : (k l : List ℕ) (e d : Data) (ms : Members) → IsBelow l ms → get_member k ms ≡ Some d → get_member k (member l e ms) ≡ Some d
found_behind k l e d ms b h = found_at (slice_cmp nat_cmp k l) k l e d ms refl b h

pub found_first : (k : List ℕ) (d : Data) (ms : Members) → get_member k (member k d ms) ≡ Some d
found_first k d ms = let same : slice_cmp nat_cmp k k ≡ Equal = tied_itself nat_list_cmp_total k in rw (same) refl

-- what is found is in order too
abbrev pub OrSorted : Option Data → Type 0
OrSorted None = Unit {0}
OrSorted (Some d) = IsSorted d

or_sorted : (o : Ordering) (r : Option Data) (d : Data) → OrSorted r → IsSorted d → OrSorted (match_ordering o r (Some d) r)
or_sorted Less r d h s = h
or_sorted Equal r d h s = s
or_sorted Greater r d h s = h

sorted_member : (k : List ℕ) (ms : Members) → HasSorted ms → OrSorted (get_member k ms)
sorted_member k no_members h = tt
sorted_member k (member l d ms) h = or_sorted (slice_cmp nat_cmp k l) (get_member k ms) d (sorted_member k ms h.2) h.1

pub sorted_get : (k : List ℕ) (d : Data) → IsSorted d → OrSorted (get k d)
sorted_get k null h = tt
sorted_get k (boolean b) h = tt
sorted_get k (number n) h = tt
sorted_get k (string s) h = tt
sorted_get k (array ds) h = tt
sorted_get k (object ms) h = sorted_member k ms h
