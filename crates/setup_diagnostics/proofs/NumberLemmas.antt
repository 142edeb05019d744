-- A document that is read has only whole numbers: each member of each object is read, and each number that is read is a whole one.
use Rattle.std.proofs.Common.{◌≡◌, ℕ, ◌+◌, List, [], ◌∷◌, Option, Some, None, Bool, true, false, not, ◌||◌, bytes_eq, Result, Ok, refl, sym, ap, ◌∙◌, subst}
use Rattle.std.specs.Prelude.{is_none, is_some, option_map, ℤ, Float}
use Rattle.std.specs.List.{list_all}
use Rattle.std.proofs.lemmas.Bool.{and_parts, or_parts}
use Rattle.std.proofs.lemmas.Slice.Eq.{bytes_eq-Decides}
use Rattle.serde_json.specs.Data.{unsigned, negative, float, Data, null, boolean, number, string, array, object, Items, no_items, item, Members, no_members}
use Rattle.serde_json.specs.Data.{member}
use Rattle.serde_json.specs.Find.{get, get_member, as_bool, as_str, as_array}
use Rattle.serde_json.specs.Written.{has_float, items_have_float, members_have_float}
use Rattle.setup_model.specs.declared.member.Kind.{Kind}
use Rattle.setup_model.specs.declared.member.Kind.TheVariants as kind
use Rattle.setup_model.specs.declared.options.DelayMethod.{DelayMethod}
use Rattle.setup_model.specs.declared.options.InterleaveFactor.{InterleaveFactor}
use Rattle.setup_model.specs.declared.place.Place.{Place}
use Rattle.setup_model.specs.declared.place.Part.{Part}
use Rattle.setup_model.specs.declared.place.Part.TheVariants as part
use Rattle.setup_model.specs.Agreement.{each_from, ok_unless}
use Rattle.setup_model.specs.Fault as fault
use Rattle.setup_model.specs.Fault.{Fault, ShapeFault}
use Rattle.setup_model.specs.Member.{Row}
use Rattle.setup_model.specs.Members as members
use Rattle.setup_model.specs.Members.{item_members}
use Rattle.setup_model.specs.ParsedSetup.{ParsedSetup}
use Rattle.setup_model.specs.Place.{document_place, item_place, options_place}
use Rattle.setup_model.proofs.RefusalLemmas.{first_ok, rest_ok}
use Rattle.setup_reader.specs.Criteria.{has_only_letters, host_letters, service_letters}
use Rattle.setup_reader.specs.JsonTree.{tree_of, is_among, only_members, has_only_members, whole_number, texts_in, texts_of}
use Rattle.setup_reader.specs.Reading.{array_items, items_test, options_test, parsed_setup, part_items, values_of}
use Rattle.setup_reader.specs.Shapes.{has_kind, has_other_kind, has_wrong_kind, is_missing, names, object_fault, shape_test}
use Rattle.setup_reader.specs.Values.{delay_method, interleave_factor}
use Rattle.setup_reader.proofs.ReadLemmas.{linked, next}
use Rattle.setup_reader.proofs.ShapeLemmas.{by_table, is_fit}
use Rattle.setup_diagnostics.specs.Numbers.{has_non_u64, items_have_non_u64, members_have_non_u64}
use Rattle.setup_diagnostics.proofs.KeyLemmas.{IsSorted, AreSorted, HasSorted, OrSorted, found_behind, found_first, sorted_get, tree_is_sorted}

-- ---- members by name

-- a value, where there is one, has only whole numbers
abbrev IsWhole : Option Data → Type 0
IsWhole None = Unit {0}
IsWhole (Some d) = has_non_u64 d ≡ false

abbrev AreWhole : List (List ℕ) → Data → Type 0
AreWhole [] d = Unit {0}
AreWhole (n ∷ ns) d = IsWhole (get n d) × AreWhole ns d

among_by : (b : Bool) (n k : List ℕ) (ns : List (List ℕ)) (d : Data) (ms : Members) → bytes_eq n k ≡ b → IsWhole (get_member n ms)
    → (is_among ns k ≡ true → has_non_u64 d ≡ false) → (b || is_among ns k) ≡ true → get_member k ms ≡ Some d → has_non_u64 d ≡ false
among_by true n k ns d ms is here more among h = subst IsWhole (ap (λ x. get_member x ms) ((bytes_eq-Decides n k).0 is) ∙ h) here
among_by false n k ns d ms is here more among h = more among

among_whole : (names : List (List ℕ)) (k : List ℕ) (d : Data) (ms : Members) → AreWhole names (object ms) → is_among names k ≡ true → get_member k ms ≡ Some d
    → has_non_u64 d ≡ false
among_whole [] k d ms each among h = cc
among_whole (n ∷ ns) k d ms each among h = among_by (bytes_eq n k) n k ns d ms refl each.0 (λ later. among_whole ns k d ms each.1 later h) among h

members_whole : (names : List (List ℕ)) (ms : Members) → HasSorted ms → only_members names ms ≡ true
    → ((k : List ℕ) (d : Data) → is_among names k ≡ true → get_member k ms ≡ Some d → has_non_u64 d ≡ false) → members_have_non_u64 ms ≡ false
members_whole names no_members s only each = refl
members_whole names (member l d ms) s only each =
    let first : has_non_u64 d ≡ false = each l d (and_parts (is_among names l) (only_members names ms) only).0 (found_first l d ms) in
    let rest : members_have_non_u64 ms ≡ false = members_whole names ms s.2 (and_parts (is_among names l) (only_members names ms) only).1
    (λ k e among h. each k e among (found_behind k l d e ms s.0 h)) in
    rw (first, rest) refl

-- an object that has only members of these names, each of them with only whole numbers
object_whole : (names : List (List ℕ)) (d : Data) → IsSorted d → has_only_members names d ≡ true → AreWhole names d → has_non_u64 d ≡ false
object_whole names null s only each = refl
object_whole names (boolean b) s only each = refl
object_whole names (number n) s only each = cc
object_whole names (string t) s only each = refl
object_whole names (array ds) s only each = cc
object_whole names (object ms) s only each = members_whole names ms s only (λ k d among h. among_whole names k d ms each among h)

-- ---- single values

-- what is read of only whole numbers, texts and switches
read_whole : {A : Type 0} (parse : Data → Option A) → ((z : ℤ) → parse (number (negative z)) ≡ None) → ((x : Float) → parse (number (float x)) ≡ None)
    → ((ds : Items) → parse (array ds) ≡ None) → ((ms : Members) → parse (object ms) ≡ None) → (d : Data) (a : A) → parse d ≡ Some a → has_non_u64 d ≡ false
read_whole parse sign point list members null a e = refl
read_whole parse sign point list members (boolean b) a e = refl
read_whole parse sign point list members (number (unsigned n)) a e = refl
read_whole parse sign point list members (number (negative z)) a e = let no : None ≡ Some a = sym (sign z) ∙ e in cc
read_whole parse sign point list members (number (float x)) a e = let no : None ≡ Some a = sym (point x) ∙ e in cc
read_whole parse sign point list members (string s) a e = refl
read_whole parse sign point list members (array ds) a e = let no : None ≡ Some a = sym (list ds) ∙ e in cc
read_whole parse sign point list members (object ms) a e = let no : None ≡ Some a = sym (members ms) ∙ e in cc

whole_whole : (d : Data) (n : ℕ) → whole_number d ≡ Some n → has_non_u64 d ≡ false
whole_whole = read_whole whole_number (λ z. refl) (λ x. refl) (λ ds. refl) (λ ms. refl)

text_whole : (d : Data) (t : List ℕ) → as_str d ≡ Some t → has_non_u64 d ≡ false
text_whole = read_whole as_str (λ z. refl) (λ x. refl) (λ ds. refl) (λ ms. refl)

switch_whole : (d : Data) (b : Bool) → as_bool d ≡ Some b → has_non_u64 d ≡ false
switch_whole = read_whole as_bool (λ z. refl) (λ x. refl) (λ ds. refl) (λ ms. refl)

method_whole : (d : Data) (m : DelayMethod) → delay_method d ≡ Some m → has_non_u64 d ≡ false
method_whole = read_whole delay_method (λ z. refl) (λ x. refl) (λ ds. refl) (λ ms. refl)

factor_whole : (d : Data) (f : InterleaveFactor) → interleave_factor d ≡ Some f → has_non_u64 d ≡ false
factor_whole = read_whole interleave_factor (λ z. refl) (λ x. refl) (λ ds. refl) (λ ms. refl)

texts_whole : (ds : Items) (ts : List (List ℕ)) → texts_of ds ≡ Some ts → items_have_non_u64 ds ≡ false
texts_whole no_items ts e = refl
texts_whole (item d ds) ts e =
    linked (as_str d) _ ts (items_have_non_u64 (item d ds) ≡ false)
    (λ t is rest. linked (texts_of ds) _ ts (items_have_non_u64 (item d ds) ≡ false)
    (λ more are last. let one : has_non_u64 d ≡ false = text_whole d t is in let others : items_have_non_u64 ds ≡ false = texts_whole ds more are in rw (one, others) refl)
    rest) e

array_whole : (d : Data) (ts : List (List ℕ)) → texts_in d ≡ Some ts → has_non_u64 d ≡ false
array_whole null ts e = refl
array_whole (boolean b) ts e = refl
array_whole (number n) ts e = cc
array_whole (string s) ts e = refl
array_whole (array ds) ts e = texts_whole ds ts e
array_whole (object ms) ts e = cc

-- ---- objects in the right shape

-- whether a member is a part of the document
abbrev is_part : Kind → Bool
is_part (kind.Part p) = true
is_part other = false

-- none of the members is one
abbrev HasNoPart : List Row → Type 0
HasNoPart ms = list_all (λ m. not (is_part m.kind)) ms ≡ true

kept : (b : Bool) → not b ≡ false → b ≡ true
kept true e = refl
kept false e = cc

dropped : (b : Bool) → not b ≡ true → b ≡ false
dropped true e = cc
dropped false e = refl

read_by : {A : Type 0} (o : Option A) (P : Type 0) → ((x : A) → o ≡ Some x → P) → is_some o ≡ true → P
read_by None P h e = cc
read_by (Some x) P h e = h x refl

letters_whole : (letters : List (List ℕ)) (d : Data) → has_only_letters letters (as_str d) ≡ true → has_non_u64 d ≡ false
letters_whole letters null e = refl
letters_whole letters (boolean b) e = refl
letters_whole letters (number n) e = cc
letters_whole letters (string s) e = refl
letters_whole letters (array ds) e = cc
letters_whole letters (object ms) e = cc

kind_whole : (k : Kind) (d : Data) → is_part k ≡ false → has_kind k d ≡ true → has_non_u64 d ≡ false
kind_whole (kind.Part p) d other e = cc
kind_whole kind.Text d other e = read_by (as_str d) _ (text_whole d) e
kind_whole kind.Texts d other e = read_by (texts_in d) _ (array_whole d) e
kind_whole kind.Switch d other e = read_by (as_bool d) _ (switch_whole d) e
kind_whole (kind.Number low high) d other e = read_by (whole_number d) _ (whole_whole d) e
kind_whole kind.Delay d other e = read_by (delay_method d) _ (method_whole d) e
kind_whole kind.Factor d other e = read_by (interleave_factor d) _ (factor_whole d) e
kind_whole kind.ServiceLetters d other e = letters_whole service_letters d e
kind_whole kind.HostLetters d other e = letters_whole host_letters d e

value_whole : (k : Kind) (o : Option Data) → is_part k ≡ false → has_other_kind k o ≡ false → IsWhole o
value_whole k None other e = tt
value_whole k (Some d) other e = kind_whole k d other (kept (has_kind k d) e)

fits_whole : (ms : List Row) (d : Data) → HasNoPart ms → list_all (is_fit d) ms ≡ true → AreWhole (names ms) d
fits_whole [] d none fit = tt
fits_whole (m ∷ ms) d none fit =
    let others = and_parts (not (is_part m.kind)) (list_all (λ x. not (is_part x.kind)) ms) none in
    let all = and_parts (is_fit d m) (list_all (is_fit d) ms) fit in
    let one = and_parts (not (is_missing d m)) (not (has_wrong_kind d m)) all.0 in
    (value_whole m.kind (get m.name d) (dropped (is_part m.kind) others.0) (dropped (has_wrong_kind d m) one.1), fits_whole ms d others.1 all.1)

-- an object that passes the test has known members only, and each is fit
passed_by : {E : Type 0} (fault : ShapeFault → E) (o : Option ShapeFault) → ok_unless (option_map fault o) ≡ Ok tt → is_none o ≡ true
passed_by fault None e = refl
passed_by fault (Some w) e = cc

shaped : (place : Place) (ms : List Row) (d : Data) → shape_test place ms d ≡ Ok tt
    → (has_only_members (names ms) d ≡ true) × (list_all (is_fit d) ms ≡ true)
shaped place ms d e =
    and_parts (has_only_members (names ms) d) (list_all (is_fit d) ms) (sym (by_table ms d) ∙ passed_by (fault.shape place) (object_fault ms d) e)

shaped_whole : (place : Place) (ms : List Row) (d : Data) → HasNoPart ms → IsSorted d → shape_test place ms d ≡ Ok tt → has_non_u64 d ≡ false
shaped_whole place ms d none s e =
    let fit = shaped place ms d e in
    object_whole (names ms) d s fit.0 (fits_whole ms d none fit.1)

-- ---- the parts of the document

options_whole : (o : Option Data) → OrSorted o → options_test o ≡ Ok tt → IsWhole o
options_whole None s e = tt
options_whole (Some d) s e = shaped_whole options_place members.option_members d refl s e

module _ (p : Part) (none : HasNoPart (item_members p)) where
  items_whole : (i : ℕ) (ds : Items) → AreSorted ds → each_from (λ k d. shape_test (item_place p k) (item_members p) d) i (values_of ds) ≡ Ok tt
      → items_have_non_u64 ds ≡ false
  items_whole i no_items s e = refl
  items_whole i (item d ds) s e =
      let test = shape_test (item_place p i) (item_members p) d in
      let rest : Unit {0} → Result (Unit {0}) Fault = λ _. each_from (λ k x. shape_test (item_place p k) (item_members p) x) (i + 1) (values_of ds) in
      let one : has_non_u64 d ≡ false = shaped_whole (item_place p i) (item_members p) d none s.0 (first_ok test rest tt e) in
      let others : items_have_non_u64 ds ≡ false = items_whole (i + 1) ds s.1 (rest_ok test rest tt e) in
      rw (one, others) refl

  array_part_whole : (d : Data) (values : List Data) → IsSorted d → array_items p (as_array d) ≡ Ok values → has_non_u64 d ≡ false
  array_part_whole null values s e = refl
  array_part_whole (boolean b) values s e = refl
  array_part_whole (number n) values s e = cc
  array_part_whole (string t) values s e = refl
  array_part_whole (array ds) values s e =
      items_whole 0 ds s (first_ok (items_test p (item_members p) (values_of ds)) (λ _. Ok (values_of ds)) values e)
  array_part_whole (object ms) values s e = cc

  part_whole : (o : Option Data) (values : List Data) → OrSorted o → part_items p o ≡ Ok values → IsWhole o
  part_whole None values s e = tt
  part_whole (Some d) values s e = array_part_whole d values s e

-- ---- documents

parsed_whole : (d : Data) (parsed : ParsedSetup) → IsSorted d → parsed_setup d ≡ Ok parsed → has_non_u64 d ≡ false
unfolding parsed_setup
parsed_whole d parsed s e =
    let Goal = has_non_u64 d ≡ false in
    next (shape_test document_place members.document_members d) _ parsed Goal (λ _ known r.
    next (options_test (get members.options.name d)) _ parsed Goal (λ _ tested ro.
    next (part_items part.Hosts (get members.hosts.name d)) _ parsed Goal (λ hosts hh rh.
    next (part_items part.Services (get members.services.name d)) _ parsed Goal (λ services hs rs.
    next (part_items part.ServiceDependencies (get members.service_dependencies.name d)) _ parsed Goal (λ between hb rb.
    next (part_items part.HostDependencies (get members.host_dependencies.name d)) _ parsed Goal (λ among ha ra.
    object_whole (names members.document_members) d s (shaped document_place members.document_members d known).0 (
      options_whole (get members.options.name d) (sorted_get members.options.name d s) tested,
      (
        part_whole part.Hosts refl (get members.hosts.name d) hosts (sorted_get members.hosts.name d s) hh,
        (
          part_whole part.Services refl (get members.services.name d) services (sorted_get members.services.name d s) hs,
          (
            part_whole part.ServiceDependencies refl (get members.service_dependencies.name d) between (sorted_get members.service_dependencies.name d s) hb,
            (part_whole part.HostDependencies refl (get members.host_dependencies.name d) among (sorted_get members.host_dependencies.name d s) ha, tt),
          ),
        ),
      ),
    ))
    rb) rs) rh) ro) r) e

-- each number in a document that is read is a whole one
pub whole_numbers : (document : List ℕ) (d : Data) (parsed : ParsedSetup) → tree_of document ≡ Some d → parsed_setup d ≡ Ok parsed → has_non_u64 d ≡ false
whole_numbers document d parsed is read = parsed_whole d parsed (tree_is_sorted document d is) read

-- ---- floats

-- where each number is a whole one, there is no float
mutual
  pub no_float : (d : Data) → has_non_u64 d ≡ false → has_float d ≡ false
  no_float null e = refl
  no_float (boolean b) e = refl
  no_float (number (unsigned n)) e = refl
  no_float (number (negative z)) e = refl
  no_float (number (float x)) e = cc
  no_float (string s) e = refl
  no_float (array ds) e = no_float_items ds e
  no_float (object ms) e = no_float_members ms e

  no_float_items : (ds : Items) → items_have_non_u64 ds ≡ false → items_have_float ds ≡ false
  no_float_items no_items e = refl
  no_float_items (item d ds) e =
      let one : has_float d ≡ false = no_float d (or_parts (has_non_u64 d) (items_have_non_u64 ds) e).0 in
      let others : items_have_float ds ≡ false = no_float_items ds (or_parts (has_non_u64 d) (items_have_non_u64 ds) e).1 in
      rw (one, others) refl

  no_float_members : (ms : Members) → members_have_non_u64 ms ≡ false → members_have_float ms ≡ false
  no_float_members no_members e = refl
  no_float_members (member k d ms) e =
      let one : has_float d ≡ false = no_float d (or_parts (has_non_u64 d) (members_have_non_u64 ms) e).0 in
      let others : members_have_float ms ≡ false = no_float_members ms (or_parts (has_non_u64 d) (members_have_non_u64 ms) e).1 in
      rw (one, others) refl
