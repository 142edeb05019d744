-- Parents counted, the first key that stood before, and sets of texts.
use Rattle.std.proofs.Common.{◌≡◌, ℕ, Bor, bytes_eq, ◌||◌, ◌+◌, ◌<◌, ◌≤◌, not, Bool, true, false, cond, List, [], ◌∷◌, ◌++◌, map, length, drop, get_or}
use Rattle.std.proofs.Common.{option_map}
use Rattle.std.proofs.Common.{Option, Some, refl, sym, ap, ◌∙◌, Ok, Err, append_assoc, arith}
use Rattle.std.specs.Prelude.{nat_lt, option_and_then, slice_get, sum_by, unwrap_or}
use Rattle.std.specs.List.{list_any, position, position_or_len}
use Rattle.std.proofs.lemmas.Bool.Decides.{nat_tests}
use Rattle.std.proofs.lemmas.Grind.{common_steps}
use Rattle.std.proofs.lemmas.List.{map-append}
use Rattle.setup_model.specs.declared.parsed_setup.ParsedHost.{ParsedHost}
use Rattle.setup_model.specs.declared.fault.End.TheVariants as end
use Rattle.setup_model.specs.declared.fault.EndFault.TheVariants as wrong
use Rattle.setup_model.specs.Agreement.{◌>>=◌, each, with_error, error_at}
use Rattle.setup_model.specs.declared.place.Place.{Place}
use Rattle.setup_model.specs.Ends.{is_known, dependency_test, dependencies_test, dependency_list_test}
use Rattle.setup_model.specs.Keys.{first_equal_index}
use Rattle.setup_model.specs.declared.place.Part.TheVariants as part
use Rattle.setup_model.specs.declared.place.Part.{Part}
use Rattle.setup_model.specs.ParsedSetup as spec
use Rattle.setup_model.specs.Fault as fault
use Rattle.setup_model.specs.Place.{item_place}
use Rattle.std.proofs.lemmas.List.Folds.{list_any-append}
use Rattle.std.proofs.lemmas.Slice.Eq.{bytes_eq-Decides}
use Rattle.setup_model.specs.ParsedViews.{host, texts}
use Rattle.setup_model.proofs.ListLemmas.{list_any-map, one_found, one_missed, position-back, position-front, position-map}
use Rattle.setup_model.proofs.RepeatLemmas.{repeat_after}
use Rattle.setup_reader.specs.Verification.{u64_or_max}

-- ---- parents counted

abbrev pub parents_from : ℕ → List ParsedHost → ℕ
parents_from i hs = sum_by (λ h. length h.parents) (map host (drop i hs))

word_by : (b : Bool) (n r : ℕ) → nat_lt n 18446744073709551615 ≡ b → (n < 18446744073709551615 → r ≡ n) → (18446744073709551615 ≤ n → r ≡ 18446744073709551615)
    → r ≡ cond b n 18446744073709551615
word_by true n r e below above = below (grind (arith, nat_tests, e))
word_by false n r e below above = above (grind (arith, nat_tests, e))

pub word_is : (n r : ℕ) → (n < 18446744073709551615 → r ≡ n) → (18446744073709551615 ≤ n → r ≡ 18446744073709551615) → r ≡ u64_or_max n
word_is n r below above = word_by (nat_lt n 18446744073709551615) n r refl below above

few_by : (b : Bool) (n most : ℕ) → nat_lt n 18446744073709551615 ≡ b → most < 18446744073709551615 → cond b n 18446744073709551615 ≤ most → n ≤ most
few_by true n most e small h = h
few_by false n most e small h = omega (arith, small, h)

-- a count that is at most so many, as far as 64 bits count, is
pub few_in_word : (n most : ℕ) → most < 18446744073709551615 → u64_or_max n ≤ most → n ≤ most
few_in_word n most small h = few_by (nat_lt n 18446744073709551615) n most refl small h

-- ---- keys one after another: D are items of the code, K what its set holds of them, and L how the definitions see that

module _ {D K L : Type 0} (same : L → L → Bool) (seen : K → L) (keys : List D → List L) (key : D → K)
    (one : (d : D) (ds : List D) → keys (d ∷ ds) ≡ seen (key d) ∷ keys ds) where
  was_seen : (ks : List K) (d : D) (b : Bool) → list_any (λ k. same (seen (key d)) (seen k)) ks ≡ b → list_any (same (seen (key d))) (map seen ks) ≡ b
  was_seen ks d b e = list_any-map (same (seen (key d))) seen ks ∙ e

  first_dropped : (ds : List D) (i : ℕ) (d : D) → drop i ds ≡ d ∷ drop (i + 1) ds → keys (drop i ds) ≡ seen (key d) ∷ keys (drop (i + 1) ds)
  first_dropped ds i d e = ap keys e ∙ one d (drop (i + 1) ds)

  pub repeat_here : (ks : List K) (ds : List D) (i : ℕ) (d : D) → drop i ds ≡ d ∷ drop (i + 1) ds → list_any (λ k. same (seen (key d)) (seen k)) ks ≡ true
      → repeat_after same (map seen ks) i (keys (drop i ds)) ≡ Some i
  repeat_here ks ds i d e known = rw (first_dropped ds i d e, was_seen ks d true known) refl

  pub repeat_later : (ks more : List K) (ds : List D) (i : ℕ) (d : D) → drop i ds ≡ d ∷ drop (i + 1) ds
      → list_any (λ k. same (seen (key d)) (seen k)) ks ≡ false → more ≡ ks ++ key d ∷ []
      → repeat_after same (map seen ks) i (keys (drop i ds)) ≡ repeat_after same (map seen more) (i + 1) (keys (drop (i + 1) ds))
  repeat_later ks more ds i d e new longer =
      let m : map seen more ≡ map seen ks ++ seen (key d) ∷ [] = ap (map seen) longer ∙ map-append seen ks (key d ∷ []) in
      rw (first_dropped ds i d e, was_seen ks d false new, m) refl

  -- the keys so far and those to come
  pub keys_later : (ks more : List K) (ds : List D) (i : ℕ) (d : D) → drop i ds ≡ d ∷ drop (i + 1) ds → more ≡ ks ++ key d ∷ []
      → map seen ks ++ keys (drop i ds) ≡ map seen more ++ keys (drop (i + 1) ds)
  keys_later ks more ds i d e longer =
      let m : map seen more ≡ map seen ks ++ seen (key d) ∷ [] = ap (map seen) longer ∙ map-append seen ks (key d ∷ []) in
      rw (first_dropped ds i d e, m) (sym (append_assoc (map seen ks) (seen (key d) ∷ []) (keys (drop (i + 1) ds))))

pub was_known : (b k : Bool) → b ≡ not k → b ≡ false → k ≡ true
was_known b true e f = refl
was_known b false e f = cc

pub was_new : (b k : Bool) → b ≡ not k → b ≡ true → k ≡ false
was_new b true e f = cc
was_new b false e f = refl

-- ---- sets of texts

known_push : (before : List (List ℕ)) (t name : List ℕ) → is_known (before ++ t ∷ []) name ≡ (is_known before name || (bytes_eq name t || false))
known_push before t name = list_any-append (bytes_eq name) before (t ∷ [])

or_same : (a b : Bool) → (b ≡ true → a ≡ true) → a ≡ (a || (b || false))
or_same true b h = refl
or_same false true h = h refl
or_same false false h = refl

-- a text is known among the keys with one more where it was before, or is that one
pub known_more : (keys new : List (Bor (List ℕ))) (key : Bor (List ℕ)) (before : List (List ℕ)) (t : List ℕ) (b : Bool) → key.now ≡ t
    → list_any (λ n. bytes_eq key.now n.now) keys ≡ b → new ≡ cond b keys (keys ++ key ∷ [])
    → ((name : List ℕ) → is_known (texts keys) name ≡ is_known before name) → (name : List ℕ) → is_known (texts new) name ≡ is_known (before ++ t ∷ []) name
known_more keys new key before t true same known is agree name =
    let there : is_known before t ≡ true = sym (agree t) ∙ list_any-map (bytes_eq t)
    (λ n. n.now) keys ∙ ap (λ x. list_any (λ n. bytes_eq x n.now) keys) (sym same) ∙ known in
    ap (λ ks. is_known (texts ks) name) is ∙ agree name ∙ or_same (is_known before name) (bytes_eq name t)
    (λ e. ap (is_known before) ((bytes_eq-Decides name t).0 e) ∙ there) ∙ sym (known_push before t name)
known_more keys new key before t false same known is agree name =
    ap (λ ks. is_known (texts ks) name) is ∙ ap (λ l. is_known l name) (map-append (λ n. n.now) keys (key ∷ []))
    ∙ known_push (texts keys) key.now name ∙ ap (λ b. b || (bytes_eq name key.now || false)) (agree name)
    ∙ ap (λ x. is_known before name || (bytes_eq name x || false)) same ∙ sym (known_push before t name)

-- the same dependencies have the same faults, where the same texts are known
pub same_ends : (p : Part) (names others more less : List (List ℕ)) (ds : List spec.ParsedDependency)
    → ((name : List ℕ) → is_known names name ≡ is_known others name) → ((name : List ℕ) → is_known more name ≡ is_known less name)
    → dependency_list_test p names more ds ≡ dependency_list_test p others less ds
same_ends p names others more less ds same alike =
    let test : dependency_test p names more ≡ dependency_test p others less = λ j i d. with_error (fault.unknown_end (item_place p i))
    (cond (same d.dependent j) (Ok tt) (Err (cond (alike d.dependent j) (wrong.OtherSort end.Dependent) (wrong.Unknown end.Dependent))) >>= λ _.
    cond (same d.master j) (Ok tt) (Err (cond (alike d.master j) (wrong.OtherSort end.Master) (wrong.Unknown end.Master)))) in
    ap (λ t. each t ds) test

-- all dependencies have the same faults, where the same full names are known
pub same_dependencies : (services others hosts : List (List ℕ)) (ds : spec.ParsedSetup) → ((name : List ℕ) → is_known services name ≡ is_known others name)
    → dependencies_test services hosts ds ≡ dependencies_test others hosts ds
same_dependencies services others hosts ds same =
    let first = same_ends part.ServiceDependencies services others hosts hosts ds.service_dependencies same (λ name. refl) in
    let then = same_ends part.HostDependencies hosts hosts services others ds.host_dependencies (λ name. refl) same in
    λ i. first i >>= λ _. then i

-- ---- the first key that is like another

found_here : {A : Type 0} (p : A → Bool) (x : A) (xs : List A) (n : ℕ) (b : Bool) → p x ≡ b → (b || list_any p xs) ≡ true → n ≡ position_or_len p (x ∷ xs)
    → (list_any p xs ≡ true → position p xs ≡ Some (position_or_len p xs)) → position p (x ∷ xs) ≡ Some n
found_here p x xs n true here any is later =
    let zero_is : position_or_len p (x ∷ xs) ≡ 0 = rw here refl in
    position-front p (x ∷ []) xs 0 (one_found p x here) ∙ ap Some (sym (is ∙ zero_is))
found_here p x xs n false here any is later =
    let one_is : position_or_len p (x ∷ xs) ≡ 1 + position_or_len p xs = rw here refl in
    position-back p (x ∷ []) xs (one_missed p x here) ∙ ap (option_map (λ j. 1 + j)) (later any) ∙ ap Some (sym (is ∙ one_is))

found_by : {A : Type 0} (p : A → Bool) (xs : List A) (n : ℕ) → list_any p xs ≡ true → n ≡ position_or_len p xs → position p xs ≡ Some n
found_by p [] n any is = cc
found_by p (x ∷ xs) n any is = found_here p x xs n (p x) refl any is (λ more. found_by p xs (position_or_len p xs) more refl)

pub like_the_first : {K L : Type 0} (same : L → L → Bool) (seen : K → L) (all : List L) (ks : List K) (more : List L) (i first : ℕ) (key : L)
    → all ≡ map seen ks ++ more → slice_get all i ≡ Some key → list_any (λ k. same key (seen k)) ks ≡ true → first ≡ position_or_len (λ k. same key (seen k)) ks
    → first_equal_index same all i ≡ first
like_the_first same seen all ks more i first key parts at known is =
    let place : position (same key) all ≡ Some first = ap (position (same key)) parts
    ∙ position-front (same key) (map seen ks) more first (position-map (same key) seen ks ∙ found_by (λ k. same key (seen k)) ks first known is) in
    ap (λ o. unwrap_or (option_and_then (λ k. position (same k) all) o) i) at ∙ ap (λ o. unwrap_or o i) place

-- a repeat is told at its place, with the first item that is like it
pub repeated_at : (place : ℕ → Place) (like : ℕ → ℕ) (o : Option ℕ) (i : ℕ) (p : Place) (first : ℕ) → o ≡ Some i → p ≡ place i → like i ≡ first
    → error_at (λ j. fault.duplicate (place j) (like j)) o ≡ Err (fault.duplicate p first)
repeated_at place like o i p first at here is =
    ap (error_at (λ j. fault.duplicate (place j) (like j))) at ∙ (λ k. Err (fault.duplicate (sym here k) (is k)))

-- ---- items past an end

pub get_or_same : {A : Type 0} (xs : List A) (i : ℕ) (d e : A) → i < length xs → get_or xs i d ≡ get_or xs i e
get_or_same xs i d e below = grind (arith, common_steps)
