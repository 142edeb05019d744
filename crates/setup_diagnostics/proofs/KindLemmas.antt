-- In an object without a fault by the table of members each member has its kind, so that its value is what is read.
use Rattle.std.proofs.Common.{◌≡◌, ℕ, zero, suc, ◌&&◌, not, Bool, true, false, List, [], ◌∷◌, Option, Some, None, refl, sym, ap, ◌∙◌, subst}
use Rattle.std.specs.Prelude.{is_none, is_some, option_and_then, slice_get, unwrap_or}
use Rattle.std.specs.List.{list_all}
use Rattle.std.proofs.lemmas.Bool.{and_parts}
use Rattle.serde_json.specs.Data.{Data}
use Rattle.serde_json.specs.Find.{as_bool, as_str, get}
use Rattle.setup_model.specs.declared.member.Kind.{Kind}
use Rattle.setup_model.specs.declared.member.Kind.TheVariants as kind
use Rattle.setup_model.specs.Member.{Row, default_number, default_switch, is_required}
use Rattle.setup_model.specs.declared.options.DelayMethod.TheVariants as method
use Rattle.setup_model.specs.declared.options.InterleaveFactor.TheVariants as factor
use Rattle.setup_reader.specs.Criteria.{has_only_letters, host_letters, service_letters}
use Rattle.setup_reader.specs.JsonTree.{has_only_members, parsed_or, text_at, texts_in, whole_number, ◌>=>◌}
use Rattle.setup_reader.specs.Values.{delay_method, interleave_factor}
use Rattle.setup_reader.specs.Shapes.{has_kind, has_other_kind, has_wrong_kind, is_missing, names, object_fault}
use Rattle.setup_reader.proofs.ShapeLemmas.{by_table, is_fit}
use Rattle.setup_diagnostics.specs.Kinds.{IsReadAs}

holds_at : {A : Type 0} (test : A → Bool) (xs : List A) (i : ℕ) (x : A) → list_all test xs ≡ true → slice_get xs i ≡ Some x → test x ≡ true
holds_at test [] i x all at = cc
holds_at test (y ∷ ys) zero x all at = let same : y ≡ x = cc in subst (λ z. test z ≡ true) same (and_parts (test y) (list_all test ys) all).0
holds_at test (y ∷ ys) (suc i) x all at = holds_at test ys i x (and_parts (test y) (list_all test ys) all).1 at

fit_at : (ms : List Row) (d : Data) (i : ℕ) (m : Row) → object_fault ms d ≡ None → slice_get ms i ≡ Some m → is_fit d m ≡ true
fit_at ms d i m free at =
    holds_at (is_fit d) ms i m (and_parts (has_only_members (names ms) d) (list_all (is_fit d) ms) (sym (by_table ms d) ∙ ap is_none free)).1 at

there_by : (r : Bool) (o : Option Data) → not (r && is_none o) ≡ true → r ≡ true → is_some o ≡ true
there_by true None e h = cc
there_by false None e h = cc
there_by r (Some v) e h = refl

pub required_is_there : (ms : List Row) (d : Data) (i : ℕ) (m : Row) → object_fault ms d ≡ None → slice_get ms i ≡ Some m → is_required m ≡ true
    → is_some (get m.name d) ≡ true
required_is_there ms d i m free at wanted =
    there_by (is_required m) (get m.name d) (and_parts (not (is_missing d m)) (not (has_wrong_kind d m)) (fit_at ms d i m free at)).0 wanted

twice : (b : Bool) → not (not b) ≡ true → b ≡ true
twice true e = refl
twice false e = cc

-- a member that is there is of its kind
of_kind : (ms : List Row) (d value : Data) (i : ℕ) (m : Row) → object_fault ms d ≡ None → slice_get ms i ≡ Some m → get m.name d ≡ Some value
    → has_kind m.kind value ≡ true
of_kind ms d value i m free at there =
    let fits = (and_parts (not (is_missing d m)) (not (has_wrong_kind d m)) (fit_at ms d i m free at)).1 in
    twice (has_kind m.kind value) (sym (ap (λ o. not (has_other_kind m.kind o)) there) ∙ fits)

given : {A : Type 0} (o : Option A) (default : A) → is_some o ≡ true → o ≡ Some (unwrap_or o default)
given None default e = cc
given (Some x) default e = refl

text_there : (letters : List (List ℕ)) (o : Option (List ℕ)) → has_only_letters letters o ≡ true → is_some o ≡ true
text_there letters None e = cc
text_there letters (Some text) e = refl

-- what is read of a member is what its reader gives for its value
text_read : (m : Row) (d value : Data) → is_some (as_str value) ≡ true → get m.name d ≡ Some value → as_str value ≡ Some (text_at m.name d)
text_read m d value e there = given (as_str value) [] e ∙ sym (ap (λ o. Some (unwrap_or (option_and_then as_str o) [])) there)

read_by : (k : Kind) (m : Row) (d value : Data) → has_kind k value ≡ true → get m.name d ≡ Some value → IsReadAs k m d value
read_by (kind.Part p) m d value e there = tt
read_by kind.Text m d value e there = text_read m d value e there
read_by kind.Texts m d value e there = given (texts_in value) [] e ∙ sym (ap (λ o. Some (unwrap_or (option_and_then texts_in o) [])) there)
read_by kind.Switch m d value e there = given (as_bool value) false e ∙ sym (ap (λ o. Some (unwrap_or (parsed_or as_bool (default_switch m) o) false)) there)
read_by (kind.Number low high) m d value e there =
    given (whole_number value) 0 e ∙ sym (ap (λ o. Some (unwrap_or (parsed_or whole_number (default_number m) o) 0)) there)
read_by kind.Delay m d value e there =
    given (delay_method value) method.Smart e ∙ sym (ap (λ o. Some (unwrap_or (o >=> delay_method) method.Smart)) there)
read_by kind.Factor m d value e there =
    given (interleave_factor value) factor.Smart e ∙ sym (ap (λ o. Some (unwrap_or (o >=> interleave_factor) factor.Smart)) there)
read_by kind.ServiceLetters m d value e there = text_read m d value (text_there service_letters (as_str value) e) there
read_by kind.HostLetters m d value e there = text_read m d value (text_there host_letters (as_str value) e) there

pub member_read : (ms : List Row) (d value : Data) (i : ℕ) (m : Row) → object_fault ms d ≡ None → slice_get ms i ≡ Some m → get m.name d ≡ Some value
    → IsReadAs m.kind m d value
member_read ms d value i m free at there = read_by m.kind m d value (of_kind ms d value i m free at there) there
