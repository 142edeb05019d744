-- The members of a drill's commands, and what the commands say together.
use Rattle.std.proofs.Common.{◌≡◌, ℕ, suc, zero, ◌+◌, ◌≤◌, ◌<◌, ◌==◌, Bool, true, false, cond, ◌&&◌}
use Rattle.std.proofs.Common.{List, [], ◌∷◌, ◌++◌, length, map, replicate, Option, Some, None, get_or, append-nil}
use Rattle.std.proofs.Common.{refl, sym, ◌∙◌, ap, inl, inr, arith, Result, Ok, Err}
use Rattle.std.specs.Prelude.{nat_lt, unwrap_or, filter_map}
use Rattle.std.specs.List.{last_or, range_with_len, cons_option}
use Rattle.std.proofs.Math.ListN.{set}
use Rattle.std.proofs.lemmas.List.{ext_get_or, get_or-set_same, get_or-set_other, length-set}
use Rattle.std.proofs.lemmas.List.Elements.{filter_map-append}
use Rattle.std.proofs.lemmas.List.FromFn.{get_or-map-range_with_len, length-map-range_with_len}
use Rattle.std.proofs.lemmas.Bool.{cases_eq, eq-eqb, ne_eqb}
use Rattle.serde_json.specs.View.{items_view, view}
use Rattle.serde_json.specs.declared.value.Value.{Value}
use Rattle.check_objects.specs.Configuration.{Configuration, object_count}
use Rattle.check_states.specs.declared.state.Code.{Code}
use Rattle.nagsched_protocol.specs.Command.{value_count}
use Rattle.nagsched_protocol.specs.DrillCommand.{Command, PluginOf, MomentAt, drill_command_by, first_and_more, plugin_command, plugin_of}
use Rattle.nagsched_protocol.specs.DrillCommanded.{drill_command}
use Rattle.nagsched_protocol.specs.DrillScript.{DrillScript, drill_over, drill_script_of, returns_after, moment_of, moments_in}
use Rattle.nagsched_protocol.specs.DrillScript.{returns_below, returns_by, returns_of}
use Rattle.setup_model.specs.Agreement.{◌>>=◌}
use Rattle.nagsched_protocol.specs.Input.{first_line_of, lines_of}
use Rattle.nagsched_protocol.specs.LiveInput.{rest_after_line}
use Rattle.nagsched_protocol.specs.Script.{commands_of_lines, with_setup_refusal}
use Rattle.nagsched_protocol.specs.declared.refusal.LineFault.TheVariants as fault
use Rattle.nagsched_protocol.specs.declared.refusal.LineShape.TheVariants as shape
use borrow.Author.Tests.{ltb-false}
use Rattle.check_objects.specs.Setup.{setup_of}
use Rattle.nagsched_protocol.proofs.InputLemmas.{behind_fewer}
use Rattle.nagsched_protocol.specs.declared.drill_command.DrillCommand.{DrillCommand}
use Rattle.nagsched_protocol.specs.declared.script.TheConstants.{MAX_INPUT_BYTES}
use Rattle.nagsched_protocol.specs.declared.refusal.InputRefusal.{InputRefusal}
use Rattle.nagsched_protocol.specs.declared.refusal.InputRefusal.TheVariants as refusal
use Rattle.nagsched_protocol.proofs.ScriptLemmas.{few_behind}

-- ---- values

-- too few values for a plugin
few_found : (vs : List Value) → length vs < 2 → first_and_more (items_view vs) ≡ None
few_found [] h = refl
few_found (v ∷ []) h = refl
few_found (v ∷ w ∷ vs) h = absurd (omega arith)

pub few_values : (c : Configuration) (vs : List Value) → length vs < 2
    → plugin_command c (items_view vs) ≡ Err (fault.Shape (shape.TooFew (value_count (items_view vs)) 2))
few_values c vs h = rw (few_found vs h) refl

-- enough of them
pub plugin_values : (c : Configuration) (vs rest : List Value) (v : Value) → vs ≡ v ∷ rest → 1 ≤ length rest
    → plugin_command c (items_view vs) ≡ plugin_of c (view v) (items_view rest)
plugin_values c vs [] v e h = absurd (omega arith)
plugin_values c vs (w ∷ rest) v e h = rw e refl

-- ---- moments

filter_map-map : {A B C : Type 0} (h : B → Option C) (v : A → B) (xs : List A) → filter_map (λ x. h (v x)) xs ≡ filter_map h (map v xs)
filter_map-map h v [] = refl
filter_map-map h v (x ∷ xs) = ap (cons_option (h (v x))) (filter_map-map h v xs)

pub moments_seen : (commands : List DrillCommand) → filter_map (λ c. moment_of (drill_command c)) commands ≡ moments_in (map drill_command commands)
moments_seen commands = filter_map-map moment_of drill_command commands

length-cons_moment : (o : Option ℕ) (xs : List ℕ) (n : ℕ) → length xs ≤ n → length (cons_option o xs) ≤ suc n
length-cons_moment None xs n h = omega (arith, h)
length-cons_moment (Some x) xs n h = omega (arith, h)

length-moments_in : (commands : List Command) → length (moments_in commands) ≤ length commands
length-moments_in [] = omega arith
length-moments_in (c ∷ commands) = length-cons_moment (moment_of c) (moments_in commands) (length commands) (length-moments_in commands)

few_over_by : (c : Configuration) (all : Result (List Command) InputRefusal) (s : DrillScript) (n : ℕ) → ((l : List Command) → all ≡ Ok l → length l ≤ n)
    → (all >>= λ l. Ok (drill_over c l)) ≡ Ok s → length s.moments ≤ n
few_over_by c (Ok l) s n h e = let k : drill_over c l ≡ s = cc in rw (← k) (omega (arith, length-moments_in l, h l refl))
few_over_by c (Err r) s n h e = cc

few_by_setup : (setup : Result Configuration InputRefusal) (bytes : List ℕ) (s : DrillScript)
    → (setup >>= λ c. (commands_of_lines 2 (drill_command_by c) (lines_of bytes) >>= λ all. Ok (drill_over c all))) ≡ Ok s
    → length s.moments ≤ length bytes
few_by_setup (Ok c) bytes s e =
    few_over_by c (commands_of_lines 2 (drill_command_by c) (lines_of bytes)) s (length bytes) (few_behind (drill_command_by c) 2 bytes) e
few_by_setup (Err r) bytes s e = cc

few_by_length : (long : Bool) (input : List ℕ) (r : Result DrillScript InputRefusal) (s : DrillScript)
    → nat_lt MAX_INPUT_BYTES (length input) ≡ long → (r ≡ Ok s → length s.moments ≤ length input)
    → cond long (Err (refusal.Line fault.TooLong 0)) r ≡ Ok s → length s.moments ≤ MAX_INPUT_BYTES
few_by_length true input r s l h e = cc
few_by_length false input r s l h e = let bounded : length input ≤ MAX_INPUT_BYTES = ltb-false _ _ l in omega (arith, bounded, h e)

-- a script has no more moments than an input may have bytes
pub few_moments : (input : List ℕ) (s : DrillScript) → drill_script_of input ≡ Ok s → length s.moments ≤ MAX_INPUT_BYTES
unfolding drill_script_of
few_moments input s e =
    few_by_length (nat_lt MAX_INPUT_BYTES (length input)) input _ s refl
    (λ h. let bounded = few_by_setup (with_setup_refusal (setup_of (first_line_of input))) (rest_after_line input) s h in omega (arith, bounded, behind_fewer input)) e

-- ---- return codes

last_or-more : {A : Type 0} (o : Option A) (xs : List A) (x : A) → last_or o (xs ++ x ∷ []) ≡ Some x
last_or-more o [] x = refl
last_or-more o (y ∷ xs) x = last_or-more (Some y) xs x

-- what an object returns after one command more: for its own plugin, for another's, and a moment
returns_own : (done : List Command) (named object : ℕ) (r : List Code) → (named == object) ≡ true
    → returns_of (done ++ PluginOf named r ∷ []) object ≡ r
returns_own done named object r e =
    let lists = filter_map (returns_by object) done in
    ap (λ l. unwrap_or (last_or None l) [])
    (filter_map-append (returns_by object) done (PluginOf named r ∷ []) ∙ ap (λ b. lists ++ cons_option (cond b (Some r) None) []) e)
    ∙ ap (λ o. unwrap_or o []) (last_or-more None lists r)

returns_other : (done : List Command) (named object : ℕ) (r : List Code) → (named == object) ≡ false
    → returns_of (done ++ PluginOf named r ∷ []) object ≡ returns_of done object
returns_other done named object r e =
    let lists = filter_map (returns_by object) done in
    ap (λ l. unwrap_or (last_or None l) [])
    (filter_map-append (returns_by object) done (PluginOf named r ∷ [])
    ∙ ap (λ b. lists ++ cons_option (cond b (Some r) None) []) e ∙ append-nil lists)

returns_moment : (done : List Command) (now object : ℕ) → returns_of (done ++ MomentAt now ∷ []) object ≡ returns_of done object
returns_moment done now object =
    let lists = filter_map (returns_by object) done in
    ap (λ l. unwrap_or (last_or None l) []) (filter_map-append (returns_by object) done (MomentAt now ∷ []) ∙ append-nil lists)

length-returns_below : (count : ℕ) (commands : List Command) → length (returns_below count commands) ≡ count
length-returns_below count commands = length-map-range_with_len (returns_of commands) 0 count

returns_at : (count object : ℕ) (commands : List Command) → object < count → get_or (returns_below count commands) object [] ≡ returns_of commands object
returns_at count object commands h = get_or-map-range_with_len (returns_of commands) 0 count object object [] h (omega arith)

-- before the first command
none_from : (a count : ℕ) → replicate count [] ≡ map (returns_of []) (range_with_len a count)
none_from a zero = refl
none_from a (suc count) = ap (λ l. [] ∷ l) (none_from (a + 1) count)

pub returns_none : (count : ℕ) → replicate count [] ≡ returns_below count []
returns_none count = none_from 0 count

-- after one command more
pub returns_next : (count : ℕ) (done : List Command) (c : Command) → returns_after c (returns_below count done) ≡ returns_below count (done ++ c ∷ [])
returns_next count done (MomentAt now) =
    let same : returns_of done ≡ returns_of (done ++ MomentAt now ∷ []) = λ i object. sym (returns_moment done now object) i in
    ap (λ f. map f (range_with_len 0 count)) same
returns_next count done (PluginOf named r) =
    let old = returns_below count done in
    let all = done ++ PluginOf named r ∷ [] in
    let size : length (set old named r) ≡ count = length-set old named r ∙ length-returns_below count done in
    ext_get_or [] (set old named r) (returns_below count all) (size ∙ sym (length-returns_below count all))
    (λ o l. let below : o < count = omega (arith, l, size) in elim (cases_eq o named) [
      | inl e ↦ ap (λ k. get_or (set old named r) k []) e ∙ get_or-set_same old named r [] (omega (arith, length-returns_below count done, below, e))
          ∙ sym (returns_own done named o r (eq-eqb named o (sym e))) ∙ sym (returns_at count o all below)
      | inr n ↦ get_or-set_other old named o r [] n ∙ returns_at count o done below ∙ sym
          (returns_other done named o r (ne_eqb named o (λ e. n (sym e)))) ∙ sym (returns_at count o all below)
    ])

-- ---- the whole script

abbrev pub drill_with : Configuration → List (List Code) → List ℕ → DrillScript
drill_with setup lists moments = record { setup = setup; returns = lists; moments = moments }

pub drill_is : (setup : Configuration) (commands : List DrillCommand) (lists : List (List Code)) (moments : List ℕ)
    → lists ≡ returns_below (object_count setup) (map drill_command commands)
    → moments ≡ filter_map (λ c. moment_of (drill_command c)) commands
    → drill_with setup lists moments ≡ drill_over setup (map drill_command commands)
drill_is setup commands lists moments r m = rw (r, m, moments_seen commands) refl
