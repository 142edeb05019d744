-- What the figures of a summary are worth.
use Rattle.std.proofs.Common.{◌≡◌, ℕ, zero, suc, ◌+◌, ◌<◌, ◌≤◌, ◌==◌, ◌&&◌, Bool, true, false, not, cond, List, [], ◌∷◌, ◌++◌, length, map, take, drop}
use Rattle.std.proofs.Common.{Option, Some, None, option_map, refl, sym, ap, ◌∙◌, ◌⊎◌, inl, inr, arith, le_refl}
use Rattle.std.specs.Prelude.{IfSome, min, max}
use Rattle.std.specs.List.{Contains, enumerate_from}
use Rattle.std.proofs.lemmas.Bool.{cases_lt}
use Rattle.std.proofs.lemmas.List.{map-append, take-map, drop-map}
use Rattle.std.proofs.lemmas.List.Sums.{sum_by-cons}
use Rattle.std.proofs.lemmas.List.Elements.{All-nil, All-cons, All-weaker}
use Rattle.setup_model.specs.declared.parsed_setup.Object.{Object}
use Rattle.setup_model.specs.declared.options.DelayMethod.{DelayMethod}
use Rattle.check_objects.specs.Configuration.{Configuration, host_count}
use Rattle.check_spread.specs.Spread.{factor_by, first_time, first_times, host_objects, host_spread, initial_times, is_scheduled, rank}
use Rattle.check_spread.specs.Spread.{scheduled_among}
use Rattle.check_states.specs.Times.{choice_of, earlier}
use Rattle.check_spread.specs.Spread.{service_objects, service_spread, spread_of_method, time_at}
use Rattle.setup_order.specs.Cycles.{deep, has_cycle}
use Rattle.setup_order.proofs.ChainLemmas.{some_below}
use Rattle.setup_summary.specs.declared.spans.Span.{Span}
use Rattle.setup_summary.specs.Chains.{greatest_up_to, has_chain, longest_chain, HasChainOfLength}
use Rattle.setup_summary.specs.Summary.{earliest, is_disabled, has_no_interval, later, latest, reasons_among, span_of, summary_of, with_spans}
use Rattle.setup_summary.specs.Facts.{summary_after_delay, span_after_delay, reasons_count, IsFirstBy, IsLeast, IsGreatest}
use Rattle.setup_summary.proofs.DepthLemmas.{none_below, shallow_by, shallow_longer}

-- ---- a later start

-- so much later, where there is a time
abbrev pub move : ℕ → Option ℕ → Option ℕ
move delay time = option_map (λ t. t + delay) time

one_moved : (b : Bool) (delay x y : ℕ) → x ≡ y + delay → cond b (Some x) None ≡ move delay (cond b (Some y) None)
one_moved true delay x y e = ap Some e
one_moved false delay x y e = refl

maps_moved : {A : Type 0} (f g : A → Option ℕ) (m : Option ℕ → Option ℕ) (xs : List A) → ((x : A) → f x ≡ m (g x)) → map f xs ≡ map m (map g xs)
maps_moved f g m [] h = refl
maps_moved f g m (x ∷ xs) h = ap (λ y. y ∷ map f xs) (h x) ∙ ap (λ l. m (g x) ∷ l) (maps_moved f g m xs h)

times_moved : (c : Configuration) (start delay : ℕ) (method : DelayMethod) (minutes factor : ℕ) (objects : List Object)
    → first_times (spread_of_method c (start + delay) method minutes factor) objects ≡ map (move delay) (first_times (spread_of_method c start method minutes factor) objects)
times_moved c start delay method minutes factor objects =
    let late = spread_of_method c (start + delay) method minutes factor in
    let soon = spread_of_method c start method minutes factor in
    maps_moved (λ p. first_time late objects p.0 p.1) (λ p. first_time soon objects p.0 p.1) (move delay) (enumerate_from 0 objects) (λ p.
    one_moved (is_scheduled p.1) delay
    (time_at late (scheduled_among late.interval_length objects) (rank late.factor objects p.0))
    (time_at soon (scheduled_among soon.interval_length objects) (rank soon.factor objects p.0)) (omega arith))

initial_moved : (c : Configuration) (start delay : ℕ) → initial_times c (start + delay) ≡ map (move delay) (initial_times c start)
unfolding initial_times
initial_moved c start delay =
    let options = c.options in
    let factor = factor_by options.service_interleave_factor (length c.services) (length c.hosts) in
    let hosts = times_moved c start delay options.host_inter_check_delay_method options.max_host_check_spread 1 (host_objects c) in
    let services = times_moved c start delay options.service_inter_check_delay_method options.max_service_check_spread factor (service_objects c) in
    ap (λ l. l ++ first_times (service_spread c (start + delay)) (service_objects c)) hosts
    ∙ ap (λ l. map (move delay) (first_times (host_spread c start) (host_objects c)) ++ l) services
    ∙ sym (map-append (move delay) (first_times (host_spread c start) (host_objects c)) (first_times (service_spread c start) (service_objects c)))

picked_moved : (pick : ℕ → ℕ → ℕ) (delay : ℕ) → ((t u : ℕ) → pick (t + delay) (u + delay) ≡ pick t u + delay) → (t u : Option ℕ)
    → choice_of pick (move delay t) (move delay u) ≡ move delay (choice_of pick t u)
picked_moved pick delay h None u = refl
picked_moved pick delay h (Some t) None = refl
picked_moved pick delay h (Some t) (Some u) = ap Some (h t u)

earliest_moved : (delay : ℕ) (ts : List (Option ℕ)) → earliest (map (move delay) ts) ≡ move delay (earliest ts)
earliest_moved delay [] = refl
earliest_moved delay (t ∷ ts) = ap (λ e. earlier (move delay t) e) (earliest_moved delay ts) ∙ picked_moved min delay (λ a b. omega arith) t (earliest ts)

latest_moved : (delay : ℕ) (ts : List (Option ℕ)) → latest (map (move delay) ts) ≡ move delay (latest ts)
latest_moved delay [] = refl
latest_moved delay (t ∷ ts) = ap (λ e. later (move delay t) e) (latest_moved delay ts) ∙ picked_moved max delay (λ a b. omega arith) t (latest ts)

-- a span by its two ends
abbrev pub span_by : Option ℕ → Option ℕ → Span
span_by first last = record { first = first; last = last }

span_moved : (delay : ℕ) (ts us : List (Option ℕ)) → us ≡ map (move delay) ts → span_of us ≡ span_after_delay delay (span_of ts)
span_moved delay ts us e =
    ap span_of e ∙ ap (λ x. span_by x (latest (map (move delay) ts))) (earliest_moved delay ts)
    ∙ ap (λ x. span_by (move delay (earliest ts)) x) (latest_moved delay ts)

pub summary_moved : (c : Configuration) (start delay : ℕ) → summary_of c (start + delay) ≡ summary_after_delay delay (summary_of c start)
summary_moved c start delay =
    let n = host_count c in
    let soon = initial_times c start in
    let late = initial_times c (start + delay) in
    let all = initial_moved c start delay in
    let hosts = span_moved delay (take n soon) (take n late) (ap (take n) all ∙ take-map (move delay) n soon) in
    let services = span_moved delay (drop n soon) (drop n late) (ap (drop n) all ∙ drop-map (move delay) n soon) in
    ap (λ s. with_spans c s (span_of (drop n late))) hosts ∙ ap (λ s. with_spans c (span_after_delay delay (span_of (take n soon))) s) services

-- ---- a span

contains_more : (t u : Option ℕ) (ts : List (Option ℕ)) → Contains ts u → Contains (t ∷ ts) u
contains_more t u ts h = (suc h.0, (let l : h.0 < length ts = h.1 in omega arith), h.2)

none_below_all : (t : Option ℕ) (f : ℕ → Type 0) → t ≡ None → IfSome t f
none_below_all t f e = rw e tt

still : (time : Option ℕ) (P Q : ℕ → Type 0) → ((u : ℕ) → P u → Q u) → IfSome time P → IfSome time Q
still None P Q h i = tt
still (Some u) P Q h i = h u i

-- of two times either the second is picked, and stands so to the first, or the first, and stands so to all to which the second does
abbrev Picks : (ℕ → ℕ → Type 0) → (ℕ → ℕ → ℕ) → Type 0
Picks stands pick = (t e : ℕ) → ((pick t e ≡ e) × stands e t) ⊎ ((pick t e ≡ t) × ((u : ℕ) → stands e u → stands t u))

first_with : (stands : ℕ → ℕ → Type 0) (pick : ℕ → ℕ → ℕ) → ((t : ℕ) → stands t t) → Picks stands pick → (t e : Option ℕ) (ts : List (Option ℕ))
    → IsFirstBy stands ts e → IsFirstBy stands (t ∷ ts) (choice_of pick t e)
first_with stands pick itself picks None None ts h = All-cons (λ time. time ≡ None) None ts refl h
first_with stands pick itself picks None (Some e) ts h = (contains_more None (Some e) ts h.0, All-cons (λ time. IfSome time (stands e)) None ts tt h.1)
first_with stands pick itself picks (Some t) None ts h = (
  (0, omega arith, refl),
  All-cons (λ time. IfSome time (stands t)) (Some t) ts (itself t)
      (All-weaker (λ time. time ≡ None) (λ time. IfSome time (stands t)) (λ time e. none_below_all time (stands t) e) ts h),
)
first_with stands pick itself picks (Some t) (Some e) ts h = elim (picks t e) [
  | inl l ↦ rw (l.0) (contains_more (Some t) (Some e) ts h.0, All-cons (λ time. IfSome time (stands e)) (Some t) ts l.1 h.1)
  | inr g ↦
      rw (g.0) (
        (0, omega arith, refl),
        All-cons (λ time. IfSome time (stands t)) (Some t) ts (itself t)
            (All-weaker (λ time. IfSome time (stands e)) (λ time. IfSome time (stands t)) (λ time i. still time (stands e) (stands t) g.1 i) ts h.1),
      )
]

least_picks : Picks (λ a b. a ≤ b) min
least_picks t e = elim (cases_lt e t) [
  | inl l ↦ inl (omega arith, omega arith)
  | inr g ↦ inr (omega arith, λ u h. omega (arith, g, h))
]

greatest_picks : Picks (λ a b. b ≤ a) max
greatest_picks t e = elim (cases_lt t e) [
  | inl l ↦ inl (omega arith, omega arith)
  | inr g ↦ inr (omega arith, λ u h. omega (arith, g, h))
]

pub earliest_is_least : (ts : List (Option ℕ)) → IsLeast ts (earliest ts)
earliest_is_least [] = All-nil (λ time. time ≡ None)
earliest_is_least (t ∷ ts) = first_with (λ a b. a ≤ b) min le_refl least_picks t (earliest ts) ts (earliest_is_least ts)

pub latest_is_greatest : (ts : List (Option ℕ)) → IsGreatest ts (latest ts)
latest_is_greatest [] = All-nil (λ time. time ≡ None)
latest_is_greatest (t ∷ ts) = first_with (λ a b. b ≤ a) max le_refl greatest_picks t (latest ts) ts (latest_is_greatest ts)

-- ---- the reasons

one_reason : (enabled no_interval : Bool) → cond (enabled && not no_interval) 1 0 + cond (not enabled) 1 0 + cond (enabled && no_interval) 1 0 ≡ 1
one_reason true true = refl
one_reason true false = refl
one_reason false b = refl

pub reasons_add_up : (os : List Object) → reasons_count (reasons_among os) ≡ length os
reasons_add_up [] = refl
reasons_add_up (o ∷ os) =
    let a = sum_by-cons (λ (x : Object). cond (is_scheduled x) 1 0) o os in
    let b = sum_by-cons (λ (x : Object). cond (is_disabled x) 1 0) o os in
    let d = sum_by-cons (λ (x : Object). cond (has_no_interval x) 1 0) o os in
    let one = one_reason o.enabled (o.check_interval == 0) in
    let rest = reasons_add_up os in
    omega (arith, a, b, d, one, rest)

-- ---- the longest chain

reached_by : (links : List (List ℕ)) (n m : ℕ) (b : Bool) → has_chain links (suc n) ≡ b → HasChainOfLength links m → HasChainOfLength links (cond b (suc n) m)
reached_by links n m true e h = e
reached_by links n m false e h = h

greatest_reached : (links : List (List ℕ)) (n : ℕ) → HasChainOfLength links (greatest_up_to (has_chain links) n)
greatest_reached links zero = tt
greatest_reached links (suc n) =
    reached_by links n (greatest_up_to (has_chain links) n) (has_chain links (suc n)) refl (greatest_reached links n)

pub longest_reached : (links : List (List ℕ)) → HasChainOfLength links (longest_chain links)
unfolding longest_chain
longest_reached links = greatest_reached links (length links)

above_by : (p : ℕ → Bool) (n k : ℕ) (b : Bool) → p (suc n) ≡ b → cond b (suc n) (greatest_up_to p n) < k → k ≤ suc n
    → (greatest_up_to p n < k → k ≤ n → p k ≡ false) → p k ≡ false
above_by p n k true e l h f = absurd (omega (arith, l, h))
above_by p n k false e l h f = elim (cases_lt n k) [
  | inl more ↦ let same : k ≡ suc n = omega arith in rw same e
  | inr less ↦ f l less
]

above_greatest : (p : ℕ → Bool) (n k : ℕ) → greatest_up_to p n < k → k ≤ n → p k ≡ false
above_greatest p zero k l h = absurd (omega (arith, l, h))
above_greatest p (suc n) k l h = above_by p n k (p (suc n)) refl l h (above_greatest p n k)

past_cycle : (links : List (List ℕ)) (k : ℕ) → has_cycle links ≡ false → length links ≤ k → has_chain links k ≡ false
unfolding has_cycle
past_cycle links k e h =
    let n = length links in
    none_below (λ o. deep links o k) n (λ o l.
    let none : deep links o n ≡ false = shallow_by (deep links o n) (λ d. sym e ∙ some_below (λ x. deep links x n) n o l d) in
    shallow_longer links n k o h none)

pub none_longer : (links : List (List ℕ)) (k : ℕ) → has_cycle links ≡ false → longest_chain links < k → has_chain links k ≡ false
unfolding longest_chain
none_longer links k e l = elim (cases_lt (length links) k) [
  | inl more ↦ past_cycle links k e (omega arith)
  | inr less ↦ above_greatest (has_chain links) (length links) k l less
]
