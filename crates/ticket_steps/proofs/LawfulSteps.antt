-- Whatever happens keeps a core state lawful.
use Rattle.std.proofs.Common.{◌≡◌, ℕ, ◌+◌, ◌-◌, ◌*◌, ◌<◌, ◌≤◌, ◌≢◌, List, [], ◌∷◌, ◌++◌, length, set, take, drop, sym, refl, ap, ◌∙◌, subst, ⊎_elim, arith}
use Rattle.std.proofs.Common.{length-append, length-set, zero-add, Bool, true, cond}
use mathlib.Core.Option.{some, some-ne-none}
use lib.ListN.{get_elem?}
use Rattle.ticket_steps.specs.declared.books.Kept.{Ghosts}
use Rattle.ticket_steps.specs.declared.seats.CoreSeat.{CoreSeat}
use Rattle.ticket_steps.specs.declared.seats.Phase.TheVariants.{Idle, Waiting, Holding}
use Rattle.ticket_steps.specs.Books.{BookState, calls_handled, with_entry, with_refusal}
use Rattle.ticket_steps.specs.CoreStates.{CoreState, core_state, opening_core}
use Rattle.ticket_steps.specs.Happenings.{Happening, split, drew, waited, held, posted, post_refused, left_posted, recorded, refused, glanced, gathered}
use Rattle.ticket_steps.specs.Happenings.{with_seats, after_post, after_leave, Moves}
use Rattle.ticket_steps.specs.History.{entry}
use Rattle.ticket_steps.specs.Lawful.{IsSeat, IsLawful, spare_seats}
use Rattle.ticket_steps.specs.Seats.{tickets_of, is_present, poster_count_of, fresh_seat, gone_seat, seat_after_split, other_seat, waiting_seat, holding_seat}
use Rattle.ticket_steps.specs.Seats.{posted_seat, seat_after_leave, gathered_seat}
use Rattle.ticket_steps.specs.Seats.{Holds, IsSeatAt}
use Rattle.ticket_steps.specs.Sums.{total, occurrences, once_below, numbers_from}
use Rattle.ticket_steps.proofs.Lists.{at_set, at_snoc, at_same, set_else, at_within}
use Rattle.ticket_steps.proofs.SeatLemmas.{tickets, queued, ticket_count, posts, tickets_idle, tickets_waiting, tickets_holding, holding_holds, posted_holds}
use Rattle.ticket_steps.proofs.SeatLemmas.{holder_there}
use Rattle.ticket_steps.proofs.SeatLemmas.{same_ticket, sole}
use Rattle.ticket_steps.proofs.SumLemmas.{total-set, total-append, occurrences-same, occurrences-append, occurrences-take-drop, take-numbers_from}
use Rattle.ticket_steps.proofs.SumLemmas.{drop-numbers_from}
use Rattle.ticket_steps.proofs.SumLemmas.{length-numbers_from}
use Rattle.ticket_steps.proofs.SumLemmas.{numbers_from_first, numbers_from_below, below_no, below_more}

-- what is so of each seat stays so where the seat at i goes to w
each_set : (draws served served' : ℕ) (seats : List CoreSeat) (i : ℕ) (w : CoreSeat) → IsSeat draws served' w
    → ((j : ℕ) (s : CoreSeat) → j ≢ i → get_elem? seats j ≡ some s → IsSeat draws served' s)
    → (j : ℕ) (s : CoreSeat) → get_elem? (set seats i w) j ≡ some s → IsSeat draws served' s
each_set draws served served' seats i w mine others j s e =
    ⊎_elim (λ (t : (j ≡ i) × (w ≡ s)). subst (IsSeat draws served') t.1 mine)
    (λ (t : (j ≢ i) × (get_elem? seats j ≡ some s)). others j s t.0 t.1) (at_set seats i j w s e)

each_snoc : (draws served : ℕ) (seats : List CoreSeat) (w : CoreSeat) → IsSeat draws served w
    → ((j : ℕ) (s : CoreSeat) → get_elem? seats j ≡ some s → IsSeat draws served s)
    → (j : ℕ) (s : CoreSeat) → get_elem? (seats ++ w ∷ []) j ≡ some s → IsSeat draws served s
each_snoc draws served seats w new all j s e =
    ⊎_elim (λ (t : get_elem? seats j ≡ some s). all j s t) (λ (t : w ≡ s). subst (IsSeat draws served) t new) (at_snoc seats w s j e)

-- a fresh seat with a range of numbers
fresh_is : (draws served n k calls : ℕ) (numbers : List ℕ) → 0 < k → numbers ≡ numbers_from n k → IsSeat draws served (fresh_seat draws n numbers calls)
fresh_is draws served n k calls numbers h is =
    let len : length numbers ≡ k = ap length is ∙ length-numbers_from n k in record {
      holder = λ t e. absurd (omega (arith, e.0));
      own = λ _. omega (arith, ap (occurrences n) is, numbers_from_first n k h);
      whole = λ _. (is ∙ ap (numbers_from n) (sym len), refl);
      gone_seat = λ e. absurd (cc);
    }

-- of two parts of a seat's sums
sums_split : (seats : List CoreSeat) (i : ℕ) (p a b : CoreSeat) → get_elem? seats i ≡ some p → (g : CoreSeat → ℕ)
    → total g (set seats i a ++ b ∷ []) + g p ≡ total g seats + g a + g b
sums_split seats i p a b at g = omega (arith, total-append g (set seats i a) (b ∷ []), total-set g seats i p a at)

module _ {S C R : Type 0} (numbers draws : ℕ) where
  pub lawful_opened : (state : S) → 0 < numbers → IsLawful {C = C} {R = R} numbers draws (opening_core numbers draws state)
  lawful_opened state h =
      let len : length (numbers_from 0 numbers) ≡ numbers = length-numbers_from 0 numbers in record {
        each =
            each_snoc draws 0 [] (fresh_seat draws 0 (numbers_from 0 numbers) 0) (fresh_is draws 0 0 numbers 0 (numbers_from 0 numbers) h refl)
            (λ j s e. absurd (some-ne-none s (sym e)));
        tickets = λ t. omega arith;
        queue = refl;
        numbered = λ n. omega (arith, numbers_from_below n 0 numbers, below_no n 0 (omega arith), ap (once_below n) (zero-add numbers));
        count = omega (arith, len);
        counted = refl;
        calls = refl;
        supply = let e : length (numbers_from 0 numbers) * draws ≡ numbers * draws = ap (λ (k : ℕ). k * draws) len in omega (arith, e);
        places = omega (arith, len);
      }

  lawful_split : (b : CoreState S C R) (own count i : ℕ) (p : CoreSeat) → IsLawful numbers draws b → IsSeatAt b.seats i own Idle p → p.fresh ≡ true
      → 0 < count → count < length p.numbers
      → IsLawful numbers draws (with_seats b (set b.seats i (seat_after_split draws count p) ++ other_seat draws count p ∷ []))
  lawful_split b own count i p l st fresh some_count less =
      let at = st.0 in
      let len : ℕ = length p.numbers in
      let k : ℕ = len - count in
      let x : CoreSeat = seat_after_split draws count p in
      let y : CoreSeat = other_seat draws count p in
      let w = (l.each i p at).whole fresh in
      let taken : take k p.numbers ≡ numbers_from p.own k = ap (take k) w.0 ∙ take-numbers_from p.own k len (omega arith) in
      let rest : len - k ≡ count = omega arith in
      let dropped : drop k p.numbers ≡ numbers_from (p.own + k) count = ap (drop k) w.0 ∙ (drop-numbers_from p.own k len (omega arith) ∙ ap (numbers_from (p.own + k)) rest) in
      let xs : length x.numbers ≡ k = ap length taken ∙ length-numbers_from p.own k in
      let ys : length y.numbers ≡ count = ap length dropped ∙ length-numbers_from (p.own + k) count in
      let sums = sums_split b.seats i p x y at in
      let left_x : x.left ≡ k * draws = ap (λ (n : ℕ). n * draws) xs in
      let left_y : y.left ≡ count * draws = ap (λ (n : ℕ). n * draws) ys in
      let left_p : p.left ≡ (k + count) * draws = w.1 ∙ ap (λ (n : ℕ). n * draws) (let e : len ≡ k + count = omega arith in e) in
      let spare_p : spare_seats p ≡ len - 1 = ap (λ (f : Bool). cond f (len - 1) 0) fresh in
      let idle = tickets_idle in
      record {
        each = each_snoc draws b.served (set b.seats i x) y (fresh_is draws b.served (p.own + k) count 0 (drop k p.numbers) some_count dropped)
            (each_set draws b.served b.served b.seats i x (fresh_is draws b.served p.own k p.calls (take k p.numbers) (omega arith) taken)
            (λ j s _ e. l.each j s e));
        tickets = λ t. omega (arith, l.tickets t, sums (tickets t), tickets_idle t p st.2);
        queue = omega (arith, l.queue, sums queued, ap ticket_count st.2);
        numbered = λ n. omega (arith, l.numbered n, sums (λ (s : CoreSeat). occurrences n s.numbers), occurrences-take-drop n k p.numbers);
        count = omega (arith, l.count, sums (λ (s : CoreSeat). length s.numbers), xs, ys);
        counted = omega (arith, l.counted, sums posts, ap poster_count_of st.2);
        calls = omega (arith, l.calls, sums (λ (s : CoreSeat). s.calls));
        supply = omega (arith, l.supply, sums (λ (s : CoreSeat). s.left), left_x, left_y, left_p);
        places =
            omega (arith, l.places, sums spare_seats, spare_p, xs, ys, length-append (set b.seats i x) (y ∷ []), length-set b.seats i x, at_within b.seats i p at);
      }

  -- one seat continues to another phase, with its numbers and its calls; what the book takes in, it has posted
  lawful_phase : (b : CoreState S C R) (next i : ℕ) (p w : CoreSeat) (book : BookState S C R) → IsLawful numbers draws b → get_elem? b.seats i ≡ some p
      → IsSeat draws b.served w → ((t : ℕ) → tickets t w + once_below t b.next ≡ tickets t p + once_below t next)
      → next + queued p ≡ b.next + queued w → w.numbers ≡ p.numbers → w.calls ≡ p.calls → next + w.left ≤ b.next + p.left → spare_seats w ≤ spare_seats p
      → calls_handled book + posts p ≡ calls_handled b.book + posts w → IsLawful numbers draws (core_state next b.served (set b.seats i w) book)
  lawful_phase b next i p w book l at seat moved queue_moved numbers_are calls_are left less taken =
      let sums : (g : CoreSeat → ℕ) → total g (set b.seats i w) + g p ≡ total g b.seats + g w = λ g. total-set g b.seats i p w at in record {
        each = each_set draws b.served b.served b.seats i w seat (λ j s _ e. l.each j s e);
        tickets = λ t. omega (arith, l.tickets t, sums (tickets t), moved t);
        queue = omega (arith, l.queue, sums queued, queue_moved);
        numbered = λ n. omega (arith, l.numbered n, sums (λ (s : CoreSeat). occurrences n s.numbers), ap (occurrences n) numbers_are);
        count = omega (arith, l.count, sums (λ (s : CoreSeat). length s.numbers), ap length numbers_are);
        counted = omega (arith, l.counted, sums posts, taken);
        calls = omega (arith, l.calls, sums (λ (s : CoreSeat). s.calls), calls_are);
        supply = omega (arith, l.supply, sums (λ (s : CoreSeat). s.left), left);
        places = omega (arith, l.places, sums spare_seats, length-set b.seats i w, less);
      }

  lawful_draw : (b : CoreState S C R) (own i : ℕ) (p : CoreSeat) → IsLawful numbers draws b → IsSeatAt b.seats i own Idle p → 0 < p.left
      → IsLawful numbers draws (core_state (b.next + 1) b.served (set b.seats i (waiting_seat b.next p)) b.book)
  lawful_draw b own i p l st has_left =
      let seat : IsSeat draws b.served (waiting_seat b.next p) = record {
        holder = λ t e. absurd (omega (arith, e.0));
        own = λ _. (l.each i p st.0).own (ap is_present st.2);
        whole = λ e. absurd (cc);
        gone_seat = λ e. absurd (cc);
      } in
      lawful_phase b (b.next + 1) i p (waiting_seat b.next p) b.book l st.0 seat (λ t. omega (arith, tickets_idle t p st.2, below_more t b.next))
      (omega (arith, ap ticket_count st.2)) refl refl
      (omega (arith, has_left)) (omega arith) (omega (arith, ap poster_count_of st.2))

  lawful_look : (b : CoreState S C R) (own i : ℕ) (p : CoreSeat) → IsLawful numbers draws b → IsSeatAt b.seats i own (Waiting b.served) p
      → IsLawful numbers draws (with_seats b (set b.seats i (holding_seat b.served p)))
  lawful_look b own i p l st =
      let seat : IsSeat draws b.served (holding_seat b.served p) = record {
        holder = λ t e. sym (same_ticket b.served t e.1);
        own = λ _. (l.each i p st.0).own (ap is_present st.2);
        whole = λ e. (l.each i p st.0).whole e;
        gone_seat = λ e. absurd (cc);
      } in
      lawful_phase b b.next i p (holding_seat b.served p) b.book l st.0 seat (λ t. omega (arith, tickets_waiting t b.served p st.2))
      (omega (arith, ap ticket_count st.2)) refl refl
      (omega arith) (omega arith) (omega (arith, ap poster_count_of st.2))

  lawful_post : (b : CoreState S C R) (own i t : ℕ) (p : CoreSeat) (book : BookState S C R) → IsLawful numbers draws b → IsSeatAt b.seats i own (Holding t) p
      → calls_handled book ≡ calls_handled b.book + 1 → IsLawful numbers draws (after_post b i t p book)
  lawful_post b own i t p book l st grown =
      let holder = holding_holds t p.phase st.2 in
      let served : t ≡ b.served = (l.each i p st.0).holder t holder in
      let seat : IsSeat draws b.served (posted_seat t p) = record {
        holder = λ k e. sym (same_ticket t k e.1) ∙ served;
        own = λ _. (l.each i p st.0).own (ap is_present st.2);
        whole = λ e. (l.each i p st.0).whole e;
        gone_seat = λ e. absurd (cc);
      } in
      lawful_phase b b.next i p (posted_seat t p) book l st.0 seat (λ k. omega (arith, tickets_holding k t p holder))
      (omega (arith, ap ticket_count st.2)) refl refl
      (omega arith) (omega arith) (omega (arith, grown, ap poster_count_of st.2))

  lawful_leave : (b : CoreState S C R) (i t : ℕ) (p : CoreSeat) (book : BookState S C R) → IsLawful numbers draws b → get_elem? b.seats i ≡ some p
      → Holds t p.phase → calls_handled book + posts p ≡ calls_handled b.book + 1 → IsLawful numbers draws (after_leave b i p book)
  lawful_leave b i t p book l at holder grown =
      let served : t ≡ b.served = (l.each i p at).holder t holder in
      let has : (k : ℕ) → occurrences k (tickets_of p.phase) ≡ occurrences k (b.served ∷ []) =
      λ k. tickets_holding k t p holder ∙ ap (λ (n : ℕ). occurrences k (n ∷ [])) served in
      let mine : occurrences b.served (tickets_of p.phase) ≡ 1 = has b.served ∙ occurrences-same b.served [] in
      let w : CoreSeat = seat_after_leave p in
      let sums : (g : CoreSeat → ℕ) → total g (set b.seats i w) + g p ≡ total g b.seats + g w = λ g. total-set g b.seats i p w at in record {
        each = each_set draws b.served (b.served + 1) b.seats i w record {
          holder = λ t e. absurd (omega (arith, e.0));
          own = λ _. (l.each i p at).own (holder_there p.phase holder.0);
          whole = λ e. (l.each i p at).whole e;
          gone_seat = λ e. absurd (cc);
        } (λ j s other e. let is = l.each j s e in record {
          holder = λ k h. absurd (omega (
            arith,
            sole numbers draws b l i j p s at mine other e,
            tickets_holding b.served k s h,
            ap (λ (n : ℕ). occurrences b.served (n ∷ [])) (is.holder k h),
            occurrences-same b.served [],
          ));
          own = is.own;
          whole = is.whole;
          gone_seat = is.gone_seat;
        });
        tickets = λ t. omega (arith, l.tickets t, sums (tickets t), has t, below_more t b.served);
        queue = omega (arith, l.queue, sums queued, ap (λ (ts : List ℕ). length ts) holder.1);
        numbered = λ n. omega (arith, l.numbered n, sums (λ (s : CoreSeat). occurrences n s.numbers));
        count = omega (arith, l.count, sums (λ (s : CoreSeat). length s.numbers));
        counted = omega (arith, l.counted, sums posts, grown);
        calls = omega (arith, l.calls, sums (λ (s : CoreSeat). s.calls));
        supply = omega (arith, l.supply, sums (λ (s : CoreSeat). s.left));
        places = omega (arith, l.places, sums spare_seats, length-set b.seats i w);
      }

  lawful_gather : (b : CoreState S C R) (own other i k : ℕ) (p q : CoreSeat) → IsLawful numbers draws b → IsSeatAt b.seats i own Idle p
      → IsSeatAt b.seats k other Idle q → own ≢ other
      → IsLawful numbers draws (with_seats b (set (set b.seats i (gathered_seat p q)) k gone_seat))
  lawful_gather b own other i k p q l st st' apart =
      let at = st.0 in
      let w : CoreSeat = gathered_seat p q in
      let same = λ (e : k ≡ i). at_same b.seats i p q at (subst (λ (n : ℕ). get_elem? b.seats n ≡ some q) e st'.0) in
      let ne : k ≢ i = λ e. apart (sym st.1 ∙ (ap (λ (s : CoreSeat). s.own) (same e) ∙ st'.1)) in
      let there : get_elem? (set b.seats i w) k ≡ some q = set_else b.seats i k w ne ∙ st'.0 in
      let sums : (g : CoreSeat → ℕ) → total g (set (set b.seats i w) k gone_seat) + g p + g q
      ≡ total g b.seats + g w + g gone_seat = λ g. omega (arith, total-set g (set b.seats i w) k q gone_seat there, total-set g b.seats i p w at) in record {
        each = each_set draws b.served b.served (set b.seats i w) k gone_seat record {
          holder = λ t e. absurd (omega (arith, e.0));
          own = λ e. absurd (cc);
          whole = λ e. absurd (cc);
          gone_seat = λ _. (refl, refl, refl, refl);
        } (λ j s _ e. each_set draws b.served b.served b.seats i w record {
          holder = λ t e. absurd (omega (arith, e.0));
          own = λ _. omega (arith, (l.each i p at).own (ap is_present st.2), occurrences-append p.own p.numbers q.numbers);
          whole = λ e. absurd (cc);
          gone_seat = λ e. absurd (cc);
        } (λ j s _ e. l.each j s e) j s e);
        tickets = λ t. omega (arith, l.tickets t, sums (tickets t), tickets_idle t p st.2, tickets_idle t q st'.2);
        queue = omega (arith, l.queue, sums queued, ap ticket_count st.2, ap ticket_count st'.2);
        numbered = λ n. omega (arith, l.numbered n, sums (λ (s : CoreSeat). occurrences n s.numbers), occurrences-append n p.numbers q.numbers);
        count = omega (arith, l.count, sums (λ (s : CoreSeat). length s.numbers), length-append p.numbers q.numbers);
        counted = omega (arith, l.counted, sums posts, ap poster_count_of st.2, ap poster_count_of st'.2);
        calls = omega (arith, l.calls, sums (λ (s : CoreSeat). s.calls));
        supply = omega (arith, l.supply, sums (λ (s : CoreSeat). s.left));
        places = omega (arith, l.places, sums spare_seats, length-set (set b.seats i w) k gone_seat, length-set b.seats i w);
      }

module _ {K C R : Type 0} (numbers draws : ℕ) (k : Ghosts K C R) where
  -- a book takes in one call by an entry, and one by a refusal
  pub taken_entry : (book : BookState k.State C R) (own : ℕ) (call : C) → calls_handled (with_entry k.step own call book) ≡ calls_handled book + 1
  taken_entry book own call = omega (arith, length-append book.entries (entry own call (k.step book.state call).1 ∷ []))

  pub taken_refusal : (book : BookState k.State C R) → calls_handled (with_refusal book) ≡ calls_handled book + 1
  taken_refusal book = omega arith

  pub moves_lawful : (b c : CoreState k.State C R) (h : Happening C R) → IsLawful numbers draws b → Moves k draws b h c → IsLawful numbers draws c
  moves_lawful b c (split own count) l t = subst (IsLawful numbers draws) (sym t.6) (lawful_split numbers draws b own count t.0 t.1 l t.2 t.3 t.4 t.5)
  moves_lawful b c (drew own ticket) l t = subst (IsLawful numbers draws) (sym t.5) (lawful_draw numbers draws b own t.0 t.1 l t.2 t.3)
  moves_lawful b c (waited own) l t = subst (IsLawful numbers draws) (sym t.5) l
  moves_lawful b c (held own) l t = subst (IsLawful numbers draws) (sym t.3) (lawful_look numbers draws b own t.0 t.1 l t.2)
  moves_lawful b c (posted own call reply) l t =
      subst (IsLawful numbers draws) (sym t.5) (lawful_post numbers draws b own t.0 t.2 t.1 (with_entry k.step own call b.book) l t.3 (taken_entry b.book own call))
  moves_lawful b c (post_refused own) l t =
      subst (IsLawful numbers draws) (sym t.4) (lawful_post numbers draws b own t.0 t.2 t.1 (with_refusal b.book) l t.3 (taken_refusal b.book))
  moves_lawful b c (left_posted own) l t =
      subst (IsLawful numbers draws) (sym t.4)
      (lawful_leave numbers draws b t.0 t.2 t.1 b.book l t.3.0 (posted_holds t.2 t.1.phase t.3.2) (omega (arith, ap poster_count_of t.3.2)))
  moves_lawful b c (recorded own call reply) l t =
      subst (IsLawful numbers draws) (sym t.5)
      (lawful_leave numbers draws b t.0 t.2 t.1 (with_entry k.step own call b.book) l t.3.0 (holding_holds t.2 t.1.phase t.3.2)
      (omega (arith, taken_entry b.book own call, ap poster_count_of t.3.2)))
  moves_lawful b c (refused own) l t =
      subst (IsLawful numbers draws) (sym t.4)
      (lawful_leave numbers draws b t.0 t.2 t.1 (with_refusal b.book) l t.3.0 (holding_holds t.2 t.1.phase t.3.2)
      (omega (arith, taken_refusal b.book, ap poster_count_of t.3.2)))
  moves_lawful b c (glanced own place word) l t = subst (IsLawful numbers draws) (sym t.5) l
  moves_lawful b c (gathered own other) l t = subst (IsLawful numbers draws) (sym t.7) (lawful_gather numbers draws b own other t.0 t.2 t.1 t.3 l t.4 t.5 t.6)
