-- To follow one message by its place, and every message by the lines of those queued, is to tell why each left. Assumes nothing.
use Prim.Native.Nat.{ℕ, zero, suc, ◌+◌, ◌≤◌, ◌<◌}
use native.Mathlib.Nat.{add-zero, zero-add}
use native.Mathlib.Omega.{arith}
use mathlib.Core.Path.{◌≡◌, refl, sym, ap, ◌∙◌, subst}
use mathlib.Core.Logic.{◌≢◌}
use mathlib.Core.Bool.{Bool, true, false, true≢false, cond, not}
use mathlib.Core.List.{List, [], ◌∷◌, ◌++◌, map, append-nil, append_assoc}
use lib.Dec.{eqb}
use lib.ListN.{length, drop, take, length-append, length-drop, length-map}
use lib.Seq.{drop-append-le, take_all}
use borrow.Author.Tests.{eq-eqb, eqb-true, ne_eqb}
use Rattle.rules.specs.Lists.{is_empty, concat_map}
use Rattle.rules.specs.Build.{Build, paper01}
use Rattle.rules.specs.Node.{Message, Node, power_on, with_queue}
use Rattle.rules.specs.Refusal.{queued}
use Rattle.rules.specs.Operation.{Operation, arrive, schedule, preempt, dispatch, tick, turn, user, unknown, accepted, unreadable}
use Rattle.rules.specs.Run.{Event, Input, arrived, arrived_by, asked, left_by, play, run, was_accepted}
use Rattle.rules.specs.Script.{script_lines}
use Rattle.rules.specs.Step.{act, step, valued}
use Rattle.rules.specs.Valid.{Valid}
use Rattle.rules.proofs.Private.EventLaws.{arrived-none, event_of}
use Rattle.rules.proofs.Runs.FlowLaws.{flow-length}
use Rattle.rules.proofs.Runs.RunQueue.{step-queue}
use Rattle.rules.proofs.Steps.SoundLaws.{paper-sensible}
use Rattle.rules.proofs.Steps.StepLaws.{act-sound, power-on-valid, step-answer, step-valid}
use Rattle.reasons.specs.ByPlace.{dated, event_reasons, place_departures}
use Rattle.reasons.specs.Follow.{Followed, Seen, Telling, follow_line, follow_lines, moved_up, picked_up, seen_of, seen_run, still_waiting, tell_lines, tell_queued, telling_lines, tellings, told_at, unfollowed, waiting_after, waiting_with}
use Rattle.reasons.specs.Why.{Departure, Told, arrival_lines, departures, headings, leavings, moments_of, no_arrival, steps_of, tell_event, tell_line, tell_message, told, untold, why, why_all, why_line}
use Rattle.reasons.proofs.CountLaws.{reasons-length}
use Rattle.reasons.proofs.RunTrail.{matched-departures, run-matched}

-- in a step as many are there before and join as leave and are there after
step-length : {b : Build} {n : Node} → Valid b n → (op : Operation)
    → left_by (event_of n op (step b n op)) + length (step b n op).node.queue ≡ length n.queue + length (arrived (event_of n op (step b n op)))
unfolding arrived was_accepted
step-length v op = flow-length (step-queue v op)

-- as many depart as have reasons
dated-length : (i : ℕ) (rs : List ℕ) → length (dated i rs) ≡ length rs
unfolding dated
dated-length i rs = length-map rs (λ (r : ℕ). record { reason = r; line = i })

-- a step accepts one message or none
arrived-one : (op : Operation) (t : Bool) → is_empty (arrived_by op t) ≡ false → length (arrived_by op t) ≡ 1
unfolding arrived_by
arrived-one (arrive g ws) true some = refl
arrived-one (arrive g ws) false some = absurd (true≢false some)
arrived-one preempt t some = absurd (true≢false some)
arrived-one (dispatch g) t some = absurd (true≢false some)
arrived-one (schedule g) t some = absurd (true≢false some)
arrived-one (tick k) t some = absurd (true≢false some)
arrived-one turn t some = absurd (true≢false some)
arrived-one (user r) t some = absurd (true≢false some)
arrived-one unknown t some = absurd (true≢false some)

-- Departures that are past, of which k were accepted before.

-- a message behind those that have left
message-past : (last : ℕ) (ds rs : List Departure) (k : ℕ) → tell_message last (ds ++ rs) (length ds + k) ≡ tell_message last rs k
unfolding tell_message
message-past last [] rs k = ap (tell_message last rs) (zero-add k)
message-past last (d ∷ ds) rs k =
    let one : suc (length ds) + k ≡ suc (length ds + k) = omega arith in
    ap (tell_message last (d ∷ (ds ++ rs))) one ∙ message-past last ds rs k

-- and so a line behind them
line-past : (last : ℕ) (ds rs : List Departure) (k : ℕ) (es : List Event) (w : ℕ) → tell_line last (ds ++ rs) (length ds + k) es w ≡ tell_line last rs k es w
unfolding tell_line tell_event
line-past last ds rs k [] w = refl
line-past last ds rs k (e ∷ es) zero = refl
line-past last ds rs k (e ∷ es) (suc zero) =
    ap (λ (t : Told). cond (eqb e.report.answer unreadable) (untold unreadable) (cond (is_empty (arrived e)) (untold no_arrival) t)) (message-past last ds rs k)
line-past last ds rs k (e ∷ es) (suc (suc w)) =
    let sum : length ds + k + length (arrived e) ≡ length ds + (k + length (arrived e)) = omega arith in
    ap (λ (j : ℕ). tell_line last (ds ++ rs) j es (suc w)) sum ∙ line-past last ds rs (k + length (arrived e)) es (suc w)

-- One message.

module _ (last w : ℕ) where
  -- what is told at the end, from line i on
  abbrev finally : ℕ → Followed → List Seen → Told
  finally i f ss = told_at last (follow_lines w i f ss)

  -- a line that is not wanted
  unwanted : (i : ℕ) (f : Followed) (s : Seen) → i ≢ w → follow_line w i f s ≡ moved_up i f.told f.place s.reasons
  unfolding follow_line
  unwanted i f s other = rw (ne_eqb i w other)

  -- nothing to follow any more
  nobody-moves : (i : ℕ) (t : Told) (rs : List ℕ) → moved_up i t 0 rs ≡ record { place = 0; told = t }
  unfolding moved_up
  nobody-moves i t [] = refl
  nobody-moves i t (r ∷ rs) = refl

  pub followed-past : (i : ℕ) (t : Told) (ss : List Seen) → w < i → finally i (record { place = 0; told = t }) ss ≡ t
  unfolding follow_lines told_at
  followed-past i t [] past = refl
  followed-past i t (s ∷ ss) past =
      ap (λ (f : Followed). finally (suc i) f ss) (unwanted i (record { place = 0; told = t }) s (λ e. omega arith) ∙ nobody-moves i t s.reasons)
      ∙ followed-past (suc i) t ss (omega arith)

  -- a message at its place, where some leave in line i and then ss are seen
  moved_told : (i : ℕ) (t : Told) (rs : List ℕ) (ds : List Departure) (ss : List Seen) → w < suc i
      → ((p : ℕ) → finally (suc i) (record { place = suc p; told = t }) ss ≡ tell_message last ds p)
      → (p : ℕ) → finally (suc i) (moved_up i t (suc p) rs) ss ≡ tell_message last (dated i rs ++ ds) p
  unfolding moved_up dated tell_message
  moved_told i t [] ds ss past stays p = stays p
  moved_told i t (r ∷ rs) ds ss past stays zero = followed-past (suc i) (told r i) ss past
  moved_told i t (r ∷ rs) ds ss past stays (suc p) = moved_told i t rs ds ss past stays p

  -- from a node on
  place-told : (b : Build) (n : Node) (i : ℕ) (t : Told) (is : List Input) → w < i → (p : ℕ)
      → finally i (record { place = suc p; told = t }) (seen_run b n is) ≡ tell_message last (place_departures b i n is) p
  unfolding follow_lines told_at seen_run place_departures seen_of tell_message
  place-told b n i t [] past p = rw (ne_eqb (suc p) 0 (λ e. omega arith))
  place-told b n i t (x ∷ is) past p =
      let s = step b n (asked x) in
      let e : Event = record { runner = n.running; operation = asked x; report = s.report } in
      ap (λ (f : Followed). finally (suc i) f (seen_run b s.node is)) (unwanted i (record { place = suc p; told = t }) (seen_of e s.node) (λ e. omega arith))
      ∙ moved_told i t (event_reasons e s.node) (place_departures b (suc i) s.node is) (seen_run b s.node is) (omega arith)
      (λ q. place-told b s.node (suc i) t is (omega arith) q) p

  -- at the line wanted, a message that has joined the queue behind those of node n
  abbrev event_at : Build → Node → Input → Event
  event_at b n x = event_of n (asked x) (step b n (asked x))

  wanted : (f : Followed) (s : Seen) → follow_line w w f s ≡ moved_up w (picked_up s f).told (picked_up s f).place s.reasons
  unfolding follow_line
  wanted f s = rw (eq-eqb w w refl)

  wanted-told : {b : Build} {n : Node} → Valid b n → (x : Input) (is : List Input)
      → finally (suc w) (follow_line w w unfollowed (seen_of (event_at b n x) (step b n (asked x)).node)) (seen_run b (step b n (asked x)).node is)
      ≡ tell_event last (place_departures b w n (x ∷ is)) (length n.queue) (event_at b n x)
  unfolding picked_up tell_event seen_of place_departures arrived
  wanted-told {b} {n} v x is =
      ap (λ (f : Followed). finally (suc w) f ss) (wanted unfollowed (seen_of e k)) ∙ go (eqb e.report.answer unreadable) (is_empty (arrived e)) refl
    where
      k : Node
      k = (step b n (asked x)).node

      e : Event
      e = event_at b n x

      ss : List Seen
      ss = seen_run b k is

      rs : List ℕ
      rs = event_reasons e k

      rest : List Departure
      rest = place_departures b (suc w) k is

      picked : Bool → Bool → Followed
      picked t u = cond t (record { place = 0; told = untold unreadable }) (cond (not u) (record { place = length k.queue + length rs; told = untold no_arrival }) unfollowed)

      gone : (t : Told) → finally (suc w) (moved_up w t 0 rs) ss ≡ t
      gone t = ap (λ (f : Followed). finally (suc w) f ss) (nobody-moves w t rs) ∙ followed-past (suc w) t ss (omega arith)

      go : (t u : Bool) → is_empty (arrived e) ≡ u
          → finally (suc w) (moved_up w (picked t u).told (picked t u).place rs) ss
          ≡ cond t (untold unreadable) (cond u (untold no_arrival) (tell_message last (dated w rs ++ rest) (length n.queue)))
      go true u arrives = gone (untold unreadable)
      go false true arrives = gone (untold no_arrival)
      go false false arrives =
          let place : length k.queue + length rs ≡ suc (length n.queue) =
          omega (arith, reasons-length e k, step-length v (asked x), arrived-one (asked x) (was_accepted e) arrives) in
          ap (λ (p : ℕ). finally (suc w) (moved_up w (untold no_arrival) p rs) ss) place
          ∙ moved_told w (untold no_arrival) rs rest ss (omega arith) (λ q. place-told b k (suc w) (untold no_arrival) is (omega arith) q) (length n.queue)

  -- before it
  unreached-told : {b : Build} {n : Node} → Valid b n → (i d : ℕ) → w ≡ i + d → (is : List Input)
      → finally i unfollowed (seen_run b n is) ≡ tell_line last (place_departures b i n is) (length n.queue) (play b n is).events (suc d)
  unfolding follow_lines told_at seen_run place_departures tell_line play seen_of
  unreached-told v i d here [] = refl
  unreached-told {b} {n} v i zero here (x ∷ is) =
      let same : w ≡ i = omega arith in
      subst (λ (j : ℕ). finally j unfollowed (seen_run b n (x ∷ is)) ≡ tell_line last (place_departures b j n (x ∷ is)) (length n.queue) (play b n (x ∷ is)).events 1) same
      (wanted-told v x is)
  unreached-told {b} {n} v i (suc d) here (x ∷ is) =
      let s = step b n (asked x) in
      let e = event_at b n x in
      let rs = event_reasons e s.node in
      let ds = dated i rs in
      let rest = place_departures b (suc i) s.node is in
      let gone : length ds ≡ left_by e = dated-length i rs ∙ reasons-length e s.node in
      let count : length ds + length s.node.queue ≡ length n.queue + length (arrived e) = omega (arith, gone, step-length v (asked x)) in
      ap (λ (f : Followed). finally (suc i) f (seen_run b s.node is)) (unwanted i unfollowed (seen_of e s.node) (λ same. omega arith) ∙ nobody-moves i (untold no_arrival) rs)
      ∙ unreached-told {b = b} {n = (step b n (asked x)).node} (step-valid v (asked x)) (suc i) d (omega arith) is
      ∙ sym (line-past last ds rest (length s.node.queue) (play b s.node is).events (suc d))
      ∙ ap (λ (k : ℕ). tell_line last (ds ++ rest) k (play b s.node is).events (suc d)) count

-- what is seen of no line, and of line 0
none_told : (last : ℕ) (ds : List Departure) (k : ℕ) (es : List Event) → tell_line last ds k es 0 ≡ untold no_arrival
unfolding tell_line
none_told last ds k [] = refl
none_told last ds k (e ∷ es) = refl

-- from power-on
pub one_told : (s : List ℕ) (w : ℕ) → told_at (length (script_lines s)) (follow_lines w 1 unfollowed (seen_run paper01 (power_on paper01) (steps_of s))) ≡ why s w
unfolding why run power_on moments_of
one_told s zero =
    followed-past (length (script_lines s)) 0 1 (untold no_arrival) (seen_run paper01 (power_on paper01) (steps_of s)) (omega arith)
    ∙ sym (none_told (length (script_lines s)) (departures (headings (moments_of s)) (leavings (moments_of s))) 0 (run paper01 (steps_of s)).events)
one_told s (suc d) =
    unreached-told (length (script_lines s)) (suc d) (power-on-valid paper01 paper-sensible) 1 d (omega arith) (steps_of s)
    ∙ ap (λ (ds : List Departure). tell_line (length (script_lines s)) ds 0 (run paper01 (steps_of s)).events (suc d))
    (sym (matched-departures (run-matched paper01 paper-sensible (steps_of s))))

-- Every message.

-- messages that leave, in their order, and those that stay to the script's end
pairs : ℕ → List ℕ → List Departure → List Telling
pairs last [] ds = []
pairs last (w ∷ ws) [] = record { arrival = w; reason = 2; line = last } ∷ pairs last ws []
pairs last (w ∷ ws) (d ∷ ds) = record { arrival = w; reason = d.reason; line = d.line } ∷ pairs last ws ds

pairs-queued : (last : ℕ) (ws : List ℕ) → tell_queued last ws ≡ pairs last ws []
unfolding tell_queued pairs
pairs-queued last [] = refl
pairs-queued last (w ∷ ws) = ap {B = List Telling} (λ ts. record { arrival = w; reason = 2; line = last } ∷ ts) (pairs-queued last ws)

-- those that leave in line i, and then the rest
pairs-then : (last i : ℕ) (ws : List ℕ) (rs : List ℕ) (ds : List Departure) → length rs ≤ length ws
    → tellings i ws rs ++ pairs last (drop (length rs) ws) ds ≡ pairs last ws (dated i rs ++ ds)
unfolding tellings dated pairs
pairs-then last i [] [] ds few = refl
pairs-then last i (w ∷ ws) [] ds few = refl
pairs-then last i [] (r ∷ rs) ds few = absurd (omega arith)
pairs-then last i (w ∷ ws) (r ∷ rs) ds few =
    ap {B = List Telling} (λ ts. record { arrival = w; reason = r; line = i } ∷ ts) (pairs-then last i ws rs ds (omega arith))

-- the arrivals that follow join behind
arrival-lines : (i : ℕ) (e : Event) (es : List Event) → arrival_lines i (e ∷ es) ≡ cond (not (is_empty (arrived e))) (i ∷ []) [] ++ arrival_lines (suc i) es
unfolding arrival_lines
arrival-lines i e es = go (is_empty (arrived e))
  where
    go : (t : Bool) → cond t (arrival_lines (suc i) es) (i ∷ arrival_lines (suc i) es) ≡ cond (not t) (i ∷ []) [] ++ arrival_lines (suc i) es
    go true = refl
    go false = refl

-- of more lines the same are told
tellings-more : (i : ℕ) (ws more : List ℕ) (rs : List ℕ) → length rs ≤ length ws → tellings i (ws ++ more) rs ≡ tellings i ws rs
unfolding tellings
tellings-more i [] [] [] few = refl
tellings-more i [] (x ∷ more) [] few = refl
tellings-more i [] more (r ∷ rs) few = absurd (omega arith)
tellings-more i (w ∷ ws) more [] few = refl
tellings-more i (w ∷ ws) more (r ∷ rs) few =
    ap {B = List Telling} (λ ts. record { arrival = w; reason = r; line = i } ∷ ts) (tellings-more i ws more rs (omega arith))

-- with a message that is accepted the queue has no more than its places
queue-room : {b : Build} {n : Node} → Valid b n → (op : Operation) → length n.queue + length (arrived (event_of n op (step b n op))) ≤ b.places
unfolding arrived arrived_by was_accepted act valued queued with_queue
queue-room {b} {n} v (arrive g ws) = go (eqb (step b n (arrive g ws)).report.answer accepted) refl
  where
    go : (t : Bool) → eqb (step b n (arrive g ws)).report.answer accepted ≡ t → length n.queue + length (arrived_by (arrive g ws) t) ≤ b.places
    go true e =
        let own : Message = record { group = g; words = ws } in
        let accepts = sym (step-answer b n (arrive g ws)) ∙ eqb-true (step b n (arrive g ws)).report.answer accepted e in
        omega (arith, (act-sound v (arrive g ws) accepts).queue-length, length-append n.queue (own ∷ []))
    go false e = omega (arith, v.queue-length)
queue-room v preempt = omega (arith, v.queue-length)
queue-room v (dispatch g) = omega (arith, v.queue-length)
queue-room v (schedule g) = omega (arith, v.queue-length)
queue-room v (tick k) = omega (arith, v.queue-length)
queue-room v turn = omega (arith, v.queue-length)
queue-room v (user r) = omega (arith, v.queue-length)
queue-room v unknown = omega (arith, v.queue-length)

-- an empty list
no_length : {A : Type 0} (xs : List A) → is_empty xs ≡ true → length xs ≡ 0
no_length [] none = refl
no_length (x ∷ xs) none = absurd (true≢false (sym none))

-- the line of a message that has joined
own-length : (i : ℕ) (e : Event) → length (cond (not (is_empty (arrived e))) (i ∷ []) []) ≡ length (arrived e)
unfolding arrived
own-length i e = go (is_empty (arrived_by e.operation (was_accepted e))) refl
  where
    go : (t : Bool) → is_empty (arrived_by e.operation (was_accepted e)) ≡ t → length (cond (not t) (i ∷ []) []) ≡ length (arrived_by e.operation (was_accepted e))
    go true none = sym (no_length (arrived_by e.operation (was_accepted e)) none)
    go false some = sym (arrived-one e.operation (was_accepted e) some)

-- over a run from a node on, where ws are the lines of the messages in its queue
every-paired : {n : Node} → Valid paper01 n → (last i : ℕ) (ws : List ℕ) → length ws ≡ length n.queue → (is : List Input)
    → tell_lines i ws (seen_run paper01 n is) ++ tell_queued last (still_waiting i ws (seen_run paper01 n is))
    ≡ pairs last (ws ++ arrival_lines i (play paper01 n is).events) (place_departures paper01 i n is)
unfolding tell_lines still_waiting seen_run play place_departures arrival_lines waiting_with waiting_after seen_of
every-paired v last i ws same [] = pairs-queued last ws ∙ ap (λ (l : List ℕ). pairs last l []) (sym (append-nil ws))
every-paired {n} v last i ws same (x ∷ is) =
    let k = (step paper01 n (asked x)).node in
    let e : Event = event_of n (asked x) (step paper01 n (asked x)) in
    let rs = event_reasons e k in
    let es = (play paper01 k is).events in
    let rest = place_departures paper01 (suc i) k is in
    let ss = seen_run paper01 k is in
    let own : List ℕ = cond (not (is_empty (arrived e))) (i ∷ []) [] in
    let all = ws ++ own in
    let joint : length all ≡ length n.queue + length (arrived e) = omega (arith, length-append ws own, own-length i e) in
    let whole : take paper01.places all ≡ all = take_all paper01.places all (omega (arith, queue-room v (asked x))) in
    let few : length rs ≤ length all = omega (arith, reasons-length e k, step-length v (asked x)) in
    let after = drop (length rs) all in
    let left : length after ≡ length k.queue = omega (arith, length-drop (length rs) all, reasons-length e k, step-length v (asked x)) in
    let more = arrival_lines (suc i) es in
    ap (λ (l : List ℕ). (tellings i l rs ++ tell_lines (suc i) (drop (length rs) l) ss) ++ tell_queued last (still_waiting (suc i) (drop (length rs) l) ss)) whole
    ∙ append_assoc (tellings i all rs) (tell_lines (suc i) after ss) (tell_queued last (still_waiting (suc i) after ss))
    ∙ ap {B = List Telling} (λ ts. tellings i all rs ++ ts) (every-paired {n = (step paper01 n (asked x)).node} (step-valid v (asked x)) last (suc i) after left is)
    ∙ ap {B = List Telling} (λ ts. ts ++ pairs last (after ++ more) rest) (sym (tellings-more i all more rs few))
    ∙ ap {B = List Telling} (λ l. tellings i (all ++ more) rs ++ pairs last l rest) (sym (drop-append-le (length rs) all more few))
    ∙ pairs-then last i (all ++ more) rs rest (omega (arith, length-append all more))
    ∙ ap (λ (l : List ℕ). pairs last l (dated i rs ++ rest)) (append_assoc ws own more ∙ ap (λ (l : List ℕ). ws ++ l) (sym (arrival-lines i e es)))

-- what is told of the message of a line
abbrev telling_of : ℕ → Told → Telling
telling_of w t = record { arrival = w; reason = t.reason; line = t.line }

-- nothing has left: whatever was accepted before
none_left : (last k : ℕ) (es : List Event) (w : ℕ) → tell_line last [] k es w ≡ tell_line last [] 0 es w
unfolding tell_line tell_event tell_message
none_left last k [] w = refl
none_left last k (e ∷ es) zero = refl
none_left last k (e ∷ es) (suc zero) = refl
none_left last k (e ∷ es) (suc (suc w)) = none_left last (k + length (arrived e)) es (suc w) ∙ sym (none_left last (0 + length (arrived e)) es (suc w))

-- an accepted arrival has the answer of its message
arrival-told : (last : ℕ) (ds : List Departure) (k : ℕ) (e : Event) → is_empty (arrived e) ≡ false → tell_event last ds k e ≡ tell_message last ds k
unfolding tell_event arrived was_accepted
arrival-told last ds k e some =
    let two : e.report.answer ≢ unreadable = λ two.
    true≢false (sym (ap is_empty (ap (arrived_by e.operation) (ne_eqb e.report.answer accepted (λ zero. omega arith)) ∙ arrived-none e.operation)) ∙ some) in
    rw (ne_eqb e.report.answer unreadable two, some)

-- where T tells of the lines from i on
paired-told : (last : ℕ) (T : ℕ → Told) (i : ℕ) (ds : List Departure) (es : List Event) → ((d : ℕ) → T (i + d) ≡ tell_line last ds 0 es (suc d))
    → pairs last (arrival_lines i es) ds ≡ map (λ (w : ℕ). telling_of w (T w)) (arrival_lines i es)
unfolding arrival_lines pairs tell_line tell_message arrived
paired-told last T i ds [] tells = refl
paired-told last T i ds (e ∷ es) tells = go (is_empty (arrived e)) refl ds tells (λ ds' tells'. paired-told last T (suc i) ds' es tells')
  where
    on : (ds : List Departure) → ((d : ℕ) → T (i + d) ≡ tell_line last ds 0 (e ∷ es) (suc d)) → (k : ℕ) → length (arrived e) ≡ k
        → (d : ℕ) → T (suc i + d) ≡ tell_line last ds k es (suc d)
    on ds tells k count d =
        let next : suc i + d ≡ i + suc d = omega arith in
        let sum : 0 + length (arrived e) ≡ k = omega arith in
        ap T next ∙ tells (suc d) ∙ ap (λ (j : ℕ). tell_line last ds j es (suc d)) sum

    one : is_empty (arrived e) ≡ false → length (arrived e) ≡ 1
    one some = arrived-one e.operation (was_accepted e) some

    first : (ds : List Departure) → ((d : ℕ) → T (i + d) ≡ tell_line last ds 0 (e ∷ es) (suc d)) → is_empty (arrived e) ≡ false → T i ≡ tell_message last ds 0
    first ds tells some = ap T (sym (add-zero i)) ∙ tells 0 ∙ arrival-told last ds 0 e some

    go : (t : Bool) → is_empty (arrived e) ≡ t → (ds : List Departure) → ((d : ℕ) → T (i + d) ≡ tell_line last ds 0 (e ∷ es) (suc d))
        → ((ds : List Departure) → ((d : ℕ) → T (suc i + d) ≡ tell_line last ds 0 es (suc d))
        → pairs last (arrival_lines (suc i) es) ds ≡ map (λ (w : ℕ). telling_of w (T w)) (arrival_lines (suc i) es))
        → pairs last (cond t (arrival_lines (suc i) es) (i ∷ arrival_lines (suc i) es)) ds
        ≡ map (λ (w : ℕ). telling_of w (T w)) (cond t (arrival_lines (suc i) es) (i ∷ arrival_lines (suc i) es))
    go true none ds tells later = later ds (on ds tells 0 (no_length (arrived e) none))
    go false some [] tells later =
        ap {B = List Telling} (λ t. telling_of i t ∷ pairs last (arrival_lines (suc i) es) []) (sym (first [] tells some))
        ∙ ap {B = List Telling} (λ ts. telling_of i (T i) ∷ ts) (later [] (λ d. on [] tells 1 (one some) d ∙ none_left last 1 es (suc d)))
    go false some (d ∷ ds) tells later =
        ap {B = List Telling} (λ t. telling_of i t ∷ pairs last (arrival_lines (suc i) es) ds) (sym (first (d ∷ ds) tells some))
        ∙ ap {B = List Telling} (λ ts. telling_of i (T i) ∷ ts) (later ds (λ j. on (d ∷ ds) tells 1 (one some) j ∙ line-past last (d ∷ []) ds 0 es (suc j)))

-- as text
lines-told : (T : ℕ → Told) (ws : List ℕ)
    → telling_lines (map (λ (w : ℕ). telling_of w (T w)) ws) ≡ concat_map (λ w. why_line w (T w).reason (T w).line) ws
unfolding telling_lines
lines-told T [] = refl
lines-told T (w ∷ ws) = ap (λ (l : List ℕ). why_line w (T w).reason (T w).line ++ l) (lines-told T ws)

-- from power-on
pub every-told : (s : List ℕ)
    → telling_lines (tell_lines 1 [] (seen_run paper01 (power_on paper01) (steps_of s)) ++ tell_queued (length (script_lines s)) (still_waiting 1 [] (seen_run paper01 (power_on paper01) (steps_of s))))
    ≡ why_all s
unfolding why_all why run power_on moments_of
every-told s =
    let last = length (script_lines s) in
    let ds = place_departures paper01 1 (power_on paper01) (steps_of s) in
    let es = (run paper01 (steps_of s)).events in
    let same : departures (headings (moments_of s)) (leavings (moments_of s)) ≡ ds = matched-departures (run-matched paper01 paper-sensible (steps_of s)) in
    ap telling_lines
    (every-paired (power-on-valid paper01 paper-sensible) last 1 [] refl (steps_of s)
    ∙ paired-told last (why s) 1 ds es
    (λ d. let number : 1 + d ≡ suc d = omega arith in
    ap (why s) number ∙ ap (λ (l : List Departure). tell_line last l 0 es (suc d)) same))
    ∙ lines-told (why s) (arrival_lines 1 es)
