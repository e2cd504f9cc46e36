-- Lines told one after the other, and a portion. Assumes nothing.
use Prim.Native.Nat.{ℕ, suc, ◌+◌, ◌*◌, ◌≤◌, ◌<◌}
use native.Mathlib.Omega.{arith}
use mathlib.Core.Bool.{Bool}
use mathlib.Core.List.{List, [], ◌∷◌, ◌++◌, append-nil, append_assoc}
use mathlib.Core.Logic.{⊎_elim}
use mathlib.Core.Path.{◌≡◌, refl, sym, ap, ◌∙◌}
use lib.ListN.{length, take, drop, length-append}
use lib.Seq.{length-take-le, take_all, take-take}
use Rattle.rules.specs.Build.{paper01}
use Rattle.rules.specs.MemoryTest.{is_memory}
use Rattle.reasons.specs.Follow.{Seen, Telling, still_waiting, tell_lines, telling_lines, tellings, waiting_after, waiting_with}
use Rattle.script.specs.Feed.{Cut, kept_line, kept_room, last_number}
use Rattle.script.specs.Feeding.{after_lines, begun, lines_behind, rest_behind, whole}
use Rattle.script.specs.Read.{line_end, line_of}
use Rattle.script.specs.Written.{Appended}
use Rattle.script.specs.declared.play.Stop.{Stop as Stop·rt}
use Rattle.script.specs.declared.play.Stop.TheVariants.{AllUsed, NoRoom, LastNumber}
use Rattle.script.proofs.play.StopLaws.{all-or-room}
use Rattle.script.proofs.PortionsLaws.{joined}
use Rattle.script.proofs.OneLineLaws.{one-take}
use Rattle.script.proofs.write.AppendedLaws.{appended-as, appended-none, appended_then}
use Rattle.follow.specs.Seen.{LineStepped, seen_memory, seen_on}
use Rattle.follow.specs.Waiting.{LineTold, lines_room}
use Rattle.follow.specs.Every.{LinesTold, Tellable, ToldTo, portion_told, waiting_of}
use Rattle.follow.specs.declared.every.Lines.{Lines as Lines·rt}
use Rattle.follow.specs.declared.every.State.{State as State·rt}
use Rattle.follow.specs.declared.seen.Line.{Line as Line·rt}
use Rattle.follow.specs.declared.waiting.Waiting.{Waiting as Waiting·rt}
use Rattle.follow.proofs.portion.PassedLaws.{Passed, begun-is-one, kept-one-line, length_seen, more-lines, one-open, passed-more, passed_start, portion-ahead, portion-kept, portion-lines, seen-append}
use Rattle.follow.proofs.waiting.TellLaws.{Fewer, lines-append}

-- Lines one behind the other.

pub tell-append : (i : ℕ) (ws : List ℕ) (ss ts : List Seen) → tell_lines i ws (ss ++ ts) ≡ tell_lines i ws ss ++ tell_lines (i + length ss) (still_waiting i ws ss) ts
unfolding tell_lines still_waiting
tell-append i ws [] ts = let e : i ≡ i + 0 = omega arith in ap (λ (k : ℕ). tell_lines k ws ts) e
tell-append i ws (s ∷ ss) ts =
    let e : suc i + length ss ≡ i + suc (length ss) = omega arith in
    let here = tellings i (waiting_with i s ws) s.reasons in
    let after = waiting_after i s ws in
    ap (λ (x : List Telling). here ++ x)
    (tell-append (suc i) after ss ts ∙ ap (λ (k : ℕ). tell_lines (suc i) after ss ++ tell_lines k (still_waiting (suc i) after ss) ts) e)
    ∙ sym (append_assoc here (tell_lines (suc i) after ss) (tell_lines (i + suc (length ss)) (still_waiting (suc i) after ss) ts))

pub wait-append : (i : ℕ) (ws : List ℕ) (ss ts : List Seen) → still_waiting i ws (ss ++ ts) ≡ still_waiting (i + length ss) (still_waiting i ws ss) ts
unfolding still_waiting
wait-append i ws [] ts = let e : i ≡ i + 0 = omega arith in ap (λ (k : ℕ). still_waiting k ws ts) e
wait-append i ws (s ∷ ss) ts =
    let e : suc i + length ss ≡ i + suc (length ss) = omega arith in
    wait-append (suc i) (waiting_after i s ws) ss ts ∙ ap (λ (k : ℕ). still_waiting k (still_waiting (suc i) (waiting_after i s ws) ss) ts) e

-- lines of u, where b has begun, are told up to a position
pub record Telling-lines (m b u : List ℕ) (lines : ℕ) (ws out m' kept waiting out' : List ℕ) (r : Lines·rt) : Type 0 where
  pub passed : Passed m b u lines m' kept r.kept r.used r.lines
  pub waits : take r.count waiting ≡ still_waiting (lines + 1) ws (seen_memory m (whole (b ++ take r.used u)))
  pub few : r.count ≤ paper01.places
  pub told : Appended out 0 out' r.end (telling_lines (tell_lines (lines + 1) ws (seen_memory m (whole (b ++ take r.used u)))))
  pub within : r.end ≤ length out'
  pub at_most : r.end ≤ lines_room * length (whole (b ++ take r.used u))

-- none yet
pub telling-start : {m : List ℕ} {good : Bool} {kept : List ℕ} {begins : ℕ} {u : List ℕ} {lines : ℕ} {waiting : List ℕ} {count : ℕ} (out : List ℕ)
    → Tellable m good kept begins u lines waiting count
    → Telling-lines m (take begins kept) u lines (take count waiting) out m kept waiting out
    (record { used = 0; lines = lines; kept = begins; count = count; end = 0; stop = AllUsed })
unfolding still_waiting tell_lines telling_lines seen_memory
telling-start {m} {kept = kept} {begins = begins} {u = u} {lines = lines} out h =
    let b = take begins kept in
    let none : whole (b ++ []) ≡ [] = ap whole (append-nil b) ∙ one-open b h.ahead.one in
    record {
      passed = passed_start m u lines h.ahead.few h.ahead.one h.ahead.cut;
      waits = rw none;
      few = h.few;
      told = rw none (appended-none out 0);
      within = omega arith;
      at_most = omega arith;
    }

module _ {m b u : List ℕ} {lines : ℕ} {ws out m₁ kept waiting out₁ : List ℕ} {r : Lines·rt} (g : Telling-lines m b u lines ws out m₁ kept waiting out₁ r) where
  -- the next line is told
  pub telling-more : r.used < length u → {m₂ kept₂ : List ℕ} {t : Line·rt} → LineStepped m₁ (take r.kept kept ++ line_of (drop r.used u)) (line_end u r.used + 1) m₂ t
      → {waiting₂ out₂ : List ℕ} {w : Waiting·rt} → LineTold waiting r.count (r.lines + 1) t out₁ r.end waiting₂ out₂ w
      → r.end + lines_room ≤ length out₁ → length out₂ ≡ length out₁
      → Telling-lines m b u lines ws out m₂ kept₂ waiting₂ out₂
      (record { used = t.next; lines = r.lines + 1; kept = 0; count = w.count; end = w.end; stop = AllUsed })
  unfolding still_waiting tell_lines seen_memory
  telling-more inside {t = t} n {w = w} d room same =
      let p = g.passed in
      let l = take r.kept kept ++ line_of (drop r.used u) in
      let ls = whole (b ++ take r.used u) in
      let ss = seen_memory m ls in
      let i = lines + 1 + length ss in
      let number : r.lines + 1 ≡ i = let c = p.counted in let k = length_seen m ls in omega arith in
      let before = still_waiting (lines + 1) ws ss in
      let s = seen_on (after_lines m ls) l in
      let seen : seen_on m₁ l ≡ s = ap (λ (x : List ℕ). seen_on x l) p.memory in
      let all : ss ++ (s ∷ []) ≡ seen_memory m (whole (b ++ take t.next u)) =
      sym (seen-append m ls (l ∷ [])) ∙ ap (seen_memory m) (sym (more-lines p inside t.next n.next).0) in
      let named : telling_lines (tellings (r.lines + 1) (waiting_with (r.lines + 1) (seen_on m₁ l) (take r.count waiting)) (seen_on m₁ l).reasons) ≡ telling_lines (tell_lines i before (s ∷ [])) =
      ap (λ (k : ℕ). telling_lines (tellings k (waiting_with k (seen_on m₁ l) (take r.count waiting)) (seen_on m₁ l).reasons)) number
      ∙ ap (λ (x : Seen). telling_lines (tellings i (waiting_with i x (take r.count waiting)) x.reasons)) seen
      ∙ ap (λ (x : List ℕ). telling_lines (tellings i (waiting_with i s x) s.reasons)) g.waits
      ∙ ap telling_lines (sym (append-nil (tellings i (waiting_with i s before) s.reasons))) in
      record {
        passed = passed-more p inside n;
        waits =
            d.waits (seen_on m₁ l) n.sees
            ∙ ap (λ (k : ℕ). waiting_after k (seen_on m₁ l) (take r.count waiting)) number
            ∙ ap (λ (x : Seen). waiting_after i x (take r.count waiting)) seen
            ∙ ap (waiting_after i s) g.waits
            ∙ sym (wait-append (lines + 1) ws ss (s ∷ [])) ∙ ap (still_waiting (lines + 1) ws) all;
        few = d.few;
        told = appended-as (appended_then g.told (appended-as (d.told (seen_on m₁ l) n.sees) named))
            (sym (lines-append (tell_lines (lines + 1) ws ss) (tell_lines i before (s ∷ []))) ∙ ap telling_lines (sym (tell-append (lines + 1) ws ss (s ∷ [])) ∙ ap (tell_lines (lines + 1) ws) all));
        within = let a = d.at_most in omega arith;
        at_most = let a = d.at_most in let f = g.at_most in let k = ap length (more-lines p inside t.next n.next).0 ∙ length-append ls (l ∷ []) in omega arith;
      }

  -- how far they are, and why it stopped
  pub telling-end : (stop : Stop·rt) → length out₁ ≡ length out → (stop ≡ AllUsed → r.used ≡ length u) → (stop ≡ NoRoom → length out₁ < r.end + lines_room) → (stop ≡ NoRoom → r.used < length u) → (stop ≡ LastNumber → ⊥)
      → LinesTold m b u lines ws out m₁ kept waiting out₁ (record { used = r.used; lines = r.lines; kept = r.kept; count = r.count; end = r.end; stop = stop })
  telling-end stop same all room before stops =
      let p = g.passed in
      record {
        inside = p.inside;
        memory = p.memory;
        counted = p.counted;
        kept = p.rest;
        short = p.room;
        waits = g.waits;
        told = g.told;
        at_most = g.at_most;
        stopped = before;
        all-used = all;
        no_room = λ e. let f = room e in omega arith;
        stops = stops;
      }

-- A portion.

-- those that wait are no more than the queue has places
pub waiting_few : (st : State·rt) (n : ℕ) → length st.waiting ≡ paper01.places → Fewer st.count paper01.places n
    → (take n st.waiting ≡ waiting_of st) × (n ≤ paper01.places)
unfolding waiting_of
waiting_few st n all f = (
  ⊎_elim (λ h. let a = f.leaving in take_all n st.waiting (omega arith) ∙ sym (take_all st.count st.waiting (let w = f.waiting in omega arith)))
      (λ h. let e : n ≡ st.count = let w = f.waiting in omega arith in ap (λ (k : ℕ). take k st.waiting) e) f.all,
  f.leaving,
)

module _ (m : List ℕ) (st : State·rt) {input : List ℕ} {last : ℕ} (n : ℕ) (few : st.script.lines + length input < last_number) (c : Cut input 0 last)
    (begins : take n st.script.kept ≡ kept_line st.script) where
  pub portion-tellable : {good : Bool} → good ≡ is_memory m → kept_room < length st.script.kept → n ≤ kept_room → (k : ℕ) → length st.waiting ≡ paper01.places → k ≤ paper01.places
      → Tellable m good st.script.kept n (take last input) st.script.lines st.waiting k
  portion-tellable known room short k all some =
      record { ahead = portion-ahead m st.script n few c begins known room short; all = all; few = some }

  module _ {out m' kept' waiting' out' : List ℕ} {r : Lines·rt} (k : ℕ) (waits : take k st.waiting ≡ waiting_of st)
      (q : LinesTold m (take n st.script.kept) (take last input) st.script.lines (take k st.waiting) out m' kept' waiting' out' r) where
    -- the lines used, those of the portion up to a position, and what has begun there
    told-portion : (used count : ℕ) (kept : List ℕ) → used ≤ length input
        → whole (take n st.script.kept ++ take r.used (take last input)) ≡ lines_behind (kept_line st.script) (take used input)
        → kept_line (record { lines = r.lines; kept = kept; count = count }) ≡ take kept_room (rest_behind (kept_line st.script) (take used input))
        → (r.stop ≡ AllUsed → used ≡ length input) → (r.stop ≡ NoRoom → used < length input)
        → ToldTo m st input out m' out' (portion_told r kept count waiting' used)
    unfolding waiting_of
    told-portion used count kept inside w rest all before =
        record {
          enough = λ h. record {
            inside = inside;
            memory = q.memory ∙ ap (after_lines m) w;
            counted = q.counted ∙ ap (λ (ls : List (List ℕ)). st.script.lines + length ls) w;
            kept = rest;
            waits =
                q.waits ∙ ap (λ (ls : List (List ℕ)). still_waiting (st.script.lines + 1) (take k st.waiting) (seen_memory m ls)) w
                ∙ ap (λ (x : List ℕ). still_waiting (st.script.lines + 1) x (seen_memory m (lines_behind (kept_line st.script) (take used input)))) waits;
            told = appended-as q.told
                (ap (λ (ls : List (List ℕ)). telling_lines (tell_lines (st.script.lines + 1) (take k st.waiting) (seen_memory m ls))) w
                ∙ ap (λ (x : List ℕ). telling_lines (tell_lines (st.script.lines + 1) x (seen_memory m (lines_behind (kept_line st.script) (take used input))))) waits);
            at_most = let a = q.at_most in let k = ap length w in omega arith;
            stopped = before;
            all-used = all;
            no_room = q.no_room;
            stops = q.stops;
          };
          last-number = λ h. absurd (omega arith);
        }

    -- it stopped for want of room
    pub told-stopped : (r.stop ≡ AllUsed → ⊥) → ToldTo m st input out m' out' (portion_told r kept' r.kept waiting' r.used)
    unfolding kept_line
    told-stopped stopped =
        let b = take n st.script.kept in
        let i = q.inside in
        let l = length-take-le last input c.inside in
        let u : take r.used (take last input) ≡ take r.used input = take-take r.used last input (omega arith) in
        let j = joined b (take r.used input) (one-open b (kept-one-line st.script n begins)) in
        let y = begun (b ++ take r.used (take last input)) in
        told-portion r.used r.kept kept' (let h = c.inside in omega arith)
        (ap (λ (x : List ℕ). whole (b ++ x)) u ∙ j.lines ∙ ap (λ (x : List ℕ). lines_behind x (take r.used input)) begins)
        (ap (λ (x : List ℕ). line_of (take kept_room x)) q.kept ∙ one-take kept_room y (begun-is-one (b ++ take r.used (take last input)))
        ∙ ap (take kept_room) (ap (λ (x : List ℕ). begun (b ++ x)) u ∙ j.rest ∙ ap (λ (x : List ℕ). rest_behind x (take r.used input)) begins))
        (λ e. absurd (stopped e)) (λ e. let f = q.stopped e in let h = c.inside in omega arith)

    -- all was used
    pub told-used : r.stop ≡ AllUsed → (kept : List ℕ) (count : ℕ) → take count kept ≡ take kept_room (take r.kept kept' ++ drop last input)
        → ToldTo m st input out m' out' (portion_told r kept count waiting' (length input))
    told-used used kept count grown =
        let b = take n st.script.kept in
        let u : take r.used (take last input) ≡ take last input = take_all r.used (take last input) (let e = q.all-used used in omega arith) in
        let all : take (length input) input ≡ input = take_all (length input) input (omega arith) in
        told-portion (length input) count kept (omega arith)
        (ap (λ (x : List ℕ). whole (b ++ x)) u ∙ portion-lines (kept-one-line st.script n begins) c ∙ ap (λ (x : List ℕ). lines_behind x input) begins ∙ ap (lines_behind (kept_line st.script)) (sym all))
        (portion-kept (kept-one-line st.script n begins) c r.lines kept count (grown ∙ ap (λ (x : List ℕ). take kept_room (x ++ drop last input)) (q.kept ∙ ap (λ (x : List ℕ). begun (b ++ x)) u))
        ∙ ap (λ (x : List ℕ). take kept_room (rest_behind x input)) begins ∙ ap (λ (x : List ℕ). take kept_room (rest_behind (kept_line st.script) x)) (sym all))
        (λ e. refl) (λ e. absurd (all-or-room (sym used ∙ e)))
