-- The script's end: of those that still wait it is told so. Assumes nothing.
use Prim.Native.Nat.{ℕ, zero, suc, ◌+◌, ◌*◌, ◌≤◌, ◌<◌}
use native.Mathlib.Decide.{dec_lt}
use native.Mathlib.Omega.{arith}
use mathlib.Core.Bool.{true, false, true≢false, not}
use mathlib.Core.List.{List, [], ◌∷◌, map}
use mathlib.Core.Path.{◌≡◌, refl, sym, ap, subst, ◌∙◌}
use lib.ListN.{length, take, replicate}
use borrow.Author.Tests.{not-false, not-true}
use Rattle.rules.specs.Build.{paper01}
use Rattle.rules.specs.Lists.{is_empty}
use Rattle.rules.specs.Script.{newline}
use Rattle.reasons.specs.ByPlace.{leaving}
use Rattle.reasons.specs.Follow.{Telling, still_waiting, tell_lines, tell_queued, telling_lines, tellings}
use Rattle.script.specs.Feed.{kept_line, last_number}
use Rattle.script.specs.Feeding.{after_lines, last_line, lines_behind}
use Rattle.script.specs.Read.{line_of}
use Rattle.script.specs.Written.{Appended}
use Rattle.script.specs.declared.play.Stop.TheVariants.{AllUsed, NoRoom}
use Rattle.script.proofs.feed.BegunLaws.{behind-open}
use Rattle.script.proofs.play.StopLaws.{all-or-number, stop-cases}
use Rattle.script.proofs.write.AppendedLaws.{appended-as, appended_then}
use Rattle.follow.specs.Seen.{seen_memory}
use Rattle.follow.specs.Waiting.{lines_room}
use Rattle.follow.specs.Every.{EndTold, FinishedTo, PortionTold, ToldTo, waiting_of}
use Rattle.follow.specs.declared.every.End.{End as End·rt}
use Rattle.follow.specs.declared.every.State.{State as State·rt}
use Rattle.follow.specs.declared.every.Told.{Told as Told·rt}
use Rattle.follow.proofs.one.FollowLaws.{ended-last, none_last}
use Rattle.follow.proofs.waiting.TellLaws.{lines-append}

-- Where all leave for one reason, it is told of each.

leaving-same : (n r : ℕ) → leaving n r r ≡ replicate n r
unfolding leaving
leaving-same zero r = refl
leaving-same (suc n) r = refl

tellings-same : (i n r : ℕ) (ws : List ℕ) → length ws ≤ n → tellings i ws (replicate n r) ≡ map (λ (w : ℕ). record { arrival = w; reason = r; line = i }) ws
unfolding tellings
tellings-same i n r [] h = refl
tellings-same i zero r (w ∷ ws) h = absurd (omega arith)
tellings-same i (suc n) r (w ∷ ws) h = ap (λ (ts : List Telling). record { arrival = w; reason = r; line = i } ∷ ts) (tellings-same i n r ws (omega arith))

pub queued-told : (i : ℕ) (ws : List ℕ) → length ws ≤ paper01.places → tellings i ws (leaving paper01.places 2 2) ≡ tell_queued i ws
unfolding tell_queued
queued-told i ws few = ap (tellings i ws) (leaving-same paper01.places 2) ∙ tellings-same i paper01.places 2 ws few

-- The end.

empty-is : (b : List ℕ) → is_empty b ≡ true → b ≡ []
empty-is [] e = refl
empty-is (x ∷ b) e = absurd (true≢false (sym e))

not-empty : (b : List ℕ) → is_empty b ≡ false → b ≡ [] → ⊥
not-empty [] e n = true≢false e
not-empty (x ∷ b) e n = let k = ap length n in omega arith

-- the output is too short
pub finished-short : {m : List ℕ} {st : State·rt} {out : List ℕ} → length out < 2 * lines_room → FinishedTo m st out m out (record { written = 0; stop = NoRoom })
finished-short short =
    record {
      enough = λ r n. absurd (omega arith);
      none-begun = λ r n. absurd (omega arith);
      last-number = λ r n l. absurd (omega arith);
      no_room = λ r. (refl, (refl, refl));
    }

-- no line has begun
pub finished-none : {m : List ℕ} (st : State·rt) {out out' : List ℕ} {e : End·rt} → 2 * lines_room ≤ length out → false ≡ not (is_empty (kept_line st.script))
    → Appended out 0 out' e.written (telling_lines (tell_queued st.script.lines (waiting_of st))) × (e.stop ≡ AllUsed)
    → FinishedTo m st out m out' e
unfolding after_lines tell_lines still_waiting seen_memory
finished-none {m} st {out} {out'} {e} room none q =
    let b = kept_line st.script in
    let void : is_empty b ≡ true = not-false (is_empty b) (sym none) in
    let number : st.script.lines ≡ st.script.lines + 0 = omega arith in
    let end : EndTold m st [] out m out' e = record {
      memory = refl;
      told = appended-as q.0 (ap (λ (k : ℕ). telling_lines (tell_queued k (waiting_of st))) number);
      stop = q.1;
    } in
    record {
      enough = λ r n. subst (λ (ls : List (List ℕ)). EndTold m st ls out m out' e) (sym (none_last b (sym void))) end;
      none-begun = λ r n. end;
      last-number = λ r n l. absurd (n (empty-is b void));
      no_room = λ r. absurd (omega arith);
    }

module _ {m : List ℕ} (st : State·rt) {out m₁ out₁ : List ℕ} {t : Told·rt} (room : 2 * lines_room ≤ length out) (some : true ≡ not (is_empty (kept_line st.script)))
    (g : ToldTo m st (newline ∷ []) out m₁ out₁ t) where
  has-begun : is_empty (kept_line st.script) ≡ false
  has-begun = not-true (is_empty (kept_line st.script)) (sym some)

  -- it is not told, for want of a line number
  pub finished-stopped : (t.stop ≡ AllUsed → ⊥) → FinishedTo m st out m₁ out₁ (record { written = 0; stop = t.stop })
  unfolding line_of
  finished-stopped stopped =
      elim (dec_lt (st.script.lines + 1) last_number) [
        | yes h ↦
            let p = g.enough (omega arith) in
            let one : t.stop ≡ NoRoom = stop-cases t.stop (λ e. absurd (stopped e)) (λ e. e) (λ e. absurd (p.stops e)) in
            let u : t.used ≡ 0 = let f = p.stopped one in omega arith in
            let none : length (lines_behind (kept_line st.script) (take t.used (newline ∷ []))) ≡ 0 =
            ap (λ (k : ℕ). length (lines_behind (kept_line st.script) (take k (newline ∷ [])))) u ∙ ap length (behind-open (kept_line st.script) [] refl).0 in
            absurd (let a = p.at_most in let r = p.no_room one in omega arith)
        | no h ↦
            let p = g.last-number (omega arith) in
            record {
              enough = λ r n. absurd (omega arith);
              none-begun = λ r n. absurd (not-empty (kept_line st.script) has-begun n);
              last-number = λ r n l. (p.0, (p.1.0, ap (λ (x : Told·rt). record { written = 0; stop = x.stop }) p.1.1));
              no_room = λ r. absurd (omega arith);
            }
      ]

  module _ (all : t.stop ≡ AllUsed) where
    numbers : st.script.lines + 1 < last_number
    numbers =
        elim (dec_lt (st.script.lines + 1) last_number) [
          | yes h ↦ h
          | no h ↦ absurd (let p = g.last-number (omega arith) in all-or-number (sym all ∙ ap (λ (x : Told·rt). x.stop) p.1.1))
        ]

    portion : PortionTold m st (newline ∷ []) out m₁ out₁ t
    portion = g.enough (let n = numbers in omega arith)

    last : lines_behind (kept_line st.script) (take t.used (newline ∷ [])) ≡ last_line (kept_line st.script)
    last = ap (λ (k : ℕ). lines_behind (kept_line st.script) (take k (newline ∷ []))) (portion.all-used all) ∙ ended-last (kept_line st.script) (sym has-begun)

    -- one line leaves room for those that are queued
    pub told-room : t.written ≤ lines_room
    unfolding last_line
    told-room =
        let l : length (last_line (kept_line st.script)) ≤ 1 = few (kept_line st.script) in
        let a = portion.at_most in let k = ap length last in omega arith
      where
        few : (b : List ℕ) → length (last_line b) ≤ 1
        few [] = omega arith
        few (x ∷ b) = omega arith

    pub finished-told : {out₂ : List ℕ} {e : End·rt}
        → Appended out₁ t.written out₂ e.written (telling_lines (tell_queued t.state.script.lines (waiting_of t.state))) × (e.stop ≡ AllUsed)
        → FinishedTo m st out m₁ out₂ e
    finished-told q =
        let p = portion in
        let ls = last_line (kept_line st.script) in
        let i = st.script.lines + 1 in
        let told = tell_lines i (waiting_of st) (seen_memory m ls) in
        let first : telling_lines (tell_lines i (waiting_of st) (seen_memory m (lines_behind (kept_line st.script) (take t.used (newline ∷ []))))) ≡ telling_lines told =
        ap (λ (x : List (List ℕ)). telling_lines (tell_lines i (waiting_of st) (seen_memory m x))) last in
        let queued : tell_queued t.state.script.lines (waiting_of t.state) ≡ tell_queued (st.script.lines + length ls) (still_waiting i (waiting_of st) (seen_memory m ls)) =
        ap (λ (k : ℕ). tell_queued k (waiting_of t.state)) (p.counted ∙ ap (λ (x : List (List ℕ)). st.script.lines + length x) last)
        ∙ ap (tell_queued (st.script.lines + length ls)) (p.waits ∙ ap (λ (x : List (List ℕ)). still_waiting i (waiting_of st) (seen_memory m x)) last) in
        record {
          enough = λ r n. record {
            memory = p.memory ∙ ap (after_lines m) last;
            told = appended-as (appended_then (appended-as p.told first) (appended-as q.0 (ap telling_lines queued)))
                (sym (lines-append told (tell_queued (st.script.lines + length ls) (still_waiting i (waiting_of st) (seen_memory m ls)))));
            stop = q.1;
          };
          none-begun = λ r n. absurd (not-empty (kept_line st.script) has-begun n);
          last-number = λ r n l. absurd (let k = numbers in omega arith);
          no_room = λ r. absurd (omega arith);
        }
