-- Whatever the portions, what is told of every message is what is told of the script. Assumes nothing.
use Prim.Native.Nat.{ℕ, ◌+◌}
use native.Mathlib.Omega.{arith}
use mathlib.Core.List.{List, [], ◌∷◌, ◌++◌, append-nil, append_assoc}
use mathlib.Core.Path.{◌≡◌, sym, ap, subst, ◌∙◌}
use lib.ListN.{length, take, length-append}
use Rattle.rules.specs.MemoryTest.{power_on_memory}
use Rattle.rules.specs.Script.{script_lines}
use Rattle.reasons.specs.Follow.{Seen, Telling, still_waiting, tell_lines, tell_queued, telling_lines}
use Rattle.reasons.specs.Told.{seen_of_script}
use Rattle.reasons.specs.Why.{steps_of}
use Rattle.reasons.proofs.WhyLaws.{following}
use Rattle.script.specs.Feed.{kept_line, kept_room}
use Rattle.script.specs.Feeding.{after_lines, begun, last_line, lines_behind, rest_behind, whole}
use Rattle.script.proofs.PortionLaws.{after-append, begun_all, joins, lines-ended, whole-nil}
use Rattle.script.proofs.PortionsLaws.{begun-open, joined, serves}
use Rattle.follow.specs.Seen.{seen_memory}
use Rattle.follow.specs.Every.{PortionTold, waiting_of}
use Rattle.follow.specs.EveryPortions.{Portion, PortionsAllTold, Tells, TellsScript, last_memory, last_state, used_bytes, written_bytes}
use Rattle.follow.specs.declared.every.End.{End as End·rt}
use Rattle.follow.specs.declared.every.State.{State as State·rt}
use Rattle.follow.specs.declared.every.Told.{Told as Told·rt}
use Rattle.follow.proofs.PortionsLaws.{last-serves, seen-serves}
use Rattle.follow.proofs.every.EveryLaws.{tell-append, wait-append}
use Rattle.follow.proofs.portion.PassedLaws.{length_seen, seen-append}
use Rattle.follow.proofs.seen.SeenLaws.{seen-runs}
use Rattle.follow.proofs.waiting.TellLaws.{lines-append}

-- One call, where a line b has begun.
record One (m b : List ℕ) (st : State·rt) (u m' text : List ℕ) (st' : State·rt) : Type 0 where
  memory : m' ≡ after_lines m (whole (b ++ u))
  lines : st'.script.lines ≡ st.script.lines + length (whole (b ++ u))
  kept : kept_line st'.script ≡ take kept_room (begun (b ++ u))
  waits : waiting_of st' ≡ still_waiting (st.script.lines + 1) (waiting_of st) (seen_memory m (whole (b ++ u)))
  written : text ≡ telling_lines (tell_lines (st.script.lines + 1) (waiting_of st) (seen_memory m (whole (b ++ u))))

one-call : {m : List ℕ} (b : List ℕ) {st : State·rt} {input out m' out' : List ℕ} {t : Told·rt} → whole b ≡ [] → kept_line st.script ≡ take kept_room b
    → PortionTold m st input out m' out' t → One m b st (take t.used input) m' (take t.written out') t.state
one-call {m} b {st} {input} {t = t} open-line kept p =
    let u = take t.used input in
    let j = joined b u open-line in
    let k = serves b u in
    let seen : seen_memory m (lines_behind (kept_line st.script) u) ≡ seen_memory m (whole (b ++ u)) =
    ap (λ (x : List ℕ). seen_memory m (lines_behind x u)) kept ∙ seen-serves m b u ∙ ap (seen_memory m) (sym j.lines) in
    record {
      memory = p.memory ∙ ap (λ (x : List ℕ). after_lines m (lines_behind x u)) kept ∙ k.memory m ∙ ap (after_lines m) (sym j.lines);
      lines = p.counted ∙ ap (λ (x : List ℕ). st.script.lines + length (lines_behind x u)) kept ∙ ap (λ (n : ℕ). st.script.lines + n) (k.many ∙ ap length (sym j.lines));
      kept = p.kept ∙ ap (λ (x : List ℕ). take kept_room (rest_behind x u)) kept ∙ k.rest ∙ ap (take kept_room) (sym j.rest);
      waits = p.waits ∙ ap (still_waiting (st.script.lines + 1) (waiting_of st)) seen;
      written = p.told.written ∙ ap (λ (ss : List Seen). telling_lines (tell_lines (st.script.lines + 1) (waiting_of st) ss)) seen;
    }

-- Calls one behind the other.
record Behind (m b : List ℕ) (st : State·rt) (ps : List Portion) : Type 0 where
  memory : last_memory m ps ≡ after_lines m (whole (b ++ used_bytes ps))
  lines : (last_state st ps).script.lines ≡ st.script.lines + length (whole (b ++ used_bytes ps))
  kept : kept_line (last_state st ps).script ≡ take kept_room (begun (b ++ used_bytes ps))
  waits : waiting_of (last_state st ps) ≡ still_waiting (st.script.lines + 1) (waiting_of st) (seen_memory m (whole (b ++ used_bytes ps)))
  written : written_bytes ps ≡ telling_lines (tell_lines (st.script.lines + 1) (waiting_of st) (seen_memory m (whole (b ++ used_bytes ps))))

calls-behind : (ps : List Portion) (m b : List ℕ) (st : State·rt) → whole b ≡ [] → kept_line st.script ≡ take kept_room b → Tells m st ps → Behind m b st ps
unfolding Tells used_bytes written_bytes last_memory last_state after_lines tell_lines still_waiting telling_lines seen_memory
calls-behind [] m b st open-line kept h =
    let w : whole (b ++ []) ≡ [] = ap whole (append-nil b) ∙ open-line in
    record {
      memory = rw w;
      lines = rw w (omega arith);
      kept = kept ∙ ap (take kept_room) (sym (begun_all b open-line) ∙ ap begun (sym (append-nil b)));
      waits = rw w;
      written = rw w;
    }
calls-behind (p ∷ ps) m b st open-line kept h =
    let u = take p.told.used p.input in
    let o = one-call b open-line kept (h.0.enough h.1.0) in
    let x = b ++ u in
    let rest = used_bytes ps in
    let r = calls-behind ps p.memory-after (begun x) p.told.state (begun-open x) o.kept h.1.1 in
    let j = joins x rest in
    let ks = whole x in
    let ls = whole (begun x ++ rest) in
    let all : ks ++ ls ≡ whole (b ++ (u ++ rest)) = sym j.lines ∙ ap whole (append_assoc b u rest) in
    let i = st.script.lines + 1 in
    let ws = waiting_of st in
    let ss = seen_memory m ks in
    let number : p.told.state.script.lines + 1 ≡ i + length ss = let e = o.lines in let k = length_seen m ks in omega arith in
    let later : seen_memory p.memory-after ls ≡ seen_memory (after_lines m ks) ls = ap (λ (y : List ℕ). seen_memory y ls) o.memory in
    let seen : ss ++ seen_memory (after_lines m ks) ls ≡ seen_memory m (whole (b ++ (u ++ rest))) = sym (seen-append m ks ls) ∙ ap (seen_memory m) all in
    record {
      memory = r.memory ∙ ap (λ (y : List ℕ). after_lines y ls) o.memory ∙ sym (after-append m ks ls) ∙ ap (after_lines m) all;
      lines = let e = o.lines in let g = r.lines in let n = sym (length-append ks ls) ∙ ap length all in omega arith;
      kept = r.kept ∙ ap (take kept_room) (sym j.rest ∙ ap begun (append_assoc b u rest));
      waits =
          r.waits ∙ ap (λ (k : ℕ). still_waiting k (waiting_of p.told.state) (seen_memory p.memory-after ls)) number
          ∙ ap (λ (y : List ℕ). still_waiting (i + length ss) y (seen_memory p.memory-after ls)) o.waits
          ∙ ap (still_waiting (i + length ss) (still_waiting i ws ss)) later
          ∙ sym (wait-append i ws ss (seen_memory (after_lines m ks) ls)) ∙ ap (still_waiting i ws) seen;
      written =
          ap (λ (y : List ℕ). y ++ written_bytes ps) o.written
          ∙ ap (λ (y : List ℕ). telling_lines (tell_lines i ws ss) ++ y)
          (r.written ∙ ap (λ (k : ℕ). telling_lines (tell_lines k (waiting_of p.told.state) (seen_memory p.memory-after ls))) number
          ∙ ap (λ (y : List ℕ). telling_lines (tell_lines (i + length ss) y (seen_memory p.memory-after ls))) o.waits
          ∙ ap (λ (y : List Seen). telling_lines (tell_lines (i + length ss) (still_waiting i ws ss) y)) later)
          ∙ sym (lines-append (tell_lines i ws ss) (tell_lines (i + length ss) (still_waiting i ws ss) (seen_memory (after_lines m ks) ls)))
          ∙ ap telling_lines (sym (tell-append i ws ss (seen_memory (after_lines m ks) ls)) ∙ ap (tell_lines i ws) seen);
    }

-- The whole script.

-- what is told of every message of it by following all
abbrev all_told : List ℕ → List ℕ
all_told s = telling_lines (tell_lines 1 [] (seen_of_script s) ++ tell_queued (length (script_lines s)) (still_waiting 1 [] (seen_of_script s)))

script-told : {m s : List ℕ} {st : State·rt} {ps : List Portion} {out m' out' : List ℕ} {e : End·rt} → TellsScript m st ps s out m' out' e
    → written_bytes ps ++ take e.written out' ≡ all_told s
unfolding steps_of
script-told {m} {s} {st} {ps} {out' = out'} {e = e} q = subst (λ (x : List ℕ). written_bytes ps ++ take e.written out' ≡ all_told x) q.read all
  where
    all : written_bytes ps ++ take e.written out' ≡ all_told (used_bytes ps)
    all =
        let m₀ = (power_on_memory m).memory in
        let x = used_bytes ps in
        let r = calls-behind ps m₀ [] st whole-nil q.empty q.tells in
        let last = last_state st ps in
        let end = q.finishes.enough q.room q.number in
        let ks = whole x in
        let b = begun x in
        let ss = seen_memory m₀ ks in
        let first : st.script.lines + 1 ≡ 1 = let n = q.none in omega arith in
        let ws = still_waiting 1 [] ss in
        let waits : waiting_of last ≡ ws =
        r.waits ∙ ap (λ (k : ℕ). still_waiting k (waiting_of st) ss) first ∙ ap (λ (y : List ℕ). still_waiting 1 y ss) q.nobody in
        let text : written_bytes ps ≡ telling_lines (tell_lines 1 [] ss) =
        r.written ∙ ap (λ (k : ℕ). telling_lines (tell_lines k (waiting_of st) ss)) first ∙ ap (λ (y : List ℕ). telling_lines (tell_lines 1 y ss)) q.nobody in
        let v = last-serves b in
        let shorter = last_line (take kept_room b) in
        let same : last_line (kept_line last.script) ≡ shorter = ap last_line r.kept in
        let ts = seen_memory (after_lines m₀ ks) (last_line b) in
        let seen : seen_memory (last_memory m₀ ps) shorter ≡ ts = v.seen (last_memory m₀ ps) ∙ ap (λ (y : List ℕ). seen_memory y (last_line b)) r.memory in
        let many : last.script.lines + length shorter ≡ length (script_lines x) =
        let f = r.lines in let z = q.none in let k = v.many in let n = ap length (lines-ended x) ∙ length-append ks (last_line b) in omega arith in
        let number : last.script.lines + 1 ≡ 1 + length ss = let f = r.lines in let z = q.none in let k = length_seen m₀ ks in omega arith in
        let told : ℕ → List ℕ → List Seen → ℕ → List ℕ = λ i y zs n. telling_lines (tell_lines i y zs ++ tell_queued n (still_waiting i y zs)) in
        let i = 1 + length ss in
        let n = length (script_lines x) in
        let ending : take e.written out' ≡ told i ws ts n =
        end.told.written
        ∙ ap (λ (ls : List (List ℕ)). told (last.script.lines + 1) (waiting_of last) (seen_memory (last_memory m₀ ps) ls) (last.script.lines + length ls)) same
        ∙ ap (told (last.script.lines + 1) (waiting_of last) (seen_memory (last_memory m₀ ps) shorter)) many
        ∙ ap (λ (k : ℕ). told k (waiting_of last) (seen_memory (last_memory m₀ ps) shorter) n) number
        ∙ ap (λ (y : List ℕ). told i y (seen_memory (last_memory m₀ ps) shorter) n) waits
        ∙ ap (λ (zs : List Seen). told i ws zs n) seen in
        let whole-seen : ss ++ ts ≡ seen_of_script x = sym (seen-append m₀ ks (last_line b)) ∙ ap (seen_memory m₀) (sym (lines-ended x)) ∙ seen-runs.seen m (script_lines x) q.long in
        let parts = tell_lines 1 [] ss in
        let behind = tell_lines i ws ts in
        ap (λ (y : List ℕ). y ++ take e.written out') text ∙ ap (λ (y : List ℕ). telling_lines parts ++ y) ending
        ∙ sym (lines-append parts (behind ++ tell_queued n (still_waiting i ws ts)))
        ∙ ap telling_lines (sym (append_assoc parts behind (tell_queued n (still_waiting i ws ts))))
        ∙ ap (λ (y : List Telling). telling_lines (y ++ tell_queued n (still_waiting i ws ts))) (sym (tell-append 1 [] ss ts))
        ∙ ap (λ (y : List ℕ). telling_lines (tell_lines 1 [] (ss ++ ts) ++ tell_queued n y)) (sym (wait-append 1 [] ss ts))
        ∙ ap (λ (zs : List Seen). telling_lines (tell_lines 1 [] zs ++ tell_queued n (still_waiting 1 [] zs))) whole-seen

pub portions-all-told : PortionsAllTold
portions-all-told =
    record {
      told = λ m s st ps out m' out' e q. script-told q ∙ following.every s;
    }
