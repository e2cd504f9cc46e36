-- Whatever the portions, what is told of a line is what is told of the script. Assumes nothing.
use Prim.Native.Nat.{ℕ, zero, suc, ◌+◌, ◌≤◌, ◌<◌}
use native.Mathlib.Omega.{arith}
use mathlib.Core.List.{List, [], ◌∷◌, ◌++◌, append-nil, append_assoc}
use mathlib.Core.Path.{◌≡◌, refl, sym, ap, ◌∙◌}
use lib.ListN.{length, take, length-append}
use Rattle.rules.specs.Memory.{size}
use Rattle.rules.specs.MemoryTest.{step_memory, power_on_memory}
use Rattle.rules.specs.Operation.{Operation}
use Rattle.rules.specs.Script.{newline, read_line, script_lines}
use Rattle.rules.specs.Text.{split}
use Rattle.reasons.specs.Follow.{Followed, Seen, follow_lines, told_at, unfollowed}
use Rattle.reasons.specs.Told.{seen_of_script}
use Rattle.reasons.specs.Why.{Told, steps_of}
use Rattle.reasons.proofs.WhyLaws.{following}
use Rattle.script.specs.Feed.{kept_line, kept_room}
use Rattle.script.specs.Feeding.{after_lines, all_but_last, begun, join_first, last_line, lines_behind, rest_behind, whole}
use Rattle.script.proofs.PortionLaws.{after-append, begun_all, joins, lines-ended, split-some, whole-nil}
use Rattle.script.proofs.PortionsLaws.{begun-open, joined, serves}
use Rattle.script.proofs.feed.BegunLaws.{kept-reads}
use Rattle.follow.specs.Seen.{seen_memory, seen_on, seen_step}
use Rattle.follow.specs.One.{PortionFollowed, followed_of, told_of}
use Rattle.follow.specs.Portions.{FinishesScript, Follows, FollowsScript, Portion, PortionsTold, Settled, bytes_of, last_memory, last_state}
use Rattle.follow.specs.declared.one.State.{State as State·rt}
use Rattle.follow.specs.declared.one.Told.{Told as Told·rt}
use Rattle.follow.proofs.one.PlaceLaws.{follow-append, follow-settled, told-left}
use Rattle.follow.proofs.portion.PassedLaws.{length_seen, seen-append}
use Rattle.follow.proofs.seen.SeenLaws.{seen-runs}

-- What is kept of a line serves as the line.

take-front : (k : ℕ) (b p : List ℕ) → take k (take k b ++ p) ≡ take k (b ++ p)
take-front zero b p = refl
take-front (suc k) [] p = refl
take-front (suc k) (x ∷ b) p = ap (λ (l : List ℕ). x ∷ l) (take-front k b p)

reads-front : (b p : List ℕ) → read_line (take kept_room b ++ p) ≡ read_line (b ++ p)
reads-front b p = sym (kept-reads (take kept_room b ++ p)) ∙ ap read_line (take-front kept_room b p) ∙ kept-reads (b ++ p)

pub seen-serves : (m b u : List ℕ) → seen_memory m (lines_behind (take kept_room b) u) ≡ seen_memory m (lines_behind b u)
unfolding lines_behind join_first all_but_last seen_memory seen_on
seen-serves m b u = go (split newline u) (split-some newline u) refl
  where
    go : (ps : List (List ℕ)) → 1 ≤ length ps → split newline u ≡ ps → seen_memory m (lines_behind (take kept_room b) u) ≡ seen_memory m (lines_behind b u)
    go [] some e = absurd (omega arith)
    go (p ∷ []) some e = rw e
    go (p ∷ q ∷ ps) some e =
        rw e (ap (λ (o : Operation). seen_step m o ∷ seen_memory (step_memory m o).memory (all_but_last (q ∷ ps))) (reads-front b p))

-- at the script's end
pub record LastServes (b : List ℕ) : Type 0 where
  pub seen : (m : List ℕ) → seen_memory m (last_line (take kept_room b)) ≡ seen_memory m (last_line b)
  pub many : length (last_line (take kept_room b)) ≡ length (last_line b)

pub last-serves : (b : List ℕ) → LastServes b
unfolding last_line seen_memory seen_on
last-serves [] = record { seen = λ m. refl; many = refl }
last-serves (x ∷ b) = record { seen = λ m. ap (λ (o : Operation). seen_step m o ∷ []) (kept-reads (x ∷ b)); many = refl }

-- Calls one behind the other, the first where a line b has begun.

record Behind (m b : List ℕ) (st : State·rt) (ps : List Portion) : Type 0 where
  memory : last_memory m ps ≡ after_lines m (whole (b ++ bytes_of ps))
  lines : (last_state st ps).script.lines ≡ st.script.lines + length (whole (b ++ bytes_of ps))
  kept : kept_line (last_state st ps).script ≡ take kept_room (begun (b ++ bytes_of ps))
  wanted : (last_state st ps).wanted ≡ st.wanted
  message : followed_of (last_state st ps).followed
      ≡ follow_lines st.wanted (st.script.lines + 1) (followed_of st.followed) (seen_memory m (whole (b ++ bytes_of ps)))

-- one call
record One (m b : List ℕ) (st : State·rt) (u m' : List ℕ) (st' : State·rt) : Type 0 where
  memory : m' ≡ after_lines m (whole (b ++ u))
  lines : st'.script.lines ≡ st.script.lines + length (whole (b ++ u))
  kept : kept_line st'.script ≡ take kept_room (begun (b ++ u))
  wanted : st'.wanted ≡ st.wanted
  message : followed_of st'.followed ≡ follow_lines st.wanted (st.script.lines + 1) (followed_of st.followed) (seen_memory m (whole (b ++ u)))

one-call : {m : List ℕ} (b : List ℕ) {st : State·rt} {u m' : List ℕ} {st' : State·rt} → whole b ≡ [] → kept_line st.script ≡ take kept_room b → PortionFollowed m st u m' st'
    → One m b st u m' st'
one-call {m} b {st} {u} open-line kept p =
    let j = joined b u open-line in
    let k = serves b u in
    record {
      memory = p.memory ∙ ap (λ (x : List ℕ). after_lines m (lines_behind x u)) kept ∙ k.memory m ∙ ap (after_lines m) (sym j.lines);
      lines = p.counted ∙ ap (λ (x : List ℕ). st.script.lines + length (lines_behind x u)) kept ∙ ap (λ (n : ℕ). st.script.lines + n) (k.many ∙ ap length (sym j.lines));
      kept = p.kept ∙ ap (λ (x : List ℕ). take kept_room (rest_behind x u)) kept ∙ k.rest ∙ ap (take kept_room) (sym j.rest);
      wanted = p.wanted;
      message =
          p.followed
          ∙ ap (follow_lines st.wanted (st.script.lines + 1) (followed_of st.followed))
          (ap (λ (x : List ℕ). seen_memory m (lines_behind x u)) kept ∙ seen-serves m b u ∙ ap (seen_memory m) (sym j.lines));
    }

calls-behind : (ps : List Portion) (m b : List ℕ) (st : State·rt) → whole b ≡ [] → kept_line st.script ≡ take kept_room b → Follows m st ps → Behind m b st ps
unfolding Follows bytes_of last_memory last_state after_lines follow_lines seen_memory
calls-behind [] m b st open-line kept h =
    let w : whole (b ++ []) ≡ [] = ap whole (append-nil b) ∙ open-line in
    record {
      memory = rw w;
      lines = rw w (omega arith);
      kept = kept ∙ ap (take kept_room) (sym (begun_all b open-line) ∙ ap begun (sym (append-nil b)));
      wanted = refl;
      message = rw w;
    }
calls-behind (p ∷ ps) m b st open-line kept h =
    let u = p.input in
    let o = one-call b open-line kept (h.0.enough h.1.0) in
    let x = b ++ u in
    let rest = bytes_of ps in
    let r = calls-behind ps p.memory-after (begun x) p.state-after (begun-open x) o.kept h.1.1 in
    let j = joins x rest in
    let ks = whole x in
    let ls = whole (begun x ++ rest) in
    let all : ks ++ ls ≡ whole (b ++ (u ++ rest)) = sym j.lines ∙ ap whole (append_assoc b u rest) in
    let f = follow_lines st.wanted (st.script.lines + 1) (followed_of st.followed) in
    let number : p.state-after.script.lines + 1 ≡ st.script.lines + 1 + length (seen_memory m ks) = let e = o.lines in let k = length_seen m ks in omega arith in
    record {
      memory = r.memory ∙ ap (λ (y : List ℕ). after_lines y ls) o.memory ∙ sym (after-append m ks ls) ∙ ap (after_lines m) all;
      lines = let e = o.lines in let g = r.lines in let n = sym (length-append ks ls) ∙ ap length all in omega arith;
      kept = r.kept ∙ ap (take kept_room) (sym j.rest ∙ ap begun (append_assoc b u rest));
      wanted = r.wanted ∙ o.wanted;
      message =
          r.message
          ∙ ap (λ (w : ℕ). follow_lines w (p.state-after.script.lines + 1) (followed_of p.state-after.followed) (seen_memory p.memory-after ls)) o.wanted
          ∙ ap (λ (i : ℕ). follow_lines st.wanted i (followed_of p.state-after.followed) (seen_memory p.memory-after ls)) number
          ∙ ap (λ (y : Followed). follow_lines st.wanted (st.script.lines + 1 + length (seen_memory m ks)) y (seen_memory p.memory-after ls)) o.message
          ∙ ap (λ (y : List ℕ). follow_lines st.wanted (st.script.lines + 1 + length (seen_memory m ks)) (f (seen_memory m ks)) (seen_memory y ls)) o.memory
          ∙ sym (follow-append st.wanted (st.script.lines + 1) (followed_of st.followed) (seen_memory m ks) (seen_memory (after_lines m ks) ls))
          ∙ ap f (sym (seen-append m ks ls) ∙ ap (seen_memory m) all);
    }

-- From power-on on, over the first bytes of a script.

record Read (m s : List ℕ) (w : ℕ) (m' : List ℕ) (st : State·rt) : Type 0 where
  memory : m' ≡ after_lines m (whole s)
  lines : st.script.lines ≡ length (whole s)
  kept : kept_line st.script ≡ take kept_room (begun s)
  wanted : st.wanted ≡ w
  message : followed_of st.followed ≡ follow_lines w 1 unfollowed (seen_memory m (whole s))

script-read : {m s : List ℕ} {w : ℕ} {st : State·rt} {ps : List Portion} → FollowsScript m w st ps s
    → Read (power_on_memory m).memory s w (last_memory (power_on_memory m).memory ps) (last_state st ps)
script-read {m} {s} {w} {st} {ps} q =
    let m₀ = (power_on_memory m).memory in
    let r = calls-behind ps m₀ [] st whole-nil q.new.empty q.follows in
    let number : st.script.lines + 1 ≡ 1 = let n = q.new.none in omega arith in
    record {
      memory = r.memory ∙ ap (λ (x : List ℕ). after_lines m₀ (whole x)) q.read;
      lines = let e = r.lines in let n = q.new.none in let k = ap (λ (x : List ℕ). length (whole x)) q.read in omega arith;
      kept = r.kept ∙ ap (λ (x : List ℕ). take kept_room (begun x)) q.read;
      wanted = r.wanted ∙ q.new.wanted;
      message =
          r.message ∙ ap (λ (x : List ℕ). follow_lines st.wanted (st.script.lines + 1) (followed_of st.followed) (seen_memory m₀ (whole x))) q.read
          ∙ ap (λ (x : ℕ). follow_lines x (st.script.lines + 1) (followed_of st.followed) (seen_memory m₀ (whole s))) q.new.wanted
          ∙ ap (λ (i : ℕ). follow_lines w i (followed_of st.followed) (seen_memory m₀ (whole s))) number
          ∙ ap (λ (f : Followed). follow_lines w 1 f (seen_memory m₀ (whole s))) q.new.nothing;
    }

-- the script's lines, those whole so far first
seen-script : (m s : List ℕ) (w : ℕ) (ks ls : List (List ℕ)) → size ≤ length m → script_lines s ≡ ks ++ ls
    → follow_lines w (1 + length (seen_memory (power_on_memory m).memory ks)) (follow_lines w 1 unfollowed (seen_memory (power_on_memory m).memory ks))
    (seen_memory (after_lines (power_on_memory m).memory ks) ls)
    ≡ follow_lines w 1 unfollowed (seen_of_script s)
unfolding steps_of
seen-script m s w ks ls long e =
    let m₀ = (power_on_memory m).memory in
    sym (follow-append w 1 unfollowed (seen_memory m₀ ks) (seen_memory (after_lines m₀ ks) ls))
    ∙ ap (follow_lines w 1 unfollowed) (sym (seen-append m₀ ks ls) ∙ ap (seen_memory m₀) (sym e) ∙ seen-runs.seen m (script_lines s) long)

-- what is told of line w of a script by following its message
abbrev followed : List ℕ → ℕ → Told
followed s w = told_at (length (script_lines s)) (follow_lines w 1 unfollowed (seen_of_script s))

-- the end
script-told : {m s : List ℕ} {w : ℕ} {st : State·rt} {ps : List Portion} {m' : List ℕ} {t : Told·rt} → FollowsScript m w st ps s → FinishesScript m st ps m' t
    → told_of t ≡ followed s w
script-told {m} {s} {w} {st} {ps} q h =
    let m₀ = (power_on_memory m).memory in
    let r = script-read q in
    let last = last_state st ps in
    let end = h.finishes.enough h.number in
    let ks = whole s in
    let b = begun s in
    let v = last-serves b in
    let shorter = last_line (take kept_room b) in
    let same : last_line (kept_line last.script) ≡ shorter = ap last_line r.kept in
    let many : last.script.lines + length shorter ≡ length (script_lines s) =
    let e = r.lines in let k = v.many in let n = ap length (lines-ended s) ∙ length-append ks (last_line b) in omega arith in
    let number : last.script.lines + 1 ≡ 1 + length (seen_memory m₀ ks) = let e = r.lines in let k = length_seen m₀ ks in omega arith in
    let told : ℕ → ℕ → ℕ → Followed → List Seen → Told = λ n x i f ss. told_at n (follow_lines x i f ss) in
    end.told
    ∙ ap (λ (ls : List (List ℕ)). told (last.script.lines + length ls) last.wanted (last.script.lines + 1) (followed_of last.followed) (seen_memory (last_memory m₀ ps) ls)) same
    ∙ ap (λ (n : ℕ). told n last.wanted (last.script.lines + 1) (followed_of last.followed) (seen_memory (last_memory m₀ ps) shorter)) many
    ∙ ap (λ (x : ℕ). told (length (script_lines s)) x (last.script.lines + 1) (followed_of last.followed) (seen_memory (last_memory m₀ ps) shorter)) r.wanted
    ∙ ap (λ (i : ℕ). told (length (script_lines s)) w i (followed_of last.followed) (seen_memory (last_memory m₀ ps) shorter)) number
    ∙ ap (λ (f : Followed). told (length (script_lines s)) w (1 + length (seen_memory m₀ ks)) f (seen_memory (last_memory m₀ ps) shorter)) r.message
    ∙ ap (told (length (script_lines s)) w (1 + length (seen_memory m₀ ks)) (follow_lines w 1 unfollowed (seen_memory m₀ ks)))
    (v.seen (last_memory m₀ ps) ∙ ap (λ (x : List ℕ). seen_memory x (last_line b)) r.memory)
    ∙ ap (told_at (length (script_lines s))) (seen-script m s w ks (last_line b) q.long (lines-ended s))

-- once it is settled
script-settled : {m s : List ℕ} (rest : List ℕ) {w : ℕ} {st : State·rt} {ps : List Portion} → FollowsScript m w st ps s → Settled (last_state st ps)
    → told_of (last_state st ps).followed.told ≡ followed (s ++ rest) w
script-settled {m} {s} rest {w} {st} {ps} q d =
    let m₀ = (power_on_memory m).memory in
    let r = script-read q in
    let ks = whole s in
    let ls = whole (begun s ++ rest) ++ last_line (begun (s ++ rest)) in
    let lines : script_lines (s ++ rest) ≡ ks ++ ls =
    lines-ended (s ++ rest) ∙ ap (λ (x : List (List ℕ)). x ++ last_line (begun (s ++ rest))) (joins s rest).lines
    ∙ append_assoc ks (whole (begun s ++ rest)) (last_line (begun (s ++ rest))) in
    let f = followed_of (last_state st ps).followed in
    let now = follow_lines w 1 unfollowed (seen_memory m₀ ks) in
    let nowhere : now.place ≡ 0 = sym (ap (λ (x : Followed). x.place) r.message) ∙ d.nowhere in
    let passed : w < 1 + length (seen_memory m₀ ks) = let p = d.passed in let a = r.wanted in let e = r.lines in let k = length_seen m₀ ks in omega arith in
    ap (λ (x : Followed). x.told) r.message ∙ told-left (length (script_lines (s ++ rest))) now nowhere
    ∙ ap (told_at (length (script_lines (s ++ rest))))
    (sym (follow-settled w (1 + length (seen_memory m₀ ks)) now (seen_memory (after_lines m₀ ks) ls) passed nowhere) ∙ seen-script m (s ++ rest) w ks ls q.long lines)

pub portions-told : PortionsTold
portions-told =
    record {
      told = λ m s w st ps m' t q h. script-told q h ∙ following.one s w;
      settled = λ m s rest w st ps q d. script-settled rest q d ∙ following.one (s ++ rest) w;
    }
