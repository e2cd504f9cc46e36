-- Lines followed one after the other, and a portion. Assumes nothing.
use Prim.Native.Nat.{ℕ, ◌+◌, ◌≤◌, ◌<◌}
use native.Mathlib.Omega.{arith}
use mathlib.Core.Bool.{Bool, true, false, true≢false, not}
use mathlib.Core.List.{List, [], ◌∷◌, ◌++◌, append-nil}
use mathlib.Core.Path.{◌≡◌, refl, sym, ap, subst, ◌∙◌}
use lib.ListN.{length, take, drop}
use lib.Seq.{take_all}
use borrow.Author.Tests.{not-false, not-true}
use Rattle.rules.specs.Lists.{is_empty}
use Rattle.rules.specs.Script.{newline}
use Rattle.rules.specs.Text.{split}
use Rattle.reasons.specs.Follow.{Followed, Seen, follow_line, follow_lines, told_at}
use Rattle.script.specs.Feed.{Cut, kept_line, kept_room, last_number}
use Rattle.script.specs.Feeding.{after_lines, all_but_last, begun, join_first, last_line, lines_behind, rest_behind, whole}
use Rattle.script.specs.Read.{line_end, line_of}
use Rattle.follow.specs.Seen.{LineStepped, Sees, seen_memory, seen_on}
use Rattle.follow.specs.Portion.{LinesAhead}
use Rattle.follow.specs.One.{Ended, Finished, FollowedTo, LinesFollowed, followed_of, told_of}
use Rattle.follow.specs.declared.one.Followed.{Followed as Followed·rt}
use Rattle.follow.specs.declared.one.Lines.{Lines as Lines·rt}
use Rattle.follow.specs.declared.one.State.{State as State·rt}
use Rattle.follow.specs.declared.one.Told.{Told as Told·rt}
use Rattle.follow.specs.declared.seen.Line.{Line as Line·rt}
use Rattle.follow.proofs.one.PlaceLaws.{follow-append}
use Rattle.follow.proofs.portion.PassedLaws.{Passed, kept-one-line, length_seen, more-lines, one-open, passed-more, passed_start, portion-kept, portion-lines, seen-append}

-- lines of u, where b has begun, are followed up to a position
pub record Going (m b u : List ℕ) (lines w : ℕ) (f : Followed·rt) (m' kept : List ℕ) (at : ℕ) (r : Lines·rt) : Type 0 where
  pub passed : Passed m b u lines m' kept r.count at r.lines
  pub followed : followed_of r.followed ≡ follow_lines w (lines + 1) (followed_of f) (seen_memory m (whole (b ++ take at u)))

-- none yet
pub going_start : {m : List ℕ} {good : Bool} {kept : List ℕ} {count : ℕ} {u : List ℕ} {lines : ℕ} (w : ℕ) (f : Followed·rt) → LinesAhead m good kept count u lines
    → Going m (take count kept) u lines w f m kept 0 (record { lines = lines; count = count; followed = f })
unfolding follow_lines seen_memory
going_start {m} {kept = kept} {count = count} {u = u} {lines = lines} w f h =
    let b = take count kept in
    let none : whole (b ++ []) ≡ [] = ap whole (append-nil b) ∙ one-open b h.one in
    record { passed = passed_start m u lines h.few h.one h.cut; followed = rw none }

module _ {m b u : List ℕ} {lines w : ℕ} {f : Followed·rt} {m₁ kept : List ℕ} {at : ℕ} {r : Lines·rt} (g : Going m b u lines w f m₁ kept at r) where
  -- the next line is followed
  pub going_more : at < length u → {m₂ kept₂ : List ℕ} {t : Line·rt} {f₂ : Followed·rt}
      → LineStepped m₁ (take r.count kept ++ line_of (drop at u)) (line_end u at + 1) m₂ t
      → ((s : Seen) → Sees t s → followed_of f₂ ≡ follow_line w (r.lines + 1) (followed_of r.followed) s)
      → Going m b u lines w f m₂ kept₂ t.next (record { lines = r.lines + 1; count = 0; followed = f₂ })
  unfolding follow_lines seen_memory
  going_more inside {t = t} n d =
      let p = g.passed in
      let l = take r.count kept ++ line_of (drop at u) in
      let ls = whole (b ++ take at u) in
      let ss = seen_memory m ls in
      let number : r.lines + 1 ≡ lines + 1 + length ss = let c = p.counted in let k = length_seen m ls in omega arith in
      let before = follow_lines w (lines + 1) (followed_of f) ss in
      record {
        passed = passed-more p inside n;
        followed =
            d (seen_on m₁ l) n.sees
            ∙ ap (λ (k : ℕ). follow_line w k (followed_of r.followed) (seen_on m₁ l)) number
            ∙ ap (λ (x : Followed). follow_line w (lines + 1 + length ss) x (seen_on m₁ l)) g.followed
            ∙ ap (λ (x : List ℕ). follow_line w (lines + 1 + length ss) before (seen_on x l)) p.memory
            ∙ sym (follow-append w (lines + 1) (followed_of f) ss (seen_on (after_lines m ls) l ∷ []))
            ∙ ap (follow_lines w (lines + 1) (followed_of f)) (sym (seen-append m ls (l ∷ [])))
            ∙ ap (λ (x : List (List ℕ)). follow_lines w (lines + 1) (followed_of f) (seen_memory m x)) (sym (more-lines p inside t.next n.next).0);
      }

  -- all are
  pub going_end : length u ≤ at → LinesFollowed m b u lines w f m₁ kept r
  going_end all =
      let p = g.passed in
      let e : take at u ≡ u = take_all at u all in
      record {
        memory = p.memory ∙ ap (λ (x : List ℕ). after_lines m (whole (b ++ x))) e;
        counted = p.counted ∙ ap (λ (x : List ℕ). lines + length (whole (b ++ x))) e;
        followed = g.followed ∙ ap (λ (x : List ℕ). follow_lines w (lines + 1) (followed_of f) (seen_memory m (whole (b ++ x)))) e;
        kept = p.rest ∙ ap (λ (x : List ℕ). begun (b ++ x)) e;
        few = p.room;
      }

-- A portion.

module _ (m : List ℕ) (st : State·rt) {input : List ℕ} {last : ℕ} (n : ℕ) (few : st.script.lines + length input < last_number) (c : Cut input 0 last)
    (begins : take n st.script.kept ≡ kept_line st.script) where
  pub portion-followed : {m' kept' : List ℕ} {r : Lines·rt} → LinesFollowed m (take n st.script.kept) (take last input) st.script.lines st.wanted st.followed m' kept' r
      → (kept : List ℕ) (count : ℕ) → take count kept ≡ take kept_room (take r.count kept' ++ drop last input)
      → FollowedTo m st input m' (record { script = record { lines = r.lines; kept = kept; count = count }; wanted = st.wanted; followed = r.followed })
  portion-followed {r = r} q kept count k =
      let b = take n st.script.kept in
      let w : whole (b ++ take last input) ≡ lines_behind (kept_line st.script) input = portion-lines (kept-one-line st.script n begins) c ∙ ap (λ (x : List ℕ). lines_behind x input) begins in
      record {
        enough = λ h. record {
          memory = q.memory ∙ ap (after_lines m) w;
          counted = q.counted ∙ ap (λ (ls : List (List ℕ)). st.script.lines + length ls) w;
          kept =
              portion-kept (kept-one-line st.script n begins) c r.lines kept count (k ∙ ap (λ (x : List ℕ). take kept_room (x ++ drop last input)) q.kept)
              ∙ ap (λ (x : List ℕ). take kept_room (rest_behind x input)) begins;
          wanted = refl;
          followed = q.followed ∙ ap (λ (ls : List (List ℕ)). follow_lines st.wanted (st.script.lines + 1) (followed_of st.followed) (seen_memory m ls)) w;
        };
        last-number = λ h. absurd (omega arith);
      }

-- The script's end.

-- a line that has begun is the last
pub ended-last : (b : List ℕ) → false ≡ is_empty b → lines_behind b (newline ∷ []) ≡ last_line b
unfolding lines_behind join_first all_but_last split last_line
ended-last [] e = absurd (true≢false (sym e))
ended-last (x ∷ b) e = ap (λ (l : List ℕ). l ∷ []) (append-nil (x ∷ b))

pub none_last : (b : List ℕ) → true ≡ is_empty b → last_line b ≡ []
unfolding last_line
none_last [] e = refl
none_last (x ∷ b) e = absurd (true≢false e)

-- nothing is played any more
pub ended_here : {m m' : List ℕ} {st : State·rt} {t : Told·rt} → m' ≡ m → told_of t ≡ told_at st.script.lines (followed_of st.followed) → Ended m st [] m' t
unfolding after_lines seen_memory follow_lines
ended_here {st = st} same e = record { memory = same; told = e ∙ ap (λ (k : ℕ). told_at k (followed_of st.followed)) (omega arith) }

pub finished-none : {m : List ℕ} {st : State·rt} {t : Told·rt} → false ≡ not (is_empty (kept_line st.script)) → told_of t ≡ told_at st.script.lines (followed_of st.followed)
    → Finished m st m t
finished-none {m} {st} {t} none e =
    record {
      enough = λ h. subst (λ (ls : List (List ℕ)). Ended m st ls m t) (sym (none_last (kept_line st.script) (sym (not-false (is_empty (kept_line st.script)) (sym none))))) (ended_here refl e);
      last-number = λ h. ended_here refl e;
    }

pub finished-begun : {m m' : List ℕ} {st st' : State·rt} {t : Told·rt} → true ≡ not (is_empty (kept_line st.script)) → FollowedTo m st (newline ∷ []) m' st'
    → told_of t ≡ told_at st'.script.lines (followed_of st'.followed) → Finished m st m' t
finished-begun {m} {m'} {st} {st'} {t} some g e =
    let b = kept_line st.script in
    let w = ended-last b (sym (not-true (is_empty b) (sym some))) in
    record {
      enough = λ h.
          let p = g.enough (omega arith) in
          record {
            memory = p.memory ∙ ap (after_lines m) w;
            told =
                e ∙ ap (λ (k : ℕ). told_at k (followed_of st'.followed)) p.counted
                ∙ ap (told_at (st.script.lines + length (lines_behind b (newline ∷ [])))) p.followed
                ∙ ap (λ (ls : List (List ℕ)). told_at (st.script.lines + length ls) (follow_lines st.wanted (st.script.lines + 1) (followed_of st.followed) (seen_memory m ls))) w;
          };
      last-number = λ h.
          let p = g.last-number (omega arith) in
          ended_here p.0 (e ∙ ap (λ (x : State·rt). told_at x.script.lines (followed_of x.followed)) p.1);
    }
