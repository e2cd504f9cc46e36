-- A line that has begun goes on in a portion: it ends there or not. Assumes nothing.
use Prim.Native.Nat.{ℕ, suc, ◌+◌, ◌-◌, ◌≤◌, ◌<◌}
use native.Mathlib.Decide.{dec_lt}
use native.Mathlib.Omega.{arith}
use mathlib.Core.List.{List, [], ◌∷◌, ◌++◌, append-nil}
use mathlib.Core.Path.{◌≡◌, refl, sym, ap, subst, ◌∙◌}
use mathlib.Core.Bool.{Bool}
use lib.Dec.{eqb}
use lib.ListN.{length, take, drop}
use lib.Seq.{length-take-le, take_all, take-append-add, take-take}
use borrow.Author.Tests.{eqb-true}
use Rattle.rules.specs.MemoryTest.{is_memory, step_memory}
use Rattle.rules.specs.Operation.{Operation}
use Rattle.rules.specs.Script.{newline, read_line, report_line}
use Rattle.rules.specs.Text.{split}
use Rattle.script.specs.Feeding.{whole, begun, lines_behind, rest_behind, join_first, all_but_last, last_part, after_lines, list_memory}
use Rattle.script.specs.Feed.{kept_room, kept_line, LinesFeedable, LinesFed, BegunFed}
use Rattle.script.specs.Play.{part, TextPlayed}
use Rattle.script.specs.Read.{OneLine, line_of}
use Rattle.script.specs.Written.{line_room}
use Rattle.script.specs.declared.write.Counter.{Counter as Counter·rt}
use Rattle.script.specs.declared.play.Played.{Played as Played·rt}
use Rattle.script.specs.declared.play.Stop.TheVariants.{AllUsed, NoRoom}
use Rattle.script.specs.declared.feed.Fed.{Fed as Fed·rt}
use Rattle.script.proofs.write.AppendedLaws.{appended-as, appended-none, appended_then}
use Rattle.script.proofs.read.LineEndLaws.{by-test}
use Rattle.script.proofs.OneLineLaws.{ended-split, line-front, one-append, one-long, one_of, one_split, one-take}
use Rattle.script.proofs.play.StopLaws.{all-or-number, all-or-room, room-or-number}
use Rattle.script.proofs.play.PlayLaws.{known-stays}
use Rattle.script.proofs.PortionLaws.{last-behind, split-some}
use Rattle.script.proofs.read.ReadLaws.{reads-long}

-- a text with a newline is its line, the newline and what follows
line-ends : (u : List ℕ) → length (line_of u) < length u → u ≡ line_of u ++ (newline ∷ drop (suc (length (line_of u))) u)
unfolding line_of
line-ends [] h = absurd (omega arith)
line-ends (x ∷ xs) h =
    by-test (eqb x newline)
    (λ q. rw (q, line_of) (ap (λ (y : ℕ). y ∷ xs) (eqb-true x newline q)))
    (λ q. let f : suc (length (line_of xs)) < suc (length xs) = rw (q, line_of) at h in
    rw (q, line_of) (ap (λ (ys : List ℕ). x ∷ ys) (line-ends xs (omega arith))))

-- The line does not end.

pub behind-open : (b u : List ℕ) → OneLine u → (lines_behind b u ≡ []) × (rest_behind b u ≡ b ++ u)
unfolding lines_behind rest_behind join_first all_but_last last_part
behind-open b u one = rw (one_split u one) (refl, refl)

-- The line ends, and others follow it.

pub record Behind (b u : List ℕ) (used : ℕ) : Type 0 where
  pub lines : lines_behind b (take used u) ≡ (b ++ line_of u) ∷ whole (part u (length (line_of u) + 1) used)
  pub rest : rest_behind b (take used u) ≡ begun (part u (length (line_of u) + 1) used)

pub behind-ended : (b u : List ℕ) (used : ℕ) → length (line_of u) < length u → length (line_of u) + 1 ≤ used → Behind b u used
unfolding lines_behind rest_behind join_first whole begun part
behind-ended b u used ends more =
    let l = line_of u in
    let r = drop (suc (length l)) u in
    let k = used - (length l + 1) in
    let n : used ≡ length l + suc k = omega arith in
    let s : suc (length l) ≡ length l + 1 = omega arith in
    let t : take used u ≡ l ++ (newline ∷ take k r) =
    ap (λ (j : ℕ). take j u) n ∙ ap (take (length l + suc k)) (line-ends u ends) ∙ take-append-add l (newline ∷ r) (suc k) in
    let d : take k r ≡ part u (length l + 1) used = ap (λ (j : ℕ). take k (drop j u)) s in
    let p : split newline (take used u) ≡ l ∷ split newline (part u (length l + 1) used) =
    ap (split newline) t ∙ ended-split l (take k r) (one_of u) ∙ ap (λ (y : List ℕ). l ∷ split newline y) d in
    let q = last-behind (split newline (part u (length l + 1) used)) (split-some newline (part u (length l + 1) used)) (b ++ l) in
    record {
      lines = ap (λ (ps : List (List ℕ)). all_but_last (join_first b ps)) p ∙ q.0;
      rest = ap (λ (ps : List (List ℕ)). last_part (join_first b ps)) p ∙ q.1;
    }

-- What is kept of the line that goes on is one.
pub grown-one : {b : List ℕ} (input : List ℕ) {line : List ℕ} {end : ℕ} → OneLine b → end ≡ length (line_of input) → line ≡ take kept_room (b ++ take end input) → OneLine line
grown-one {b} input {line} {end} one e k =
    let t : take end input ≡ line_of input = ap (λ (n : ℕ). take n input) e ∙ line-front input in
    let l : line ≡ take kept_room (b ++ line_of input) = k ∙ ap (λ (x : List ℕ). take kept_room (b ++ x)) t in
    subst OneLine (sym l) (one-take kept_room (b ++ line_of input) (one-append b (line_of input) one (one_of input)))

-- What is kept is read as the line is.
pub kept-reads : (l : List ℕ) → read_line (take kept_room l) ≡ read_line l
kept-reads l =
    elim (dec_lt kept_room (length l)) [
      | yes h ↦ reads-long (take kept_room l) (let e = length-take-le kept_room l (omega arith) in omega arith) ∙ sym (reads-long l (omega arith))
      | no h ↦ ap read_line (take_all kept_room l (omega arith))
    ]

module _ {m b : List ℕ} {lines : ℕ} {input out : List ℕ} where
  -- the line goes on
  pub fed-open : {kept : List ℕ} {count end : ℕ} → OneLine b → length (line_of input) ≡ length input → end ≡ length input
      → take count kept ≡ take kept_room (b ++ take end input)
      → BegunFed m b lines input out m out (record { state = record { lines = lines; kept = kept; count = count }; used = end; written = 0; stop = AllUsed })
  unfolding kept_line after_lines list_memory
  fed-open {kept} {count} {end} one same e k =
      let t : take end input ≡ input = take_all end input (omega arith) in
      let more = one-long input same in
      let f = behind-open b input more in
      let l : take kept_room (take count kept) ≡ take kept_room (b ++ input) =
      ap (take kept_room) k ∙ take-take kept_room kept_room (b ++ take end input) (omega arith) ∙ ap (λ (x : List ℕ). take kept_room (b ++ x)) t in
      let none : lines_behind b (take end input) ≡ [] = ap (lines_behind b) t ∙ f.0 in
      record {
        inside = omega arith;
        memory = rw none;
        listed = rw none (appended-none out 0);
        counted = rw none (omega arith);
        kept = ap line_of l ∙ one-take kept_room (b ++ input) (one-append b input one more) ∙ sym (ap (take kept_room) (ap (rest_behind b) t ∙ f.1));
        all-used = λ z. e;
        no_room = λ z. absurd (all-or-room z);
        stops = all-or-number;
      }

  -- it ends and there is no room
  pub fed-none : {kept : List ℕ} {count : ℕ} → OneLine b → take count kept ≡ b → length out < line_room
      → BegunFed m b lines input out m out (record { state = record { lines = lines; kept = kept; count = count }; used = 0; written = 0; stop = NoRoom })
  unfolding kept_line after_lines list_memory line_of
  fed-none one k room =
      let f = behind-open b [] refl in
      record {
        inside = omega arith;
        memory = rw f.0;
        listed = rw f.0 (appended-none out 0);
        counted = rw f.0 (omega arith);
        kept = ap (λ (x : List ℕ). line_of (take kept_room x)) k ∙ one-take kept_room b one ∙ ap (take kept_room) (sym (append-nil b) ∙ sym f.1);
        all-used = λ z. absurd (all-or-room (sym z));
        no_room = λ z. omega arith;
        stops = room-or-number;
      }

  -- it ends and is played, and the lines behind it are
  pub fed-ended : {good : Bool} {counter : Counter·rt} → LinesFeedable m good input 0 out 0 counter lines → length (line_of input) < length input
      → {text m₁ out₁ : List ℕ} {counter₁ : Counter·rt} {p : Played·rt} → {end : ℕ} → text ≡ take kept_room (b ++ take end input) → TextPlayed m text out counter m₁ out₁ counter₁ p
      → {m₂ out₂ : List ℕ} {f : Fed·rt} → end ≡ length (line_of input) → length out₁ ≡ length out
      → LinesFed m₁ input (end + 1) out₁ p.at (lines + 1) m₂ out₂ f → BegunFed m b lines input out m₂ out₂ f
  unfolding after_lines list_memory
  fed-ended h ends {text} {m₁} {out₁} {p = p} {end} t q {f = f} e same g =
      let l = line_of input in
      let used = g.forward in
      let r : read_line text ≡ read_line (b ++ l) = ap read_line t ∙ kept-reads (b ++ take end input) ∙ ap (λ (x : List ℕ). read_line (b ++ x)) (ap (λ (k : ℕ). take k input) e ∙ line-front input) in
      let w = behind-ended b input f.used ends (omega arith) in
      let ls = whole (part input (length l + 1) f.used) in
      let s : part input (end + 1) f.used ≡ part input (length l + 1) f.used = ap (λ (k : ℕ). part input (k + 1) f.used) e in
      let first : m₁ ≡ (step_memory m (read_line (b ++ l))).memory = q.memory ∙ ap (λ (o : Operation). (step_memory m o).memory) r in
      record {
        inside = g.inside;
        memory = g.memory ∙ ap (λ (x : List ℕ). after_lines m₁ (whole x)) s ∙ ap (λ (x : List ℕ). after_lines x ls) first ∙ sym (ap (after_lines m) w.lines);
        listed = appended-as (appended_then (q.listed lines h.counts) g.listed)
            (ap (λ (o : Operation). report_line (lines + 1) (step_memory m o).report ++ list_memory (lines + 1 + 1) m₁ (whole (part input (end + 1) f.used))) r
            ∙ ap (λ (x : List ℕ). report_line (lines + 1) (step_memory m (read_line (b ++ l))).report ++ list_memory (lines + 1 + 1) m₁ (whole x)) s
            ∙ ap (λ (x : List ℕ). report_line (lines + 1) (step_memory m (read_line (b ++ l))).report ++ list_memory (lines + 1 + 1) x ls) first
            ∙ ap (λ (k : ℕ). report_line (lines + 1) (step_memory m (read_line (b ++ l))).report ++ list_memory k (step_memory m (read_line (b ++ l))).memory ls) (omega arith)
            ∙ sym (ap (list_memory (lines + 1) m) w.lines));
        counted = let c = g.counted in let a = ap (λ (x : List ℕ). length (whole x)) s in let b = ap length w.lines in omega arith;
        kept = g.kept ∙ ap (λ (x : List ℕ). take kept_room (begun x)) s ∙ sym (ap (take kept_room) w.rest);
        all-used = g.all-used;
        no_room = λ z. let n = g.no_room z in omega arith;
        stops = g.stops;
      }

-- The lines behind one that was played.

pub lines-behind : {m : List ℕ} {good : Bool} {input out : List ℕ} {counter : Counter·rt} {lines : ℕ} → LinesFeedable m good input 0 out 0 counter lines
    → {text m₁ out₁ : List ℕ} {counter₁ : Counter·rt} {p : Played·rt} → TextPlayed m text out counter m₁ out₁ counter₁ p
    → {end : ℕ} → end < length input → length out₁ ≡ length out
    → LinesFeedable m₁ good input (end + 1) out₁ p.at counter₁ (lines + 1)
lines-behind {m} {lines = lines} h {text} q ends same =
    record {
      known = ap is_memory q.memory ∙ known-stays m (read_line text) ∙ h.known;
      inside = omega arith;
      within = let a = q.within in omega arith;
      counts = q.counted lines h.counts;
      few = let f = h.few in omega arith;
    }
