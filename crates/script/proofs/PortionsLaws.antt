-- Whatever the portions, the header and what was listed are the listing. Assumes nothing.
use Prim.Native.Nat.{ℕ, suc, ◌+◌, ◌≤◌, ◌<◌}
use native.Mathlib.Decide.{dec_lt}
use native.Mathlib.Omega.{arith}
use mathlib.Core.Bool.{Bool, true, false, cond}
use mathlib.Core.List.{List, [], ◌∷◌, ◌++◌, append-nil, append_assoc}
use mathlib.Core.Path.{◌≡◌, refl, sym, ap, ◌∙◌, subst}
use lib.Dec.{eqb}
use lib.ListN.{length, take, length-append}
use lib.Seq.{length-take-le, take_all, take-append-le, take-take}
use Rattle.rules.specs.Lists.{is_empty}
use Rattle.rules.specs.Memory.{size}
use Rattle.rules.specs.MemoryTest.{step_memory, power_on_memory}
use Rattle.rules.specs.Operation.{Operation}
use Rattle.rules.specs.Script.{header, listing, newline, read_line, report_line, script_lines}
use Rattle.rules.specs.Text.{split}
use Rattle.script.specs.Feeding.{whole, begun, last_line, lines_behind, rest_behind, join_first, all_but_last, last_part, after_lines, list_memory}
use Rattle.script.specs.Feed.{kept_room, kept_line, last_number, BegunFed, FedTo}
use Rattle.script.specs.Portions.{Portion, used_of, listed_of, used_bytes, listed_bytes, last_memory, last_newline, last_state, Feeds, ended_script, PortionsListed}
use Rattle.script.specs.declared.feed.Fed.{Fed as Fed·rt}
use Rattle.script.specs.declared.play.Stop.TheVariants.{AllUsed}
use Rattle.script.specs.declared.feed.State.{State as State·rt}
use Rattle.script.proofs.feed.FedLaws.{fed-numbers, lines_none}
use Rattle.script.proofs.read.LineEndLaws.{by-test}
use Rattle.script.proofs.play.StopLaws.{all-or-number}
use Rattle.script.proofs.PortionLaws.{joins, join_lines, join_rest, whole-newline, whole-other, whole-nil, begun_all, split-some, list-append, lines-ended, listing-memory}
use Rattle.script.proofs.read.ReadLaws.{reads-long}

-- What has begun has no newline.

pub begun-open : (h : List ℕ) → whole (begun h) ≡ []
begun-open h =
    let j = (joins h []).lines in
    let e : whole h ≡ whole h ++ whole (begun h) = ap whole (sym (append-nil h)) ∙ j ∙ ap (λ (b : List ℕ). whole h ++ whole b) (append-nil (begun h)) in
    empty (whole (begun h)) (let l = ap length e ∙ length-append (whole h) (whole (begun h)) in omega arith)
  where
    empty : (ls : List (List ℕ)) → length ls ≡ 0 → ls ≡ []
    empty [] e = refl
    empty (l ∷ ls) e = absurd (omega arith)

-- A portion behind a line without a newline completes the lines of both joined.

pub record Joined (b u : List ℕ) : Type 0 where
  pub lines : whole (b ++ u) ≡ lines_behind b u
  pub rest : begun (b ++ u) ≡ rest_behind b u

joined-byte : (x : ℕ) (b : List ℕ) (ps : List (List ℕ)) → 1 ≤ length ps
    → (join_lines x (all_but_last (join_first b ps)) ≡ all_but_last (join_first (x ∷ b) ps))
    × (join_rest x (all_but_last (join_first b ps)) (last_part (join_first b ps)) ≡ last_part (join_first (x ∷ b) ps))
unfolding join_first all_but_last last_part
joined-byte x b [] some = absurd (omega arith)
joined-byte x b (p ∷ []) some = (refl, refl)
joined-byte x b (p ∷ q ∷ ps) some = (refl, refl)

open-tail : (x : ℕ) (b : List ℕ) → whole (x ∷ b) ≡ [] → (eqb x newline ≡ false) × (whole b ≡ [])
open-tail x b e = by-test (eqb x newline) (λ q. absurd (let l = ap length (sym (whole-newline x b q).0 ∙ e) in omega arith)) (λ q. (q, inner (whole b) (sym (whole-other x b q).0 ∙ e)))
  where
    inner : (ls : List (List ℕ)) → join_lines x ls ≡ [] → ls ≡ []
    inner [] f = refl
    inner (l ∷ ls) f = absurd (let k = ap length f in omega arith)

pub joined : (b u : List ℕ) → whole b ≡ [] → Joined b u
unfolding lines_behind rest_behind
joined [] u e = let n = lines_none u in record { lines = sym n.0; rest = sym n.1 }
joined (x ∷ b) u e = go (open-tail x b e) (joined b u)
  where
    go : (eqb x newline ≡ false) × (whole b ≡ []) → (whole b ≡ [] → Joined b u) → Joined (x ∷ b) u
    go t r =
        let j = r t.1 in
        let f = whole-other x (b ++ u) t.0 in
        let k = joined-byte x b (split newline u) (split-some newline u) in
        record {
          lines = f.0 ∙ ap (join_lines x) j.lines ∙ k.0;
          rest = f.1 ∙ ap (λ (ls : List (List ℕ)). join_rest x ls (begun (b ++ u))) j.lines ∙ ap (join_rest x (lines_behind b u)) j.rest ∙ k.1;
        }

-- What is kept of a line serves as the line.

kept-front : (b p : List ℕ) → (read_line (take kept_room b ++ p) ≡ read_line (b ++ p)) × (take kept_room (take kept_room b ++ p) ≡ take kept_room (b ++ p))
kept-front b p =
    elim (dec_lt kept_room (length b)) [
      | yes h ↦
          let l = length-take-le kept_room b (omega arith) in
          let front = length-append (take kept_room b) p in
          let all = length-append b p in (
            reads-long (take kept_room b ++ p) (omega arith) ∙ sym (reads-long (b ++ p) (omega arith)),
            take-append-le kept_room (take kept_room b) p (omega arith) ∙ take-take kept_room kept_room b (omega arith) ∙ sym (take-append-le kept_room b p (omega arith)),
          )
      | no h ↦
          let e : take kept_room b ≡ b = take_all kept_room b (omega arith) in
          (ap (λ (x : List ℕ). read_line (x ++ p)) e, ap (λ (x : List ℕ). take kept_room (x ++ p)) e)
    ]

pub record Serves (b u : List ℕ) : Type 0 where
  pub listed : (i : ℕ) (m : List ℕ) → list_memory i m (lines_behind (take kept_room b) u) ≡ list_memory i m (lines_behind b u)
  pub memory : (m : List ℕ) → after_lines m (lines_behind (take kept_room b) u) ≡ after_lines m (lines_behind b u)
  pub many : length (lines_behind (take kept_room b) u) ≡ length (lines_behind b u)
  pub rest : take kept_room (rest_behind (take kept_room b) u) ≡ take kept_room (rest_behind b u)

pub serves : (b u : List ℕ) → Serves b u
unfolding lines_behind rest_behind join_first all_but_last last_part list_memory after_lines
serves b u = go (split newline u) (split-some newline u) refl
  where
    go : (ps : List (List ℕ)) → 1 ≤ length ps → split newline u ≡ ps → Serves b u
    go [] some e = absurd (omega arith)
    go (p ∷ []) some e = (record { listed = λ i m. rw e; memory = λ m. rw e; many = rw e; rest = rw e (kept-front b p).1 })
    go (p ∷ q ∷ ps) some e =
        let r = (kept-front b p).0 in
        record {
          listed = λ i m. rw e (ap (λ (o : Operation). report_line i (step_memory m o).report ++ list_memory (suc i) (step_memory m o).memory (all_but_last (q ∷ ps))) r);
          memory = λ m. rw e (ap (λ (o : Operation). after_lines (step_memory m o).memory (all_but_last (q ∷ ps))) r);
          many = rw e;
          rest = rw e;
        }

-- What a state keeps behind a portion is the front of the line that has begun.

pub kept_next : (b : List ℕ) {m : List ℕ} {st : State·rt} {input out m' out' : List ℕ} {f : Fed·rt} → whole b ≡ [] → kept_line st ≡ take kept_room b
    → FedTo m st input out m' out' f → st.lines + length input < last_number
    → kept_line f.state ≡ take kept_room (begun (b ++ take f.used input))
kept_next b {input = input} {f = f} open-line kept g few =
    let u = take f.used input in
    (g.enough few).kept ∙ ap (λ (k : List ℕ). take kept_room (rest_behind k u)) kept ∙ (serves b u).rest ∙ ap (take kept_room) (sym (joined b u open-line).rest)

pub kept-begun : (ps : List Portion) (m b : List ℕ) (st : State·rt) → whole b ≡ [] → kept_line st ≡ take kept_room b → Feeds m st ps
    → kept_line (last_state st ps) ≡ take kept_room (begun (b ++ used_bytes ps))
unfolding Feeds used_bytes used_of last_state
kept-begun [] m b st open-line kept feeds = kept ∙ ap (take kept_room) (sym (begun_all b open-line) ∙ ap begun (sym (append-nil b)))
kept-begun (p ∷ ps) m b st open-line kept feeds =
    let u = take p.fed.used p.input in
    kept-begun ps p.memory-after (begun (b ++ u)) p.fed.state (begun-open (b ++ u)) (kept_next b open-line kept feeds.0 feeds.1.0) feeds.1.1
    ∙ ap (take kept_room) (sym (joins (b ++ u) (used_bytes ps)).rest ∙ ap begun (append_assoc b u (used_bytes ps)))

-- Portions one behind the other, the first where a line b has begun.

pub portions : (ps : List Portion) (m b : List ℕ) (st : State·rt) → whole b ≡ [] → kept_line st ≡ take kept_room b → Feeds m st ps
    → listed_bytes ps ≡ list_memory (st.lines + 1) m (whole (b ++ used_bytes ps))
unfolding Feeds listed_bytes used_bytes listed_of used_of list_memory
portions [] m b st open-line kept feeds = sym (ap (list_memory (st.lines + 1) m) (ap whole (append-nil b) ∙ open-line))
portions (p ∷ ps) m b st open-line kept feeds =
    let f = subst (λ (k : List ℕ). BegunFed m k st.lines p.input p.output p.memory-after p.output-after p.fed) kept (feeds.0.enough feeds.1.0) in
    let u = take p.fed.used p.input in
    let j = joined b u open-line in
    let k = serves b u in
    let rest = used_bytes ps in
    let next-memory : p.memory-after ≡ after_lines m (whole (b ++ u)) = f.memory ∙ k.memory m ∙ ap (after_lines m) (sym j.lines) in
    let next-lines : p.fed.state.lines ≡ st.lines + length (whole (b ++ u)) =
    f.counted ∙ ap (λ (n : ℕ). st.lines + n) (k.many ∙ ap length (sym j.lines)) in
    let ih = portions ps p.memory-after (begun (b ++ u)) p.fed.state (begun-open (b ++ u)) (kept_next b open-line kept feeds.0 feeds.1.0) feeds.1.1 in
    let here : take p.fed.written p.output-after ≡ list_memory (st.lines + 1) m (whole (b ++ u)) =
    f.listed.written ∙ k.listed (st.lines + 1) m ∙ ap (list_memory (st.lines + 1) m) (sym j.lines) in
    let number : p.fed.state.lines + 1 ≡ st.lines + 1 + length (whole (b ++ u)) = omega arith in
    ap (λ (x : List ℕ). x ++ listed_bytes ps) here
    ∙ ap (λ (x : List ℕ). list_memory (st.lines + 1) m (whole (b ++ u)) ++ x)
    (ih ∙ ap (λ (n : ℕ). list_memory n p.memory-after (whole (begun (b ++ u) ++ rest))) number
    ∙ ap (λ (x : List ℕ). list_memory (st.lines + 1 + length (whole (b ++ u))) x (whole (begun (b ++ u) ++ rest))) next-memory)
    ∙ sym (list-append (st.lines + 1) m (whole (b ++ u)) (whole (begun (b ++ u) ++ rest)))
    ∙ ap (list_memory (st.lines + 1) m) (sym (joins (b ++ u) rest).lines ∙ ap whole (append_assoc b u rest))

-- The script's lines are whole where its last has its newline.

one_ended : (b : List ℕ) → lines_behind b (newline ∷ []) ≡ b ∷ []
unfolding lines_behind join_first all_but_last split
one_ended b = ap (λ (l : List ℕ). l ∷ []) (append-nil b)

last_some : (b : List ℕ) (x : ℕ) (c : List ℕ) → b ≡ x ∷ c → last_line b ≡ b ∷ []
unfolding last_line
last_some b x c e = rw e

pub ended-lines : (s : List ℕ) → whole (ended_script s) ≡ script_lines s
unfolding ended_script last_line
ended-lines s = go (begun s) refl
  where
    go : (b : List ℕ) → begun s ≡ b → whole (ended_script s) ≡ script_lines s
    go [] e = rw e (sym (lines-ended s ∙ rw e (append-nil (whole s))))
    go (x ∷ b) e =
        let o = (joined (begun s) (newline ∷ []) (begun-open s)).lines ∙ one_ended (begun s) in
        let w : whole (s ++ (newline ∷ [])) ≡ whole s ++ (begun s ∷ []) = (joins s (newline ∷ [])).lines ∙ ap (λ (ls : List (List ℕ)). whole s ++ ls) o in
        rw e (w ∙ ap (λ (ls : List (List ℕ)). whole s ++ ls) (sym (last_some (begun s) x b e)) ∙ sym (lines-ended s))

pub portions-listed : PortionsListed
portions-listed =
    record {
      listed = λ m s st ps long zero none feeds e.
          ap (λ (x : List ℕ). header ++ x) (portions ps (power_on_memory m).memory [] st whole-nil none feeds
          ∙ ap (λ (n : ℕ). list_memory (n + 1) (power_on_memory m).memory (whole (used_bytes ps))) zero
          ∙ ap (λ (x : List ℕ). list_memory 1 (power_on_memory m).memory (whole x)) e ∙ ap (list_memory 1 (power_on_memory m).memory) (ended-lines s))
          ∙ sym (listing-memory m s long);
    }

-- The calls of two lists.

pub feeds-append : (m : List ℕ) (st : State·rt) (ps qs : List Portion) → Feeds m st ps → Feeds (last_memory m ps) (last_state st ps) qs → Feeds m st (ps ++ qs)
unfolding Feeds last_memory last_state
feeds-append m st [] qs f g = g
feeds-append m st (p ∷ ps) qs f g = (f.0, (f.1.0, feeds-append p.memory-after p.fed.state ps qs f.1.1 g))

pub used-append : (ps qs : List Portion) → used_bytes (ps ++ qs) ≡ used_bytes ps ++ used_bytes qs
unfolding used_bytes
used-append [] qs = refl
used-append (p ∷ ps) qs = ap (λ (x : List ℕ). used_of p ++ x) (used-append ps qs) ∙ sym (append_assoc (used_of p) (used_bytes ps) (used_bytes qs))

pub memory-append : (m : List ℕ) (ps qs : List Portion) → last_memory m (ps ++ qs) ≡ last_memory (last_memory m ps) qs
unfolding last_memory
memory-append m [] qs = refl
memory-append m (p ∷ ps) qs = memory-append p.memory-after ps qs

pub state-append : (st : State·rt) (ps qs : List Portion) → last_state st (ps ++ qs) ≡ last_state (last_state st ps) qs
unfolding last_state
state-append st [] qs = refl
state-append st (p ∷ ps) qs = state-append p.fed.state ps qs

pub listed-append : (ps qs : List Portion) → listed_bytes (ps ++ qs) ≡ listed_bytes ps ++ listed_bytes qs
unfolding listed_bytes
listed-append [] qs = refl
listed-append (p ∷ ps) qs = ap (λ (x : List ℕ). listed_of p ++ x) (listed-append ps qs) ∙ sym (append_assoc (listed_of p) (listed_bytes ps) (listed_bytes qs))

-- The script's end.

-- what has begun is empty where its front is
front-empty : (b : List ℕ) → is_empty (take kept_room b) ≡ is_empty b
front-empty [] = refl
front-empty (x ∷ b) = refl

-- the newline that is fed is the script's last
pub ended_by : (s : List ℕ) (st : State·rt) → kept_line st ≡ take kept_room (begun s) → s ++ last_newline st ≡ ended_script s
unfolding last_newline ended_script
ended_by s st kept = go (is_empty (begun s)) refl
  where
    same : is_empty (kept_line st) ≡ is_empty (begun s)
    same = ap is_empty kept ∙ front-empty (begun s)

    go : (t : Bool) → is_empty (begun s) ≡ t → s ++ cond (is_empty (kept_line st)) [] (newline ∷ []) ≡ cond (is_empty (begun s)) s (s ++ (newline ∷ []))
    go true e = rw (same, e) (append-nil s)
    go false e = rw (same, e)

-- the listing of portions and of the end behind them
pub end-listed : (m s : List ℕ) (st : State·rt) (ps : List Portion) {out m' out' : List ℕ} {f : Fed·rt} → size ≤ length m → st.lines ≡ 0 → kept_line st ≡ []
    → Feeds (power_on_memory m).memory st ps
    → used_bytes ps ≡ s
    → FedTo (last_memory (power_on_memory m).memory ps) (last_state st ps) (last_newline (last_state st ps)) out m' out' f
    → f.stop ≡ AllUsed
    → header ++ (listed_bytes ps ++ take f.written out') ≡ listing s
unfolding Feeds used_bytes used_of listed_bytes listed_of
end-listed m s st ps {out} {m'} {out'} {f} long zero none feeds used ends stop =
    let m₀ = (power_on_memory m).memory in
    let last = last_state st ps in
    let few : (last_state st ps).lines + length (last_newline (last_state st ps)) < last_number = fed-numbers ends (λ e. all-or-number (sym stop ∙ e)) in
    let p : Portion = record { input = last_newline last; output = out; memory-after = m'; output-after = out'; fed = f } in
    let all : take f.used (last_newline last) ≡ last_newline last = take_all f.used (last_newline last) (let u = (ends.enough few).all-used stop in omega arith) in
    let kept : kept_line last ≡ take kept_room (begun s) = kept-begun ps m₀ [] st whole-nil none feeds ∙ ap (λ (x : List ℕ). take kept_room (begun x)) used in
    ap (λ (x : List ℕ). header ++ (listed_bytes ps ++ x)) (sym (append-nil (take f.written out')))
    ∙ ap (λ (x : List ℕ). header ++ x) (sym (listed-append ps (p ∷ [])))
    ∙ portions-listed.listed m s st (ps ++ (p ∷ [])) long zero none (feeds-append m₀ st ps (p ∷ []) feeds (ends, (few, tt)))
    (used-append ps (p ∷ []) ∙ ap (λ (x : List ℕ). x ++ (take f.used (last_newline last) ++ [])) used ∙ ap (λ (x : List ℕ). s ++ x) (append-nil (take f.used (last_newline last)) ∙ all)
    ∙ ended_by s last kept)
