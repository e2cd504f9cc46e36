-- Lines played one after the other: what holds at each turn of the loop. Assumes nothing.
use Prim.Native.Nat.{◌+◌, ◌<◌, ◌≤◌, ℕ, ◌-◌}
use native.Mathlib.Nat.{add-zero}
use native.Mathlib.Numerals.{add-one}
use native.Mathlib.Decide.{dec_lt}
use native.Mathlib.Omega.{arith}
use mathlib.Core.Bool.{Bool, false, true}
use mathlib.Core.List.{List, [], ◌++◌, ◌∷◌, append-nil}
use mathlib.Core.Path.{◌∙◌, ◌≡◌, ap, refl, subst, sym}
use lib.ListN.{drop, length, length-append, length-set, set, take}
use lib.Seq.{length-take-le, take_all, take-append-le, take-suc-set}
use Rattle.rules.specs.Build.{word_limit}
use Rattle.rules.specs.MemoryTest.{MemoryStep, is_memory, step_memory}
use Rattle.rules.specs.Operation.{Operation, not_node, refused}
use Rattle.rules.specs.Script.{newline, read_line, report_line}
use Rattle.rules.specs.Types.{operation_of, report_of}
use Rattle.rules.specs.declared.Report.{Report as Report·rt}
use Rattle.rules.proofs.Demands.DemandOneLaws.{demand-one}
use Rattle.rules.proofs.Map.MapLaws.{test-valid}
use Rattle.rules.proofs.Map.RunMemory.{step-tested}
use Rattle.memory.specs.Answers.{Answers}
use Rattle.script.specs.Play.{part, Playable, LinePlayed, TextPlayable, TextPlayed, PlayedTo}
use Rattle.script.specs.Feeding.{after_lines, begun, list_memory, whole}
use Rattle.script.specs.Read.{LineRead, OneLine, line_end, line_of}
use Rattle.script.specs.Written.{Listed, silent, Counts, Counting, Appended, line_room}
use Rattle.script.specs.declared.write.Counter.{Counter as Counter·rt}
use Rattle.script.specs.declared.play.Played.{Played as Played·rt}
use Rattle.script.specs.declared.play.Stop.TheVariants.{AllUsed, NoRoom, LastNumber}
use Rattle.script.specs.declared.read.Line.{Line as Line·rt}
use Rattle.script.proofs.write.AppendedLaws.{appended-none, appended-as, appended_then, appended-within}
use Rattle.script.proofs.play.CutLaws.{grown, one-more, part-front, part_none}
use Rattle.script.proofs.write.ListingLaws.{step-listed, listed-few}
use Rattle.script.proofs.play.StopLaws.{stop-cases}
use Rattle.script.proofs.OneLineLaws.{begun-one, ended-begun, one-take, whole-one}
use Rattle.script.proofs.PortionLaws.{begun-nil, whole-nil, after-append, list-append}
use Rattle.script.specs.Written as Written

-- a step on memory that is no node
step-untested : (m : List ℕ) (op : Operation) → is_memory m ≡ false → step_memory m op ≡ record { report = refused not_node; memory = m }
unfolding step_memory
step-untested m op e = rw (e, step_memory)

-- whatever the memory, a step's report has room in a listing
pub report-listed : (m : List ℕ) (op : Operation) → Listed (step_memory m op).report
report-listed m op = go (is_memory m) refl
  where
    go : (t : Bool) → is_memory m ≡ t → Listed (step_memory m op).report
    go true e = subst (λ (s : MemoryStep). Listed s.report) (sym (step-tested m op e)) (step-listed (test-valid m e) op)
    go false e = subst (λ (s : MemoryStep). Listed s.report) (sym (step-untested m op e)) (silent refl)

-- whether memory is a node stays so
pub known-stays : (m : List ℕ) (op : Operation) → is_memory (step_memory m op).memory ≡ is_memory m
known-stays m op = go (is_memory m) refl
  where
    go : (t : Bool) → is_memory m ≡ t → is_memory (step_memory m op).memory ≡ is_memory m
    go true e = (demand-one.any_step m op).stays-node e ∙ sym e
    go false e = ap (λ (s : MemoryStep). is_memory s.memory) (step-untested m op e)

-- lines of s from a position on are played up to another
pub record Playing (m s : List ℕ) (from : ℕ) (out : List ℕ) (at : ℕ) (counter : Counter·rt) (m' out' : List ℕ) (counter' : Counter·rt) (used at' lines : ℕ) : Type 0 where
  pub forward : from ≤ used
  pub inside : used ≤ length s
  pub cut : begun (part s from used) ≡ []
  pub goes_on : begun (drop used s) ≡ []
  pub many : lines ≡ length (whole (part s from used))
  pub few : lines + from ≤ used
  pub known : is_memory m' ≡ is_memory m
  pub memory : m' ≡ after_lines m (whole (part s from used))
  pub listed : (i : ℕ) → Counts counter i → Appended out at out' at' (list_memory (i + 1) m (whole (part s from used)))
  pub counted : (i : ℕ) → Counts counter i → Counts counter' (i + length (whole (part s from used)))
  pub within : at' ≤ length out'
  pub same_length : length out' ≡ length out

-- none yet
pub playing-start : {m : List ℕ} {good : Bool} {s : List ℕ} {from : ℕ} {out : List ℕ} {at : ℕ} {counter : Counter·rt}
    → Playable m good s from out at counter → Playing m s from out at counter m out counter from at 0
unfolding after_lines list_memory
playing-start {m} {s = s} {from = from} {out = out} {at = at} {counter = counter} p =
    let none = part_none s from in
    let w : whole (part s from from) ≡ [] = ap whole none ∙ whole-nil in
    record {
      forward = omega arith;
      inside = p.inside;
      cut = ap begun none ∙ begun-nil;
      goes_on = p.lines;
      many = sym (ap length w);
      few = omega arith;
      known = refl;
      memory = rw w;
      listed = λ i c. rw w (appended-none out at);
      counted = λ i c. rw (w, add-zero i) c;
      within = p.within;
      same_length = refl;
    }

-- a line behind others
after_last : (m : List ℕ) (ks : List (List ℕ)) (l : List ℕ) → after_lines m (ks ++ (l ∷ [])) ≡ (step_memory (after_lines m ks) (read_line l)).memory
unfolding after_lines
after_last m ks l = after-append m ks (l ∷ [])

list-last : (i : ℕ) (m : List ℕ) (ks : List (List ℕ)) (l : List ℕ)
    → list_memory (i + 1) m (ks ++ (l ∷ [])) ≡ list_memory (i + 1) m ks ++ report_line (i + length ks + 1) (step_memory (after_lines m ks) (read_line l)).report
unfolding list_memory
list-last i m ks l =
    let e : i + 1 + length ks ≡ i + length ks + 1 = omega arith in
    list-append (i + 1) m ks (l ∷ [])
    ∙ ap (λ (bs : List ℕ). list_memory (i + 1) m ks ++ bs) (append-nil (report_line (i + 1 + length ks) (step_memory (after_lines m ks) (read_line l)).report) ∙ ap (λ (k : ℕ). report_line k (step_memory (after_lines m ks) (read_line l)).report) e)

-- one line more
pub playing-more : {m s : List ℕ} {from : ℕ} {out : List ℕ} {at : ℕ} {counter : Counter·rt} {m₁ out₁ : List ℕ} {counter₁ : Counter·rt} {used at₁ lines : ℕ}
    → Playing m s from out at counter m₁ out₁ counter₁ used at₁ lines → used < length s
    → {m₂ out₂ : List ℕ} {counter₂ : Counter·rt} {p : Played·rt} → at₁ + line_room ≤ length out₁ → length out₂ ≡ length out₁
    → LinePlayed m₁ s used out₁ at₁ counter₁ m₂ out₂ counter₂ p
    → Playing m s from out at counter m₂ out₂ counter₂ p.used p.at (lines + 1)
unfolding line_end
playing-more {m} {s} {from} {out} {at} {counter} {m₁} {out₁} {counter₁} {used} {at₁} {lines} q inside {m₂} {out₂} {counter₂} {p} room same l =
    let g = grown s from used q.forward inside q.goes_on in
    let t = line_of (drop used s) in
    let e : used + length t + 1 ≡ p.used = sym l.used in
    let c = part s from used in
    let o = one-more c (drop used s) q.cut in
    let w : whole (part s from p.used) ≡ whole c ++ (t ∷ []) = ap (λ (k : ℕ). whole (part s from k)) (sym e) ∙ ap whole g.grows ∙ o.0 in
    let op = read_line t in
    let last-memory : m₁ ≡ after_lines m (whole c) → (step_memory m₁ op).memory ≡ after_lines m (whole c ++ (t ∷ [])) =
    λ f. ap (λ (k : List ℕ). (step_memory k op).memory) f ∙ sym (after_last m (whole c) t) in
    let last-listed : (i : ℕ) → list_memory (i + 1) m (whole c) ++ report_line (i + length (whole c) + 1) (step_memory m₁ op).report ≡ list_memory (i + 1) m (whole c ++ (t ∷ [])) =
    λ i.
    ap (λ (k : List ℕ). list_memory (i + 1) m (whole c) ++ report_line (i + length (whole c) + 1) (step_memory k op).report) q.memory
    ∙ sym (list-last i m (whole c) t) in
    let longer : (i : ℕ) → i + length (whole c) + 1 ≡ i + length (whole (part s from p.used)) =
    λ i. let k = ap length w ∙ length-append (whole c) (t ∷ []) in omega arith in
    let known₂ : is_memory m₂ ≡ is_memory m₁ = ap is_memory l.memory ∙ known-stays m₁ (read_line t) in
    record {
      forward = let f = q.forward in omega arith;
      inside = subst (λ (k : ℕ). k ≤ length s) e g.inside;
      cut = ap (λ (k : ℕ). begun (part s from k)) (sym e) ∙ ap begun g.grows ∙ o.1;
      goes_on = subst (λ (k : ℕ). begun (drop k s) ≡ []) e g.rest;
      many = let k = longer 0 in let h = q.many in omega arith;
      few = let f = q.few in omega arith;
      known = known₂ ∙ q.known;
      memory = l.memory ∙ last-memory q.memory ∙ sym (ap (after_lines m) w);
      listed = λ i n.
          appended-as (appended_then (q.listed i n) (l.listed (i + length (whole c)) (q.counted i n)))
          (last-listed i ∙ sym (ap (list_memory (i + 1) m) w));
      counted = λ i n. subst (Counts counter₂) (longer i) (l.counted (i + length (whole c)) (q.counted i n));
      within = let a = l.at_most in omega arith;
      same_length = same ∙ q.same_length;
    }

-- One line.

-- a step of the operation that was read is a step of another that is the same
pub as_read : (m : List ℕ) {m' : List ℕ} {r : Report·rt} {op op' : Operation} → op ≡ op' → Answers m' r (step_memory m op) → Answers m' r (step_memory m op')
as_read m {m'} {r} e a = subst (λ (o : Operation). Answers m' r (step_memory m o)) e a

-- its step, whose report is listed
pub line-played : {m s : List ℕ} {from : ℕ} {fields out : List ℕ} {at : ℕ} {counter : Counter·rt} {m' out' : List ℕ} {counter' : Counter·rt} {l : Line·rt} {r : Report·rt} {end : ℕ}
    → LineRead s from fields l
    → Answers m' r (step_memory m (operation_of l.op (take (l.count - 1) (drop 1 fields))))
    → ((i : ℕ) → Counts counter i → Counts counter' (i + 1))
    → Written.Line counter' out at out' end r → end ≤ at + line_room
    → LinePlayed m s from out at counter m' out' counter' (record { used = l.next; at = end; lines = 1; stop = AllUsed })
line-played {m} {s} {from} read answers counts line few =
    let op = read_line (line_of (drop from s)) in
    let e = ap (step_memory m) read.operation in
    record {
      used = read.next;
      memory = answers.left ∙ ap (λ (x : MemoryStep). x.memory) e;
      listed = λ i c. line (i + 1) (step_memory m op).report (counts i c) (answers.reported ∙ ap (λ (x : MemoryStep). report_of x.report) e) (report-listed m op);
      counted = counts;
      at_most = few;
      going = refl;
    }

-- the same of a text of its own
-- the report has room
pub answered-few : (m : List ℕ) (op : Operation) {m' : List ℕ} {r : Report·rt} → Answers m' r (step_memory m op) → r.sent.len ≤ word_limit
answered-few m op a = subst (λ (x : Report·rt). x.sent.len ≤ word_limit) (sym a.reported) (listed-few (report-listed m op))

-- a line is never empty: its newline is used too
pub played-forward : {m s : List ℕ} {from : ℕ} {out : List ℕ} {at : ℕ} {counter : Counter·rt} {m' out' : List ℕ} {counter' : Counter·rt} {p : Played·rt}
    → LinePlayed m s from out at counter m' out' counter' p → from < p.used
unfolding line_end
played-forward l = let e = l.used in omega arith

-- The end.

-- what was played, and why it stopped
pub played-to : {m s : List ℕ} {from : ℕ} {out : List ℕ} {at : ℕ} {counter : Counter·rt} {m' out' : List ℕ} {counter' : Counter·rt} (p : Played·rt)
    → Playing m s from out at counter m' out' counter' p.used p.at p.lines
    → (p.stop ≡ AllUsed → p.used ≡ length s)
    → (p.stop ≡ NoRoom → length out' < p.at + line_room) → (p.stop ≡ LastNumber → ⊥)
    → PlayedTo m s from out at counter m' out' counter' p
played-to p q all room stops =
    record {
      forward = q.forward;
      inside = q.inside;
      cut = q.cut;
      memory = q.memory;
      listed = q.listed;
      counted = q.counted;
      lines = q.many;
      few = let f = q.few in let i = q.inside in omega arith;
      all-used = all;
      no_room = λ e. subst (λ (k : ℕ). k < p.at + line_room) q.same_length (room e);
      stops = stops;
    }

-- A line kept apart.

-- with its newline it is a text of whole lines
pub text-line : (text : List ℕ) (count : ℕ) → count < length text → take (count + 1) (set text count newline) ≡ take count text ++ (newline ∷ [])
text-line text count inside = ap (λ (k : ℕ). take k (set text count newline)) (add-one count) ∙ take-suc-set text count newline inside

pub text-playable : {m : List ℕ} {good : Bool} {text : List ℕ} {count : ℕ} {out : List ℕ} {counter : Counter·rt} → TextPlayable m good text count out counter
    → Playable m good (take (count + 1) (set text count newline)) 0 out 0 counter
text-playable {text = text} {count = count} h =
    let t = text-line text count h.inside in
    let l : length (take (count + 1) (set text count newline)) ≡ count + 1 = length-take-le (count + 1) (set text count newline) (let s = length-set text count newline in let i = h.inside in omega arith) in
    record {
      known = h.known;
      inside = omega arith;
      lines = ap begun t ∙ ended-begun (take count text) h.one;
      within = omega arith;
      counting = h.counting;
      few = let f = h.few in omega arith;
    }

-- all of it is played, since there is room for it
module _ {m line out : List ℕ} {counter : Counter·rt} {m' out' : List ℕ} {counter' : Counter·rt} {p : Played·rt} (one : OneLine line) (room : line_room ≤ length out)
    (counting : Counting counter) (q : PlayedTo m (line ++ (newline ∷ [])) 0 out 0 counter m' out' counter' p) where
  -- up to a position in the line no newline has come
  stopped : p.used ≤ length line → ⊥
  unfolding list_memory
  stopped early =
      let t : part (line ++ (newline ∷ [])) 0 p.used ≡ take p.used line =
      part-front (line ++ (newline ∷ [])) p.used ∙ take-append-le p.used line (newline ∷ []) early in
      let none : take p.used line ≡ [] = sym (begun-one (take p.used line) (one-take p.used line one)) ∙ ap begun (sym t) ∙ q.cut in
      let w : whole (part (line ++ (newline ∷ [])) 0 p.used) ≡ [] = ap whole (t ∙ none) ∙ whole-nil in
      let at = (q.listed counting.number counting.counts).end in
      let l : length (list_memory (counting.number + 1) m (whole (part (line ++ (newline ∷ [])) 0 p.used))) ≡ 0 =
      ap (λ (ls : List (List ℕ)). length (list_memory (counting.number + 1) m ls)) w in
      stop-cases p.stop (λ s. let u = q.all-used s in let k = length-append line (newline ∷ []) in omega arith)
      (λ s. let r = q.no_room s in omega arith)
      (λ s. q.stops s)

  all-played : part (line ++ (newline ∷ [])) 0 p.used ≡ line ++ (newline ∷ [])
  all-played =
      part-front (line ++ (newline ∷ [])) p.used
      ∙ take_all p.used (line ++ (newline ∷ []))
      (let l = length-append line (newline ∷ []) in elim (dec_lt (length line) p.used) [ yes h ↦ omega arith | no h ↦ absurd (stopped (omega arith)) ])

  pub text-played : TextPlayed m line out counter m' out' counter' p
  unfolding after_lines list_memory
  text-played =
      let w : whole (part (line ++ (newline ∷ [])) 0 p.used) ≡ line ∷ [] = ap whole all-played ∙ whole-one line one in
      record {
        memory = q.memory ∙ ap (after_lines m) w;
        listed = λ i c. appended-as (q.listed i c) (ap (list_memory (i + 1) m) w ∙ append-nil (report_line (i + 1) (step_memory m (read_line line)).report));
        counted = λ i c. subst (λ (ls : List (List ℕ)). Counts counter' (i + length ls)) w (q.counted i c);
        within = appended-within (q.listed counting.number counting.counts) (omega arith);
      }
