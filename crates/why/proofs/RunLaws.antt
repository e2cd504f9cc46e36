-- What the program writes is the line of what `why` tells. Assumes nothing.
use Prim.Native.Nat.{ℕ, zero, suc, ◌+◌, ◌≤◌, ◌<◌}
use mathlib.Core.Bool.{Bool, true, false, true≢false, ◌||◌}
use mathlib.Core.List.{List, [], ◌∷◌, ◌++◌}
use Rattle.std.proofs.Common.{◌⊎◌, inl, inr}
use mathlib.Core.Path.{◌≡◌, ◌∙◌, refl, sym, ap, subst}
use lib.Dec.{eqb, leb}
use lib.ListN.{length}
use borrow.Author.Tests.{eqb-true, le-leb, leb-true}
use Rattle.rules.specs.Build.{paper01}
use Rattle.rules.specs.Lists.{is_empty}
use Rattle.rules.specs.Memory.{size}
use Rattle.rules.specs.MemoryTest.{power_on_memory, replaced}
use Rattle.rules.specs.Node.{power_on}
use Rattle.rules.specs.Operation.{unreadable}
use Rattle.rules.specs.Run.{Event, arrived, run}
use Rattle.rules.proofs.Map.RunMemory.{power-on-tested}
use Rattle.reasons.specs.Follow.{unfollowed}
use Rattle.reasons.specs.Why.{Departure, Told, tell_event, tell_line, tell_message, why}
use Rattle.script.specs.Feed.{kept_line, last_number}
use Rattle.follow.specs.One.{Finished, followed_of, place_of, told_of}
use Rattle.follow.specs.Portions.{FollowsScript, Settled, last_memory, last_state}
use Rattle.follow.specs.declared.one.State.{State as State·rt}
use Rattle.follow.specs.declared.one.Told.{Told as Told·rt}
use Rattle.follow.proofs.PortionsLaws.{portions-told}
use Rattle.script.proofs.read.NumberLaws.{both-pass}
use Rattle.streams.specs.Turns as streams
use Rattle.why.specs.One.{AnswerTold, Answers, Reaches, RunTold, Runs, Tells, TellsEnd, Written, answer_line, is_refusal, settled}
use Rattle.why.specs.declared.one.Following.{Following as Following·rt}
use Rattle.why.specs.declared.one.Text.{Text as Text·rt}

-- power-on, a new state, a run, what is told of it, and its text
pub answers-told : {m : List ℕ} {w : ℕ} {m₀ : List ℕ} {st : State·rt} {m' : List ℕ} {t : Told·rt} {out' : List ℕ} {r : Text·rt}
    → size ≤ length m → m₀ ≡ replaced (power_on paper01) m
    → (st.script.lines ≡ 0) × ((kept_line st.script ≡ []) × ((st.wanted ≡ w) × (followed_of st.followed ≡ unfollowed)))
    → streams.Runs {P = Following·rt} {A = Told·rt} (λ m p bytes m' p'. Reaches m p.state bytes m' p'.state) (λ m p out m' out' t. TellsEnd m p.state m' t)
    (λ p t. (settled p.state ≡ true) × (t ≡ p.state.followed.told)) m₀ (record { state = st }) m' t
    → Written w (told_of t) out' r → Answers m w out' r
answers-told {m} {w} {m₀} {st} {m'} {t} {out'} {r} long start new run written = go run.stops
  where
    made : (ended : Bool) → Tells run.memory run.player.state ended m' t → Answers m w out' r
    made ended tells =
        record {
          state = st;
          new = record { none = new.0; empty = new.1.0; wanted = new.1.1.0; nothing = new.1.1.1 };
          memory = run.memory;
          last = run.player.state;
          runs =
              subst (λ (x : List ℕ). Runs x st run.memory run.player.state) (start ∙ sym (power-on-tested m (le-leb size (length m) long)))
              (record { script = run.goes_on.script; reaches = run.goes_on.reached });
          ended = ended;
          memory' = m';
          told = t;
          tells = tells;
          written = written;
        }

    go : ((out : List ℕ) × ((out' : List ℕ) × TellsEnd run.memory run.player.state m' t))
        ⊎ ((m' ≡ run.memory) × ((settled run.player.state ≡ true) × (t ≡ run.player.state.followed.told))) → Answers m w out' r
    go (inl e) = made true (record { at-end = λ _. e.1.1; before = λ f. absurd (true≢false f) })
    go (inr s) = made false (record { at-end = λ f. absurd (true≢false (sym f)); before = λ _. s.1 })

-- the test is the definition
settled-passes : (st : State·rt) → settled st ≡ true → Settled st
unfolding settled
settled-passes st e =
    let b = both-pass (leb st.wanted st.script.lines) (eqb (place_of st.followed.ahead) 0) e in
    record { passed = leb-true _ _ b.0; nowhere = eqb-true _ _ b.1 }

-- what is written is the line of what is told, and that is what `why` tells of s
answer-told : {m : List ℕ} {w : ℕ} {out' : List ℕ} {r : Text·rt} {s : List ℕ} (a : Answers m w out' r) → told_of a.told ≡ why s w → AnswerTold s w out' r
answer-told {w = w} a e = record { text = a.written.text ∙ ap (answer_line w) e; refused = a.written.refused ∙ ap is_refusal e }

module _ {m : List ℕ} {w : ℕ} {out' : List ℕ} {r : Text·rt} (long : size ≤ length m) (a : Answers m w out' r) where
  script-followed : FollowsScript m w a.state a.runs.reaches.calls a.runs.script
  script-followed = record { long = long; new = a.new; follows = a.runs.reaches.follows; read = a.runs.reaches.handed }

  told-end : a.ended ≡ true → told_of a.told ≡ why a.runs.script w
  told-end e =
      let q = a.runs.reaches in
      let t = a.tells.at-end e in
      let number : (last_state a.state q.calls).script.lines + 1 < last_number =
      subst (λ (x : State·rt). x.script.lines + 1 < last_number) (sym q.state) t.number in
      portions-told.told m a.runs.script w a.state q.calls a.memory' a.told script-followed
      (record {
        number = number;
        finishes =
            subst (λ (x : State·rt). Finished (last_memory (power_on_memory m).memory q.calls) x a.memory' a.told) (sym q.state)
            (subst (λ (x : List ℕ). Finished x a.last a.memory' a.told) (sym q.memory) t.finished);
      })

  told-before : a.ended ≡ false → (rest : List ℕ) → told_of a.told ≡ why (a.runs.script ++ rest) w
  told-before e rest =
      let q = a.runs.reaches in
      let t = a.tells.before e in
      ap told_of (t.1 ∙ ap (λ (x : State·rt). x.followed.told) (sym q.state))
      ∙ portions-told.settled m a.runs.script rest w a.state q.calls script-followed
      (subst Settled (sym q.state) (settled-passes a.last t.0))

-- `why` refuses with 2 or 17, or not at all
abbrev RefusedBy : Told → Type 0
RefusedBy t = is_refusal t ≡ eqb t.answer 2 || eqb t.answer 17

message-refused : (last : ℕ) (ds : List Departure) (k : ℕ) → RefusedBy (tell_message last ds k)
unfolding tell_message
message-refused last [] k = refl
message-refused last (d ∷ ds) zero = refl
message-refused last (d ∷ ds) (suc k) = message-refused last ds k

event-refused : (last : ℕ) (ds : List Departure) (k : ℕ) (e : Event) → RefusedBy (tell_event last ds k e)
unfolding tell_event
event-refused last ds k e = go (eqb e.report.answer unreadable) (is_empty (arrived e)) refl refl
  where
    go : (two none : Bool) → eqb e.report.answer unreadable ≡ two → is_empty (arrived e) ≡ none → RefusedBy (tell_event last ds k e)
    go true none p q = rw p
    go false true p q = rw (p, q)
    go false false p q = rw (p, q) (message-refused last ds k)

line_refused : (last : ℕ) (ds : List Departure) (k : ℕ) (es : List Event) (w : ℕ) → RefusedBy (tell_line last ds k es w)
unfolding tell_line
line_refused last ds k [] w = refl
line_refused last ds k (e ∷ es) zero = refl
line_refused last ds k (e ∷ es) (suc zero) = event-refused last ds k e
line_refused last ds k (e ∷ es) (suc (suc w)) = line_refused last ds (k + length (arrived e)) es (suc w)

pub run-told : RunTold
unfolding why
run-told =
    record {
      at-end = λ m w out' r long a e. answer-told a (told-end long a e);
      before = λ m w out' r long a e rest. answer-told a (told-before long a e rest);
      refusals = λ s w. line_refused _ _ 0 _ w;
    }
