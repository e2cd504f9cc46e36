-- An arrival's refusals, each where the tests before it fail, and its step: refused, or queued and finished. Assumes nothing.
use Prim.Native.Nat.{ℕ, suc, ◌≤◌, ◌<◌, zero}
use native.Mathlib.Omega.{arith}
use mathlib.Core.Bool.{Bool, true, false, cond, ◌||◌}
use mathlib.Core.List.{List, [], ◌∷◌}
use mathlib.Core.Path.{◌≡◌, refl, sym, ap, ◌∙◌}
use lib.Dec.{eqb, leb, ltb}
use lib.ListN.{length, length-append}
use borrow.Author.Tests.{eq-eqb, le-leb, le-ltb, lt-leb, lt-ltb, ne_eqb}
use Rattle.rules.specs.Build.{Build, paper01, page_count, group_count, word_limit}
use Rattle.rules.specs.Frames.{pledges}
use Rattle.rules.specs.Lists.{is_empty}
use Rattle.rules.specs.Node.{Message, Node, with_queue}
use Rattle.rules.specs.Operation.{accepted, arrive, bad_group, bad_words, no_frames, queue_full, Operation, refused}
use Rattle.rules.specs.Refusal.{queued, refusal, refuse_arrive}
use Rattle.rules.specs.Step.{act, valued}
use Rattle.rules.specs.Types.{report_of}
use Rattle.rules.specs.Valid.{GoodMessage, Valid}
use Rattle.rules.proofs.Steps.EveryLaws.{every_append}
use Rattle.rules.proofs.Steps.ListLaws.{length_some}
use Rattle.rules.specs.Sound.{Sound}
use Rattle.rules.proofs.Steps.StepLaws.{act-sound}
use Rattle.memory.specs.Holds.{Holds}
use Rattle.rules.specs.Numbers.{refusal_number}
use Rattle.rules.specs.declared.Refusal.{Refusal as Refusal·rt}
use Rattle.rules.specs.declared.Refusal.TheVariants.{NotNode, Unreadable, BadGroup, BadWords, QueueFull, NoFrames, NobodyRuns, NoMessage, PastMessage, StillPending, DescriptorFull, DescriptorEmpty, BadNode, BadSchedule, BadTicks, AlreadyRuns}
use Rattle.node.specs.Steps.{Acting, Stepping, report_refused}
use Rattle.node.proofs.StepMap.{acting-unsettled, one-act, stepping-refused}

-- a second test that passes
or_right : (t : Bool) → t || true ≡ true
or_right true = refl
or_right false = refl

-- a list with no element is empty
none-empty : (ws : List ℕ) → length ws ≡ 0 → is_empty ws ≡ true
none-empty [] e = refl
none-empty (w ∷ ws) e = absurd (omega arith)

module _ (b : Build) (n : Node) (g : ℕ) (ws : List ℕ) where
  -- the message that arrives
  abbrev message : Message
  message = record { group = g; words = ws }

  -- 6, or accepted
  abbrev by-pledges : ℕ
  by-pledges = cond (ltb (page_count b) (pledges b (queued message n))) no_frames accepted

  -- 5, or what comes after
  abbrev by-queue : ℕ
  by-queue = cond (leb b.places (length n.queue)) queue_full by-pledges

  -- 4, or what comes after
  abbrev by-words : ℕ
  by-words = cond (is_empty ws || ltb word_limit (length ws)) bad_words by-queue

  -- "3: group not 1 to 8."
  pub no-group : g ≡ 0 → refusal b n (arrive g ws) ≡ bad_group
  unfolding refusal refuse_arrive
  no-group e = ap (λ (t : Bool). cond (t || ltb group_count g) bad_group by-words) (eq-eqb g 0 e)

  pub high-group : group_count < g → refusal b n (arrive g ws) ≡ bad_group
  unfolding refusal refuse_arrive
  high-group h =
      ap (λ (t : Bool). cond (eqb g 0 || t) bad_group by-words) (lt-ltb group_count g h)
      ∙ ap (λ (t : Bool). cond t bad_group by-words) (or_right (eqb g 0))

  module _ (low : 1 ≤ g) (high : g ≤ group_count) where
    good-group : refusal b n (arrive g ws) ≡ by-words
    unfolding refusal refuse_arrive
    good-group =
        ap (λ (t : Bool). cond (t || ltb group_count g) bad_group by-words) (ne_eqb g 0 (λ e. omega arith))
        ∙ ap (λ (t : Bool). cond t bad_group by-words) (le-ltb group_count g high)

    -- "4: no words, or more than 8."
    pub no_words : length ws ≡ 0 → refusal b n (arrive g ws) ≡ bad_words
    no_words e = good-group ∙ ap (λ (t : Bool). cond (t || ltb word_limit (length ws)) bad_words by-queue) (none-empty ws e)

    pub many-words : word_limit < length ws → refusal b n (arrive g ws) ≡ bad_words
    many-words h =
        good-group
        ∙ ap (λ (t : Bool). cond (is_empty ws || t) bad_words by-queue) (lt-ltb word_limit (length ws) h)
        ∙ ap (λ (t : Bool). cond t bad_words by-queue) (or_right (is_empty ws))

  module _ (good : GoodMessage message) where
    good-words : refusal b n (arrive g ws) ≡ by-queue
    good-words =
        good-group good.group-low good.group-high
        ∙ ap (λ (t : Bool). cond (t || ltb word_limit (length ws)) bad_words by-queue) (length_some ws good.some_words)
        ∙ ap (λ (t : Bool). cond t bad_words by-queue) (le-ltb word_limit (length ws) good.few_words)

    -- "5: 16 messages already in the hardware queue."
    pub full-queue : b.places ≤ length n.queue → refusal b n (arrive g ws) ≡ queue_full
    full-queue h = good-words ∙ ap (λ (t : Bool). cond t queue_full by-pledges) (le-leb b.places (length n.queue) h)

    module _ (room : length n.queue < b.places) where
      queue-room : refusal b n (arrive g ws) ≡ by-pledges
      queue-room = good-words ∙ ap (λ (t : Bool). cond t queue_full by-pledges) (lt-leb b.places (length n.queue) room)

      -- "6: with this message the pledges would sum to above 32", which now reads 96
      pub above-pages : page_count b < pledges b (queued message n) → refusal b n (arrive g ws) ≡ no_frames
      above-pages h = queue-room ∙ ap (λ (t : Bool). cond t no_frames accepted) (lt-ltb (page_count b) (pledges b (queued message n)) h)

      -- accepted
      pub within-pages : pledges b (queued message n) ≤ page_count b → refusal b n (arrive g ws) ≡ accepted
      within-pages h = queue-room ∙ ap (λ (t : Bool). cond t no_frames accepted) (le-ltb (page_count b) (pledges b (queued message n)) h)

-- an accepted arrival: the message is good, the queue has room for it, and the node with it is sound
pub record Arriving (b : Build) (n : Node) (x : Message) : Type 0 where
  pub good : GoodMessage x
  pub room : length n.queue < b.places
  pub sound : Sound b (queued x n)

pub arriving : {b : Build} {n : Node} → Valid b n → (g : ℕ) (ws : List ℕ) → refusal b n (arrive g ws) ≡ 0
    → Arriving b n (record { group = g; words = ws })
unfolding act valued queued with_queue
arriving {b} {n} v g ws e =
    let x : Message = record { group = g; words = ws } in
    let s : Sound b (queued x n) = act-sound v (arrive g ws) e in
    record {
      good = ((every_append GoodMessage n.queue (x ∷ [])).0 s.queue-good).1.0;
      room = omega (arith, s.queue-length, length-append n.queue (x ∷ []));
      sound = s;
    }

-- a refused step
pub refusing : {m : List ℕ} {n : Node} {r : List ℕ} → Holds m n r → (op : Operation) (x : Refusal·rt) → refusal_number x ≡ refusal paper01 n op
    → Stepping m n r op (report_refused x)
refusing {m} {n} {r} h op x e = numbered (refusal_number x) (sym e) (refusal-some x)
  where
    -- no refusal has the number 0
    refusal-some : (x : Refusal·rt) → 1 ≤ refusal_number x
    refusal-some NotNode = omega arith
    refusal-some Unreadable = omega arith
    refusal-some BadGroup = omega arith
    refusal-some BadWords = omega arith
    refusal-some QueueFull = omega arith
    refusal-some NoFrames = omega arith
    refusal-some NobodyRuns = omega arith
    refusal-some NoMessage = omega arith
    refusal-some PastMessage = omega arith
    refusal-some StillPending = omega arith
    refusal-some DescriptorFull = omega arith
    refusal-some DescriptorEmpty = omega arith
    refusal-some BadNode = omega arith
    refusal-some BadSchedule = omega arith
    refusal-some BadTicks = omega arith
    refusal-some AlreadyRuns = omega arith

    numbered : (a : ℕ) → refusal paper01 n op ≡ a → 1 ≤ a → Stepping m n r op (report_of (refused a))
    numbered zero e some = absurd (omega arith)
    numbered (suc a) e some = stepping-refused op a e h

-- an accepted arrival is queued, and settling is to come
pub arrived : {m' : List ℕ} {n : Node} {r : List ℕ} (g : ℕ) (ws : List ℕ) → refusal paper01 n (arrive g ws) ≡ 0
    → Sound paper01 (queued (record { group = g; words = ws }) n) → Holds m' (queued (record { group = g; words = ws }) n) r
    → Acting m' n r (arrive g ws) 0 0
unfolding act valued
arrived {n = n} g ws e s h =
    acting-unsettled (arrive g ws) (queued (record { group = g; words = ws }) n) 0 0 (one-act n (arrive g ws) tt e refl) s (omega arith) h
