-- The rows of C, M, E, B, N, P and L. After C, M, E, B, P and L nothing is due, so that they touch what they do themselves; after N no message moves, since
-- the running group's may still stay, but its timer may come to rest and an upcall may be due. Assumes nothing.
use Prim.Native.Nat.{ℕ, pred, ◌≤◌}
use mathlib.Core.Bool.{Bool, true, false, true≢false, ◌||◌, or-true}
use mathlib.Core.List.{List, [], ◌∷◌, ◌++◌}
use mathlib.Core.Path.{◌≡◌, refl, sym, ap, ◌∙◌, subst}
use lib.Dec.{eqb}
use lib.ListN.{length-set}
use Rattle.rules.specs.Lists.{all}
use Rattle.rules.specs.Build.{Build}
use Rattle.rules.specs.Node.{Message, Group, Node, group_of, with_timer, with_group, with_flags, with_timer_flags, with_descriptor}
use Rattle.rules.specs.Paging.{runner_resident}
use Rattle.rules.specs.Operation.{poll, peek, begin_atomic, end_atomic, describe, launch, turn, user}
use Rattle.rules.specs.Settling.{Moved, may_stay, rest_timer, upcall}
use Rattle.rules.specs.Step.{Effect, Stepped, valued, timer_flagged, flagged, section_begun, section_ended, extending, described, launched, serve, act, finish}
use Rattle.rules.specs.Valid.{FirstInFrame, Valid}
use Rattle.rules.specs.Touches.{running, queue, atomic, pending, force, revoked, used, count, places, pages, descriptor, row, when, runs, request_row, row_of}
use Rattle.rules.proofs.Steps.NodeLaws.{group-same, kept}
use Rattle.rules.proofs.Steps.PagingLaws.{runner-quiet}
use Rattle.rules.proofs.Steps.SettlingLaws.{rest-cases}
use Rattle.rules.proofs.Steps.LineLaws.{stays, direct-none, may-stay}
use Rattle.rules.proofs.Steps.QuietLaws.{Quiet, staying-settle, runner-within, quiet-finish, valid-quiet, described-quiet, begun-quiet}
use Rattle.rules.proofs.Touches.PartLaws.{Kept, touched-inside, touched-same, touched-then, when-inside, when-none}
use Rattle.rules.proofs.Touches.TouchLaws.{Differs, Rows, group-touched, rest-touched, upcall-touched}

-- a step after which nothing is due leaves what it did
pub quiet-left : {b : Build} (e : Effect) → Quiet b e.node → (finish b e).node ≡ e.node
quiet-left e q = ap (λ (s : Stepped). s.node) (quiet-finish e q)

-- One group's flags, or its descriptor.

module _ (n : Node) (low : 1 ≤ n.running) where
  -- B
  begun-touched : (f : Bool) → Kept (row [] (λ g. when (runs n g) (atomic ∷ force ∷ []))) (section_begun f n) n
  unfolding section_begun flagged timer_flagged with_flags with_timer_flags with_group
  begun-touched f =
      let r = n.running in
      let G = group_of n r in
      touched-then {k = flagged true G.pending n}
      (touched-inside refl (λ g. when-inside (runs n g) (runs n g) (force ∷ []) (atomic ∷ force ∷ []) (λ e. e) refl)
      (group-touched (force ∷ []) r (with_timer_flags (f || G.force) G.revoked (group_of (flagged true G.pending n) r)) (flagged true G.pending n) low later))
      (touched-inside refl (λ g. when-inside (runs n g) (runs n g) (atomic ∷ []) (atomic ∷ force ∷ []) (λ e. e) refl)
      (group-touched (atomic ∷ []) r (with_flags true G.pending G) n low first))
    where
      G : Group
      G = group_of n n.running

      first : Differs (atomic ∷ []) (with_flags true G.pending G) G
      first atomic none = absurd (true≢false none)
      first pending none = refl
      first force none = refl
      first revoked none = refl
      first used none = refl
      first count none = refl
      first places none = refl
      first pages none = refl
      first descriptor none = refl

      H : Group
      H = group_of (flagged true G.pending n) n.running

      later : Differs (force ∷ []) (with_timer_flags (f || G.force) G.revoked H) H
      later atomic none = refl
      later pending none = refl
      later force none = absurd (true≢false none)
      later revoked none = sym (kept (λ K. K.revoked) n n.running (with_flags true G.pending G) refl n.running)
      later used none = refl
      later count none = refl
      later places none = refl
      later pages none = refl
      later descriptor none = refl

  -- B without force leaves it
  pub begun-leaves : (g : ℕ) → (group_of (section_begun false n) g).force ≡ (group_of n g).force
  unfolding section_begun flagged timer_flagged with_flags with_timer_flags with_group
  begun-leaves g =
      let r = n.running in
      let G = group_of n r in
      let first = kept (λ K. K.force) n r (with_flags true G.pending G) refl in
      kept (λ K. K.force) (flagged true G.pending n) r (with_timer_flags (false || G.force) G.revoked (group_of (flagged true G.pending n) r)) (sym (first r)) g
      ∙ first g

  -- and none turns it off
  pub begun-keeps : {b : Build} → Valid b n → (f : Bool) → (group_of n n.running).force ≡ true → (group_of (section_begun f n) n.running).force ≡ true
  unfolding section_begun flagged timer_flagged with_flags with_timer_flags with_group
  begun-keeps v f on =
      let r = n.running in
      let G = group_of n r in
      let k = flagged true G.pending n in
      ap (λ (K : Group). K.force)
      (group-same k r (with_timer_flags (f || G.force) G.revoked (group_of k r)) (rw (length-set n.groups (pred r) (with_flags true G.pending G)) (runner-within v)))
      ∙ ap (λ (t : Bool). f || t) on
      ∙ or-true f

  -- P and L
  described-touched : (d : List ℕ) → Kept (row [] (λ g. when (runs n g) (descriptor ∷ []))) (described d n) n
  unfolding described with_descriptor
  described-touched d = group-touched (descriptor ∷ []) n.running (with_descriptor d (group_of n n.running)) n low differs
    where
      differs : Differs (descriptor ∷ []) (with_descriptor d (group_of n n.running)) (group_of n n.running)
      differs atomic none = refl
      differs pending none = refl
      differs force none = refl
      differs revoked none = refl
      differs used none = refl
      differs count none = refl
      differs places none = refl
      differs pages none = refl
      differs descriptor none = absurd (true≢false none)

-- Operations after which nothing is due.

module _ {b : Build} {n : Node} (v : Valid b n) where
  pub turn-row : Rows b n turn (act b n turn)
  unfolding row_of act valued
  turn-row = touched-same (quiet-left (act b n turn) (valid-quiet v))

  pub poll-row : Rows b n (user poll) (serve b n poll)
  unfolding row_of request_row serve valued
  poll-row = touched-same (quiet-left (serve b n poll) (valid-quiet v))

  pub peek-row : (i : ℕ) → Rows b n (user (peek i)) (serve b n (peek i))
  unfolding row_of request_row serve valued
  peek-row i = touched-same (quiet-left (serve b n (peek i)) (valid-quiet v))

  pub begin-row : (f : Bool) → 1 ≤ n.running → Rows b n (user (begin_atomic f)) (serve b n (begin_atomic f))
  unfolding row_of request_row serve valued
  begin-row f low = touched-then (touched-same (quiet-left (serve b n (begin_atomic f)) (begun-quiet v f))) (begun-touched n low f)

  pub describe-row : (w : ℕ) → 1 ≤ n.running → Rows b n (user (describe w)) (serve b n (describe w))
  unfolding row_of request_row serve valued
  describe-row w low =
      let d = (group_of n n.running).descriptor ++ (w ∷ []) in
      touched-then (touched-same (quiet-left (serve b n (describe w)) (described-quiet v d))) (described-touched n low d)

  pub launch-row : (k : ℕ) → 1 ≤ n.running → Rows b n (user (launch k)) (serve b n (launch k))
  unfolding row_of request_row serve launched
  launch-row k low = touched-then (touched-same (quiet-left (serve b n (launch k)) (described-quiet v []))) (described-touched n low [])

-- N.

module _ {b : Build} {n : Node} (v : Valid b n) (low : 1 ≤ n.running) where
  abbrev unforced : Node
  unforced = timer_flagged false false n

  -- its flags
  ended-touched : Kept (row [] (λ g. when (runs n g) (atomic ∷ force ∷ revoked ∷ []))) (section_ended n) n
  unfolding section_ended timer_flagged flagged with_timer_flags with_flags with_group
  ended-touched =
      touched-then {k = unforced}
      (touched-inside refl (λ g. when-inside (runs n g) (runs n g) (atomic ∷ []) (atomic ∷ force ∷ revoked ∷ []) (λ e. e) refl)
      (group-touched (atomic ∷ []) n.running (with_flags false (group_of n n.running).pending H) unforced low later))
      (touched-inside refl (λ g. when-inside (runs n g) (runs n g) (force ∷ revoked ∷ []) (atomic ∷ force ∷ revoked ∷ []) (λ e. e) refl)
      (group-touched (force ∷ revoked ∷ []) n.running (with_timer_flags false false (group_of n n.running)) n low first))
    where
      H : Group
      H = group_of unforced n.running

      first : Differs (force ∷ revoked ∷ []) (with_timer_flags false false (group_of n n.running)) (group_of n n.running)
      first atomic none = refl
      first pending none = refl
      first force none = absurd (true≢false none)
      first revoked none = absurd (true≢false none)
      first used none = refl
      first count none = refl
      first places none = refl
      first pages none = refl
      first descriptor none = refl

      later : Differs (atomic ∷ []) (with_flags false (group_of n n.running).pending H) H
      later atomic none = absurd (true≢false none)
      later pending none = sym (kept (λ K. K.pending) n n.running (with_timer_flags false false (group_of n n.running)) refl n.running)
      later force none = refl
      later revoked none = refl
      later used none = refl
      later count none = refl
      later places none = refl
      later pages none = refl
      later descriptor none = refl

  -- force and revoked are off
  pub ended-force : (group_of (section_ended n) n.running).force ≡ false
  unfolding section_ended timer_flagged flagged with_timer_flags with_flags with_group
  ended-force =
      let r = n.running in
      kept (λ K. K.force) unforced r (with_flags false (group_of n r).pending (group_of unforced r)) refl r
      ∙ ap (λ (K : Group). K.force) (group-same n r (with_timer_flags false false (group_of n r)) (runner-within v))

  pub ended-revoked : (group_of (section_ended n) n.running).revoked ≡ false
  unfolding section_ended timer_flagged flagged with_timer_flags with_flags with_group
  ended-revoked =
      let r = n.running in
      kept (λ K. K.revoked) unforced r (with_flags false (group_of n r).pending (group_of unforced r)) refl r
      ∙ ap (λ (K : Group). K.revoked) (group-same n r (with_timer_flags false false (group_of n r)) (runner-within v))

  -- its buffer is as it was
  ended-buffer : ((group_of (section_ended n) n.running).buffer.count ≡ (group_of n n.running).buffer.count)
      × ((group_of (section_ended n) n.running).buffer.frames ≡ (group_of n n.running).buffer.frames)
  ended-buffer =
      let same = ended-touched.group n.running low v.running-bound in (
        same count (when-none count (atomic ∷ force ∷ revoked ∷ []) refl (runs n n.running)),
        same pages (when-none pages (atomic ∷ force ∷ revoked ∷ []) refl (runs n n.running)),
      )

  -- the head of the queue may stay
  pub ended-stays : (x : Message) (q : List Message) → (section_ended n).queue ≡ x ∷ q → may_stay (section_ended n) x ≡ true
  unfolding section_ended flagged timer_flagged with_group
  ended-stays x q e =
      let head = stays n x (v.head-stays x q e) in
      may-stay (section_ended n) x head.0 (ended-buffer.0 ∙ direct-none n n.running head.1) ended-revoked

  -- so nothing moves, no page is brought in, and the timer may be put to rest
  ended-left : (finish b (serve b n end_atomic)).node ≡ upcall (rest_timer (section_ended n))
  unfolding finish serve extending group_of with_timer
  ended-left =
      ap (λ (m : Moved). upcall (runner_resident b m.node)) (staying-settle b (section_ended n) ended-stays)
      ∙ ap upcall (runner-quiet b (rest_timer (section_ended n)) (rest-cases Resident (section_ended n) (λ e. first) (λ e. first)))
    where
      Resident : Node → Type 0
      Resident k = 1 ≤ k.running → FirstInFrame b (group_of k k.running).buffer.frames

      first : Resident (section_ended n)
      first low' =
          subst (λ (r : ℕ). FirstInFrame b (group_of (section_ended n) r).buffer.frames) (sym (ended-touched.node running refl))
          (subst (FirstInFrame b) (sym ended-buffer.1) (v.runner-resident low))

  pub end_row : Rows b n (user end_atomic) (serve b n end_atomic)
  unfolding row_of request_row
  end_row =
      let k = rest_timer (section_ended n) in
      let all = atomic ∷ pending ∷ force ∷ revoked ∷ [] in
      let same : k.running ≡ n.running = (rest-touched (section_ended n)).node running refl ∙ ended-touched.node running refl in
      touched-then {k = upcall k} (touched-same ended-left)
      (touched-then
      (touched-inside refl (λ g. when-inside (runs k g) (runs n g) (atomic ∷ pending ∷ []) all (λ e. ap (λ (r : ℕ). eqb r g) (sym same) ∙ e) refl) (upcall-touched k))
      (touched-then (touched-inside refl (λ g. refl) (rest-touched (section_ended n)))
      (touched-inside refl (λ g. when-inside (runs n g) (runs n g) (atomic ∷ force ∷ revoked ∷ []) all (λ e. e) refl) ended-touched)))
