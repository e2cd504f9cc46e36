-- The queue in memory: a message is read where it stands, the front is dropped, a message joins the end. Assumes nothing.
use Prim.Native.Nat.{◌*◌, ◌+◌, ◌-◌, ◌<◌, ◌≤◌, ℕ}
use native.Mathlib.Omega.{arith}
use mathlib.Core.List.{List, [], ◌++◌, ◌∷◌, append_assoc, append-nil}
use mathlib.Core.Path.{◌∙◌, ◌≡◌, ap, refl, sym}
use lib.ListN.{drop, get_or, length, length-append, length-drop, length-replicate, replicate, take, take-append-drop}
use lib.Seq.{length-take-le}
use Rattle.rules.specs.Build.{paper01, word_limit}
use Rattle.rules.specs.Lists.{concat_map, pad}
use Rattle.rules.specs.Memory.{message_words, place_words, queue_at, queue_stride, queue_words, queued_at, word, words_at}
use Rattle.rules.specs.Node.{Message, Node, place_of}
use Rattle.rules.specs.Refusal.{queued}
use Rattle.rules.specs.Valid.{GoodMessage}
use Rattle.rules.proofs.Steps.EveryLaws.{every_append, every_drop, every-getD, every_of}
use Rattle.rules.proofs.Steps.ListLaws.{length-pad, length-parts, pad-fits}
use Rattle.rules.proofs.Map.MapParts.{length-message}
use Rattle.rules.proofs.Map.MapWords.{Stands, length-words_at, pad-stands, stands-cons, words_at-stands}
use Rattle.memory.specs.Holds.{blank, Holds, Kept, Queued, dropping}
use Rattle.memory.specs.Writes.{Wrote}
use Rattle.memory.proofs.PieceLaws.{holds-pieces, lists-stand}
use Rattle.memory.proofs.PieceWrites.{queue-held}
use Rattle.memory.proofs.WriteLaws.{covered, lengthened-by, shifted, wrote_as}

-- messages take ten words each
length-messages : (q : List Message) → length (concat_map message_words q) ≡ queue_stride * length q
length-messages q = length-parts message_words queue_stride q (every_of _ q (λ x h. length-message x))

module _ {m : List ℕ} {n : Node} {r : List ℕ} (h : Holds m n r) where
  -- the messages of the queue stand at its start
  queue-stands : Stands m queue_at (concat_map message_words n.queue)
  unfolding queue_words
  queue-stands =
      ((pad-stands m queue_at 160 (concat_map message_words n.queue) (omega (arith, length-messages n.queue, h.mapped.queue-length))).0
      (holds-pieces h).queue).0

  -- message i is read where it stands
  pub message-read : (i : ℕ) → i < length n.queue
      → (word m (queue_at + queue_stride * i) ≡ (get_or n.queue i blank).group)
      × Kept (word m (queue_at + queue_stride * i)) (word m (queue_at + queue_stride * i + 1)) (words_at m (queue_at + queue_stride * i + 2) 8) (get_or n.queue i blank)
  unfolding message_words place_words place_of
  message-read i l =
      let x = get_or n.queue i blank in
      let a = queue_at + queue_stride * i in
      let s = (lists-stand m message_words queue_stride blank length-message n.queue queue_at).0 queue-stands i l in
      let first = (stands-cons m a x.group (length x.words ∷ pad word_limit x.words)).0 s in
      let second = (stands-cons m (a + 1) (length x.words) (pad word_limit x.words)).0 first.1 in
      let e : a + 1 + 1 ≡ a + 2 = omega arith in
      let third : words_at m (a + 2) 8 ≡ pad word_limit x.words =
      words_at-stands m (a + 2) 8 (pad word_limit x.words) (length-pad word_limit x.words) (rw e at second.1) in
      (first.0, record { group = sym first.0; words = cc (second.0, third) })

  -- it is good
  pub message-good : (i : ℕ) → i < length n.queue → GoodMessage (get_or n.queue i blank)
  message-good i l = every-getD GoodMessage n.queue i blank h.mapped.queue-good l

  -- how many there are
  pub queue-count : (word m queued_at ≡ length n.queue) × (length n.queue ≤ 16)
  queue-count = ((holds-pieces h).queued, h.mapped.queue-length)

-- joined lists of messages
messages-append : (xs ys : List Message) → concat_map message_words (xs ++ ys) ≡ concat_map message_words xs ++ concat_map message_words ys
messages-append [] ys = refl
messages-append (x ∷ xs) ys = rw (messages-append xs ys) (sym (append_assoc (message_words x) (concat_map message_words xs) (concat_map message_words ys)))

-- the head leaves the queue
pub dropping-held : {m m₁ m₂ : List ℕ} {n : Node} {r : List ℕ} → Holds m n r → (i : ℕ) → Queued i n
    → Wrote m m₁ queue_at (words_at m (queue_at + queue_stride * i) (queue_stride * (word m queued_at - i)) ++ replicate (queue_stride * i) 0)
    → Wrote m₁ m₂ queued_at ((word m queued_at - i) ∷ []) → Holds m₂ (dropping i n) r
unfolding dropping queue_words
dropping-held {m} {m₁} {m₂} {n} {r} h i some w₁ w₂ =
    let p = holds-pieces h in
    let v = h.mapped in
    let q = n.queue in
    let us = concat_map message_words (take i q) in
    let vs = concat_map message_words (drop i q) in
    let lt : length (take i q) ≡ i = length-take-le i q some in
    let ld = length-drop i q in
    let lu : length us ≡ queue_stride * i = length-messages (take i q) ∙ ap (λ (k : ℕ). queue_stride * k) lt in
    let lv : length vs ≡ queue_stride * (word m queued_at - i) =
    length-messages (drop i q) ∙ ap (λ (k : ℕ). queue_stride * k) (ld ∙ ap (λ (k : ℕ). k - i) (sym p.queued)) in
    let parts : concat_map message_words q ≡ us ++ vs =
    ap (concat_map message_words) (sym (take-append-drop i q)) ∙ messages-append (take i q) (drop i q) in
    let count = p.queued in
    let few = v.queue-length in
    let w₁' : Wrote m m₁ queue_at (words_at m (queue_at + length us) (length vs) ++ replicate (length us) 0) = rw (lu, lv) w₁ in
    let lz : length (replicate {A = ℕ} (queue_stride * i) 0) ≡ queue_stride * i = length-replicate {A = ℕ} (queue_stride * i) 0 in
    let lw : length (words_at m (queue_at + queue_stride * i) (queue_stride * (word m queued_at - i)) ++ replicate (queue_stride * i) 0) ≤ 160 =
    omega (
      arith,
      length-append (words_at m (queue_at + queue_stride * i) (queue_stride * (word m queued_at - i))) (replicate (queue_stride * i) 0),
      length-words_at m (queue_at + queue_stride * i) (queue_stride * (word m queued_at - i)),
    ) in
    let moved : Stands m₁ queue_at (pad 160 vs) = shifted queue_at 160 us vs (omega arith) (rw parts at p.queue) w₁' in
    queue-held h (drop i q) (omega arith) (every_drop GoodMessage i q v.queue-good)
    (covered w₁ queue_at (pad 160 vs) (omega arith) (omega (arith, length-pad 160 vs)) moved)
    (wrote_as w₂ (ap (λ (k : ℕ). k ∷ []) (ap (λ (k : ℕ). k - i) count ∙ sym ld)))

-- a message is written behind the last of the queue, and counted
pub joined-held : {m m₁ m₂ : List ℕ} {n : Node} {r : List ℕ} → Holds m n r → (x : Message) → GoodMessage x → length n.queue < paper01.places
    → Wrote m m₁ (queue_at + queue_stride * word m queued_at) (x.group ∷ length x.words ∷ x.words)
    → Wrote m₁ m₂ queued_at ((word m queued_at + 1) ∷ []) → Holds m₂ (queued x n) r
unfolding queued queue_words message_words
joined-held {m} {m₁} {m₂} {n} {r} h x good room w₁ w₂ =
    let p = holds-pieces h in
    let q = n.queue in
    let us = concat_map message_words q in
    let vs : List ℕ = x.group ∷ length x.words ∷ x.words in
    let k = 8 - length x.words in
    let few = good.few_words in
    let lu : length us ≡ queue_stride * length q = length-messages q in
    let whole : message_words x ≡ vs ++ replicate k 0 = ap (λ (t : List ℕ). x.group ∷ length x.words ∷ t) (pad-fits 8 x.words few) in
    let all : us ++ (vs ++ replicate k 0) ≡ concat_map message_words (q ++ (x ∷ [])) =
    ap (λ (t : List ℕ). us ++ t) (sym whole ∙ sym (append-nil (message_words x))) ∙ sym (messages-append q (x ∷ [])) in
    let count = p.queued in
    let w : Wrote m m₁ queue_at (pad 160 (concat_map message_words (q ++ (x ∷ [])))) =
    wrote_as (lengthened-by queue_at 160 us vs k (queue_at + queue_stride * word m queued_at) (omega arith) (omega arith) p.queue w₁) (ap (pad 160) all) in
    let lq : length (q ++ (x ∷ [])) ≡ length q + 1 = length-append q (x ∷ []) in
    queue-held h (q ++ (x ∷ [])) (omega arith) ((every_append GoodMessage q (x ∷ [])).1 (h.mapped.queue-good, (good, tt))) w
    (wrote_as w₂ (ap (λ (k : ℕ). k ∷ []) (ap (λ (k : ℕ). k + 1) count ∙ sym lq)))
