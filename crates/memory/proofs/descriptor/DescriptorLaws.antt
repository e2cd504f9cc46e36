-- The descriptor: a word joins a padded list, a group's descriptor is read where it stands, and written there. Assumes nothing.
use Prim.Native.Nat.{◌+◌, ◌<◌, ◌≤◌, pred, suc, zero, ℕ}
use native.Mathlib.Omega.{arith}
use mathlib.Core.List.{List, [], ◌++◌, ◌∷◌}
use mathlib.Core.Path.{◌∙◌, ◌≡◌, ap, refl, sym}
use lib.ListN.{length, length-append, set}
use Rattle.rules.specs.Build.{group_count, word_limit}
use Rattle.rules.specs.Lists.{pad}
use Rattle.rules.specs.Memory.{described_offset, descriptor_offset, group_address, group_words, list_words, word, words_at, pages_of}
use Rattle.rules.specs.Node.{Node, group_of, with_descriptor, with_free}
use Rattle.rules.proofs.Steps.ListLaws.{length-pad}
use Rattle.rules.proofs.Map.MapWords.{pad-stands, words_at-stands}
use Rattle.memory.specs.Descriptors.{descriptor_of, redescribed}
use Rattle.memory.specs.Holds.{Holds}
use Rattle.memory.specs.Writes.{Wrote}
use Rattle.memory.specs.declared.descriptor.Descriptor.{Descriptor as Descriptor·rt}
use Rattle.memory.proofs.group.GroupLaws.{group-whole, group-words, mapped-group, record-stands, record_front}
use Rattle.memory.proofs.PieceLaws.{holds-pieces, pieces-hold}
use Rattle.memory.proofs.PieceWrites.{group-put}
use Rattle.memory.proofs.WriteLaws.{widened}

-- a word joins a padded list that has room for it
joined : (k : ℕ) (d : List ℕ) (w : ℕ) → length d < k → set (pad k d) (length d) w ≡ pad k (d ++ (w ∷ []))
joined zero d w h = absurd (omega arith)
joined (suc k) [] w h = refl
joined (suc k) (x ∷ d) w h = ap (λ (l : List ℕ). x ∷ l) (joined k d w (omega arith))

-- so a descriptor has one word more
pub described-more : (d : List ℕ) (w : ℕ) (x : Descriptor·rt) → x ≡ descriptor_of d → x.len < word_limit
    → record { len = x.len + 1; words = set x.words x.len w } ≡ descriptor_of (d ++ (w ∷ []))
described-more d w x e l =
    let few : length d < word_limit = rw e at l in
    ap (λ (y : Descriptor·rt). record { len = y.len + 1; words = set y.words y.len w }) e
    ∙ (λ i. record { len = sym (length-append d (w ∷ [])) i; words = joined word_limit d w few i })

module _ {m : List ℕ} {n : Node} {r : List ℕ} (h : Holds m n r) (g : ℕ) (low : 1 ≤ g) (high : g ≤ group_count) where
  -- a group's descriptor is read
  pub descriptor-read : record { len = word m (group_address g + described_offset); words = words_at m (group_address g + descriptor_offset) word_limit }
      ≡ descriptor_of (group_of n g).descriptor
  descriptor-read =
      let d = (group_of n g).descriptor in
      let stands = group-words (holds-pieces h) h.mapped g low high in
      let padded = (pad-stands m (group_address g + descriptor_offset) word_limit d (group-whole h.mapped g low high).descriptor).1 (stands.descriptor, stands.descriptor-zero) in
      λ i. record {
        len = stands.described i;
        words = words_at-stands m (group_address g + descriptor_offset) word_limit (pad word_limit d) (length-pad word_limit d) padded i;
      }

  -- and written
  pub descriptor-held : {m₁ : List ℕ} (d : List ℕ) → length d ≤ word_limit → Wrote m m₁ (group_address g + described_offset) (length d ∷ pad word_limit d)
      → Holds m₁ (redescribed g d n) r
  unfolding redescribed with_descriptor with_free pages_of group_of group_words
  descriptor-held d few w =
      let v = h.mapped in
      let pieces = holds-pieces h in
      let G = group_of n g in
      let whole = group-whole v g low high in
      let all = widened w (group_address g)
      (record_front G ++ (length G.buffer.frames ∷ []))
      (length G.descriptor ∷ pad word_limit G.descriptor) (list_words G.buffer.frames) refl (ap suc (length-pad word_limit G.descriptor ∙ sym (length-pad word_limit d))) (record-stands pieces g low high) in
      pieces-hold
      (mapped-group v g low high (with_descriptor d G) n.free (record { descriptor = few; whole = whole.whole; places = whole.places }) v.free-short (λ x. refl))
      (group-put pieces g low high v.group-count (with_descriptor d G) all (pieces.group-pages (pred g) (omega arith)))
