-- A part of the memory that shows the first message of a line: it has the message's words, and is empty exactly where the line is. M and E are
-- answered from it: its length is M's value, E is refused by it, and reads one word of it where that stands. Assumes nothing.
use Prim.Native.Nat.{ℕ, ◌+◌, ◌≤◌, ◌<◌}
use native.Mathlib.Omega.{arith}
use mathlib.Core.Path.{◌≡◌, refl, ap, ◌∙◌}
use mathlib.Core.Bool.{true, false, true≢false, false≢true}
use mathlib.Core.List.{List, [], ◌∷◌}
use lib.Dec.{eqb}
use lib.ListN.{length, take, drop, get_or, length-drop}
use lib.Seq.{get_or-drop, get_or-take, length-take-le}
use borrow.Author.Tests.{eq-eqb, ne_eqb, le-leb, lt-leb}
use Rattle.rules.specs.Lists.{is_empty}
use Rattle.rules.specs.Build.{word_limit}
use Rattle.rules.specs.Node.{Message}
use Rattle.rules.specs.Operation.{accepted, no_message, past_message}
use Rattle.rules.specs.Refusal.{refuse_peek}
use Rattle.rules.specs.Step.{first_length, first_word}
use Rattle.rules.specs.Memory.{word}
use Rattle.rules.specs.MemoryTest.{Part, empty_part}

-- the words of the first message of a line
unfoldable pub first_words : List Message → List ℕ
first_words [] = []
first_words (x ∷ xs) = x.words

-- how many, and which, as M and E speak of them
first-length : (l : List Message) → first_length l ≡ length (first_words l)
unfolding first_length first_words
first-length [] = refl
first-length (x ∷ l) = refl

first-word : (l : List Message) (i : ℕ) → first_word l i ≡ get_or (first_words l) i 0
unfolding first_word first_words
first-word [] i = refl
first-word (x ∷ l) i = refl

-- an empty line has none
first-empty : (l : List Message) → is_empty l ≡ true → first_words l ≡ []
unfolding first_words
first-empty [] e = refl
first-empty (x ∷ xs) e = absurd (false≢true e)

-- E's refusals: none of its messages
peek-empty : (l : List Message) (i : ℕ) → is_empty l ≡ true → refuse_peek l i ≡ no_message
unfolding refuse_peek
peek-empty [] i e = refl
peek-empty (x ∷ l) i e = absurd (false≢true e)

-- past its first
peek-beyond : (l : List Message) (i : ℕ) → is_empty l ≡ false → first_length l ≤ i → refuse_peek l i ≡ past_message
unfolding refuse_peek first_length
peek-beyond [] i e h = absurd (true≢false e)
peek-beyond (x ∷ l) i e h = rw (le-leb _ i h)

-- within it
peek-within : (l : List Message) (i : ℕ) → i < first_length l → refuse_peek l i ≡ accepted
unfolding refuse_peek first_length
peek-within [] i h = absurd (omega arith)
peek-within (x ∷ l) i h = rw (lt-leb _ i h)

-- the words of a part of the memory
unfoldable pub part_words : List ℕ → Part → List ℕ
part_words m p = take p.len (drop p.start m)

-- word i of them is the one that stands i words behind the part's start
pub part-word : (m : List ℕ) (p : Part) (i d : ℕ) → i < p.len → get_or (part_words m p) i d ≡ get_or m (p.start + i) d
unfolding part_words
part-word m p i d below = get_or-take p.len (drop p.start m) i d below ∙ get_or-drop p.start m i d

-- A part that shows the first message of a line.

pub record Shows (m : List ℕ) (p : Part) (l : List Message) : Type 0 where
  -- it is within the memory
  pub inside : p.start + p.len ≤ length m
  pub few : p.len ≤ word_limit
  -- empty where the line is
  pub empty : is_empty l ≡ eqb p.len 0
  -- and has the message's words
  pub words : first_words l ≡ part_words m p

module _ {m : List ℕ} {p : Part} {l : List Message} (s : Shows m p l) where
  -- so M's answer is its length
  pub shown-length : first_length l ≡ p.len
  unfolding part_words
  shown-length =
      first-length l ∙ ap length s.words
      ∙ length-take-le p.len (drop p.start m) (rw (length-drop p.start m) (omega (arith, s.inside)))

  -- E is refused with 8 where it is empty
  pub shown-none : (i : ℕ) → p.len ≡ 0 → refuse_peek l i ≡ no_message
  shown-none i none = peek-empty l i (s.empty ∙ eq-eqb p.len 0 none)

  -- with 9 past its end
  pub shown-past : (i : ℕ) → 1 ≤ p.len → p.len ≤ i → refuse_peek l i ≡ past_message
  shown-past i some past = peek-beyond l i (s.empty ∙ ne_eqb p.len 0 (λ z. omega arith)) (rw shown-length past)

  -- and is else accepted
  pub shown-below : (i : ℕ) → i < p.len → refuse_peek l i ≡ accepted
  shown-below i below = peek-within l i (rw shown-length below)

  -- with the word that stands there
  pub shown-word : (i : ℕ) → i < p.len → first_word l i ≡ word m (p.start + i)
  unfolding word
  shown-word i below = first-word l i ∙ ap (λ (ws : List ℕ). get_or ws i 0) s.words ∙ part-word m p i 0 below

-- a line without messages is shown by the empty part
pub empty-shows : (m : List ℕ) (l : List Message) → is_empty l ≡ true → Shows m empty_part l
unfolding part_words
empty-shows m l e = record { inside = omega arith; few = omega arith; empty = e; words = first-empty l e }
