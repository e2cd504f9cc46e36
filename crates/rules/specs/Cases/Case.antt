-- How a case is written: a script with its listing, line beside line, or a script with the words that stand in memory after it; from power-on,
-- or from a node that is full of pages, which saves hundreds of arrivals. Assumes nothing.
use Rattle.std.specs.Prelude.{ℕ, zero, suc, ◌+◌, ◌-◌, ◌*◌, ◌≡◌, Bool, true, false, List, [], ◌∷◌, ◌++◌, map, eqb, length, take, drop, replicate}
use Prim.Native.String.{String}
use Rattle.rules.specs.Lists.{concat_map, up_from, pad}
use Rattle.rules.specs.Build.{paper01}
use Rattle.rules.specs.Node.{Place, Group, Node, empty_place, empty_group, with_buffer}
use Rattle.rules.specs.Memory.{words}
use Rattle.rules.specs.Text.{bytes, decimal}
use Rattle.rules.specs.Script.{script_lines, list_from, listing}
use Rattle.rules.specs.Run.{script_line, play, run}

-- a line of a script, and the line that its listing has for it: their bytes, the newlines too
pub record Line : Type 0 where
  pub asked : List ℕ
  pub listed : List ℕ

-- both as texts
infix 70 ◌gives◌
abbrev pub ◌gives◌ : String → String → Line
l gives r = record { asked = bytes l; listed = bytes r }

-- the same line k times, where the first is line i of its script: its report stands behind each line's number
abbrev pub times : ℕ → ℕ → String → String → List Line
times zero i l r = []
times (suc k) i l r = record { asked = bytes l; listed = decimal i ++ bytes r } ∷ times k (suc i) l r

-- the listing of the lines, put together to a script, is the header and their reports
abbrev pub Lists : List Line → Type 0
Lists ls =
    listing (concat_map (λ l. l.asked) ls) ≡ bytes "line,answer,value,trap,upcall,moved\n" ++ concat_map (λ l. l.listed) ls

-- the bytes of a text, k times
abbrev pub copies : ℕ → String → List ℕ
copies zero s = []
copies (suc k) s = bytes s ++ copies k s

-- the words in memory after a script
abbrev pub memory_after : List ℕ → List ℕ
memory_after s = words (run paper01 (map script_line (script_lines s))).node

-- these words stand there from address a on
abbrev pub Stands : List ℕ → ℕ → List ℕ → Type 0
Stands s a ws = take (length ws) (drop a (memory_after s)) ≡ ws

-- a stretch of memory: the address where it begins, and its words
pub record Stretch : Type 0 where
  pub start : ℕ
  pub held : List ℕ

infix 70 ◌holds◌
abbrev pub ◌holds◌ : ℕ → List ℕ → Stretch
a holds ws = record { start = a; held = ws }

-- the memory begins with these words, and what is behind them passes the test
abbrev pub begins : List ℕ → (List ℕ → Bool) → List ℕ → Bool
begins [] t m = t m
begins (w ∷ ws) t [] = false
begins (w ∷ ws) t (x ∷ m) = elim (eqb w x) [ true ↦ begins ws t m | false ↦ false ]

-- each stretch stands in the memory, whose words are those from address a on; the stretches come in the order of their addresses, so that
-- the memory is walked once
abbrev pub all_stand : ℕ → List Stretch → List ℕ → Bool
all_stand a [] m = true
all_stand a (p ∷ ps) m = begins p.held (all_stand (p.start + length p.held) ps) (drop (p.start - a) m)

-- after a script
abbrev pub Leaves : List ℕ → List Stretch → Type 0
Leaves s ps = all_stand 0 ps (memory_after s) ≡ true

-- the words of a place with a message of one word
abbrev pub kept : ℕ → List ℕ
kept w = 1 ∷ w ∷ replicate 7 0

-- such a place
abbrev pub one_word : ℕ → Place
one_word w = record { len = 1; words = pad 8 (w ∷ []) }

-- a group with these messages of one word in these pages, none used up
abbrev pub with_pages : List ℕ → List ℕ → Group
with_pages fs ws =
    with_buffer
    (record {
      used = 0;
      count = length ws;
      frames = fs;
      places = map one_word ws ++ replicate (8 * length fs - length ws) empty_place;
    })
    empty_group

-- nobody runs, no frame is free, and the order of entry is that of their numbers; the swap pages from number k on are free, and these are
-- groups 1 and 2
abbrev pub full : ℕ → Group → Group → Node
full k G1 G2 =
    record {
      running = 0;
      timer = 0;
      queue = [];
      free = [];
      paging = record { swap = up_from k (96 - k); entered = up_from 0 32; out = k - 32; brought = 0 };
      groups = G1 ∷ G2 ∷ replicate 6 empty_group;
    }

-- group 2 has k pages, 32 to 96, full of the word 7: the last 32 are in the frames, the others were sent out to the first swap pages
abbrev pub crowded : ℕ → Node
crowded k = full k empty_group (with_pages (up_from 32 (k - 32) ++ up_from 0 32) (replicate (8 * k) 7))

-- group 2 has these messages in the frames below k, and group 1 the other frames, full of the word 7
abbrev pub packed : ℕ → List ℕ → Node
packed k ws = full 32 (with_pages (up_from k (32 - k)) (replicate (8 * (32 - k)) 7)) (with_pages (up_from 0 k) ws)

-- the lines played from this node on have these reports
abbrev pub ListsFrom : Node → List Line → Type 0
ListsFrom n ls = list_from paper01 1 n (script_lines (concat_map (λ l. l.asked) ls)) ≡ concat_map (λ l. l.listed) ls

-- and leave these stretches
abbrev pub LeavesFrom : Node → List ℕ → List Stretch → Type 0
LeavesFrom n s ps = all_stand 0 ps (words (play paper01 n (map script_line (script_lines s))).node) ≡ true
