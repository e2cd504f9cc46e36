-- What the functions that write a listing say of their output and of the line number kept as text. Assumes nothing.
use Prim.Native.Char.{code}
use Rattle.std.specs.Prelude.{ℕ, ◌+◌, ◌*◌, ◌≤◌, ◌<◌, cond, List, [], ◌∷◌, ◌++◌, ◌≡◌, eqb, length, take}
use Rattle.rules.specs.Build.{word_limit}
use Rattle.rules.specs.Lists.{concat_map}
use Rattle.rules.specs.Operation.{Report}
use Rattle.rules.specs.Script.{newline, report_line}
use Rattle.rules.specs.Text.{decimal}
use Rattle.rules.specs.Types.{report_of}
use Rattle.rules.specs.declared.Report.{Report as Report·rt}
use Rattle.rules.specs.declared.Sent.{Sent as Sent·rt}
use Rattle.script.specs.declared.write.Counter.{Counter as Counter·rt}

-- the bytes bs are written behind the first `at` of the output, which then is written up to at'
pub record Appended (out : List ℕ) (at : ℕ) (out' : List ℕ) (at' : ℕ) (bs : List ℕ) : Type 0 where
  pub same_length : length out' ≡ length out
  pub end : at' ≡ at + length bs
  pub written : take at' out' ≡ take at out ++ bs

-- a number as a field: a comma, then its decimal digits
unfoldable pub field : ℕ → List ℕ
field n = code "," ∷ decimal n

-- numbers as fields
unfoldable pub fields : List ℕ → List ℕ
fields ns = concat_map field ns

-- the count of digits that a counter has room for
abbrev pub places : ℕ
places = 20

-- the largest line number that they write
abbrev pub last_count : ℕ
last_count = 99_999_999_999_999_999_999

-- a counter stands at the number i: the first `len` of its digits write it
pub record Counts (counter : Counter·rt) (i : ℕ) : Type 0 where
  pub whole : length counter.digits ≡ places
  pub within : counter.len ≤ places
  pub text : take counter.len counter.digits ≡ decimal i

-- it stands at some number
pub record Counting (counter : Counter·rt) : Type 0 where
  pub number : ℕ
  pub counts : Counts counter number

-- it stands at some number that is not the largest
pub record Countable (counter : Counter·rt) : Type 0 where
  pub number : ℕ
  pub counts : Counts counter number
  pub below : number < last_count

-- what was sent, as numbers in the order of the listing: none where there are no words
unfoldable pub sent_numbers : Sent·rt → List ℕ
sent_numbers s = cond (eqb s.len 0) [] (s.node ∷ s.group ∷ take s.len s.words)

-- a line of the listing behind its number
unfoldable pub behind_number : Report·rt → List ℕ
behind_number r =
    fields (r.answer ∷ r.value ∷ r.trap ∷ r.upcall ∷ r.moved ∷ sent_numbers r.sent) ++ (newline ∷ [])

-- a report that a listing has room for: an accepted L sends node, group and 1 to 8 words, any other operation nothing
pub data Listed : Report → Type 0 where
  silent : {r : Report} → r.sent ≡ [] → Listed r
  sending : {r : Report} (k g : ℕ) (ws : List ℕ) → r.sent ≡ k ∷ g ∷ ws → 1 ≤ length ws → length ws ≤ word_limit → Listed r

-- the room that each takes, at most: a field is a comma and at most ten digits
abbrev pub field_room : ℕ
field_room = 11

-- eight words
abbrev pub words_room : ℕ
words_room = word_limit * field_room

-- node, group and words
abbrev pub sent_room : ℕ
sent_room = 2 * field_room + words_room

-- five fields, what was sent, and the newline
abbrev pub report_room : ℕ
report_room = 5 * field_room + sent_room + 1

-- a line: its number and the report are 186 bytes
abbrev pub line_room : ℕ
line_room = 192

-- whatever number i the counter stands at and whatever report r is, its line is written
abbrev pub Line : Counter·rt → List ℕ → ℕ → List ℕ → ℕ → Report·rt → Type 0
Line counter out at out' at' r =
    (i : ℕ) (q : Report) → Counts counter i → r ≡ report_of q → Listed q → Appended out at out' at' (report_line i q)
