-- What reading promises: a number, the fields behind a letter, and a whole line, each as the rules read it. Assumes nothing.
use Rattle.std.specs.Prelude.{ℕ, ◌+◌, ◌-◌, ◌≤◌, Bool, true, false, cond, not, ◌&&◌, ◌≢◌, ◌≡◌, List, [], ◌∷◌, eqb, leb, ltb, length, take, drop, get_or, Option as Maybe, Some, None, Result, Ok, Err}
use Prim.Native.Char.{code}
use Rattle.std.proofs.Math.Option.{Option, none, some}
use Rattle.rules.specs.Text.{split, is_digit}
use Rattle.rules.specs.Operation.{user, begin_atomic}
use Rattle.rules.specs.Script.{newline, line_limit, largest, number, numbers, yes_or_no, read_line}
use Rattle.rules.specs.Script as script
use Rattle.rules.specs.Types.{operation_of}
use Rattle.rules.specs.declared.Operation.{Operation as Operation·rt}
use Rattle.rules.specs.declared.Operation.TheVariants.{Unknown}
use Rattle.script.specs.declared.read.Digits.{Digits as Digits·rt}
use Rattle.script.specs.declared.read.Fields.{Fields as Fields·rt}
use Rattle.script.specs.declared.read.Line.{Line as Line·rt}

-- more numbers than a line has room for: each takes a comma and a digit
abbrev pub field_limit : ℕ
field_limit = 64

-- the line that a text begins with: its bytes up to the next newline, or all
unfoldable pub line_of : List ℕ → List ℕ
line_of [] = []
line_of (x ∷ xs) = elim (eqb x newline) [ true ↦ [] | false ↦ x ∷ line_of xs ]

-- a text without a newline is the line that it begins with
abbrev pub OneLine : List ℕ → Type 0
OneLine t = line_of t ≡ t

-- where the line ends that begins at a position: at its newline, or at the end of the text
unfoldable pub line_end : List ℕ → ℕ → ℕ
line_end s at = at + length (line_of (drop at s))

-- the decimal digits that a text begins with
unfoldable pub digits_of : List ℕ → List ℕ
digits_of [] = []
digits_of (x ∷ xs) = elim (is_digit x) [ true ↦ x ∷ digits_of xs | false ↦ [] ]

-- the numbers that stand behind a letter, each behind a comma; none where one is bad
unfoldable pub numbers_behind : List ℕ → Option (List ℕ)
numbers_behind [] = some []
numbers_behind (x ∷ xs) = elim (eqb x (code ",")) [ true ↦ numbers (split (code ",") xs) | false ↦ none ]

-- the same of a line: none where it is over its limit, the letter counted
unfoldable pub rest_of_line : List ℕ → Option (List ℕ)
rest_of_line r = cond (leb line_limit (length r)) none (numbers_behind r)

-- the number that was read, where there is one
abbrev pub found_number : Maybe ℕ → Option ℕ
found_number None = none
found_number (Some n) = some n

-- what is told where no number stands
abbrev pub no_number : ℕ → Digits·rt
no_number next = record { value = None; next = next }

-- digits read: how many they are and what they write decide
pub record Judged (value count next : ℕ) (d : Digits·rt) : Type 0 where
  pub found : found_number d.value ≡ cond (not (eqb count 0) && leb value largest) (some value) none
  pub behind : d.next ≡ next

-- the fields that end behind some bytes of their line
abbrev pub fields_ended : Bool → ℕ → ℕ → ℕ → Result Fields·rt ℕ
fields_ended line long count next = cond (line && ltb long line_limit) (Ok (record { count = count; next = next })) (Err next)

-- the fields that were read, where none is bad, and the position behind what was read
abbrev pub fields_of : List ℕ → Result Fields·rt ℕ → Option (List ℕ)
fields_of fields (Ok f) = some (take f.count fields)
fields_of fields (Err stop) = none

abbrev pub read_to : Result Fields·rt ℕ → ℕ
read_to (Ok f) = f.next
read_to (Err stop) = stop

-- a number read at a position
pub record NumberRead (s : List ℕ) (at : ℕ) (d : Digits·rt) : Type 0 where
  pub found : found_number d.value ≡ number (digits_of (drop at s))
  pub behind : (n : ℕ) → d.value ≡ Some n → d.next ≡ at + length (digits_of (drop at s))
  pub inside : d.next ≤ length s
  pub same_line : line_end s d.next ≡ line_end s at

-- the fields read at the position behind a letter
pub record FieldsRead (s : List ℕ) (at : ℕ) (fields : List ℕ) (r : Result Fields·rt ℕ) : Type 0 where
  pub found : fields_of fields r ≡ rest_of_line (line_of (drop at s))
  pub ended : (f : Fields·rt) → r ≡ Ok f → f.next ≡ line_end s at
  pub counted : (f : Fields·rt) → r ≡ Ok f → f.count ≤ field_limit
  pub inside : read_to r ≤ length s
  pub same_line : line_end s (read_to r) ≡ line_end s at

-- B by its number
unfoldable pub BeginRead : ℕ → Operation·rt → Type 0
BeginRead force op = operation_of op [] ≡ yes_or_no (λ f. user (begin_atomic f)) force

-- the operation of a letter without numbers
unfoldable pub Alone : ℕ → Operation·rt → Type 0
Alone letter op = operation_of op [] ≡ script.operation_of letter (some [])

-- of a letter but A, which takes any count of words, with one number
unfoldable pub WithNumber : ℕ → ℕ → Operation·rt → Type 0
WithNumber letter number op = letter ≢ code "A" → operation_of op [] ≡ script.operation_of letter (some (number ∷ []))

-- the operation of a letter and numbers, of which only the count and the first are at hand; the words of an arrival are those behind the first
unfoldable pub Lettered : ℕ → ℕ → ℕ → Operation·rt → Type 0
Lettered letter count first op =
    (ns : List ℕ) → length ns ≡ count → get_or ns 0 first ≡ first → operation_of op (drop 1 ns) ≡ script.operation_of letter (some ns)

-- what is told of a line that cannot be read
abbrev pub unreadable_line : ℕ → Line·rt
unreadable_line next = record { op = Unknown; count = 0; next = next }

-- a line read at a position: its operation, the words of an arrival behind the first field, and where the next line begins
pub record LineRead (s : List ℕ) (at : ℕ) (fields : List ℕ) (l : Line·rt) : Type 0 where
  pub operation : operation_of l.op (take (l.count - 1) (drop 1 fields)) ≡ read_line (line_of (drop at s))
  pub next : l.next ≡ line_end s at + 1
  pub counted : l.count ≤ field_limit

-- a text read as one line
pub record TextRead (text fields : List ℕ) (l : Line·rt) : Type 0 where
  pub operation : operation_of l.op (take (l.count - 1) (drop 1 fields)) ≡ read_line text
  pub next : l.next ≡ line_end text 0 + 1
  pub counted : l.count ≤ field_limit
