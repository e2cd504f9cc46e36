-- "The script and its listing": a line read to an operation, a report written as a line, and the listing of a script. Assumes nothing.
use Rattle.std.specs.Prelude.{ℕ, zero, suc, Bool, true, false, cond, not, ◌&&◌, List, [], ◌∷◌, ◌++◌, eqb, leb, ltb, length}
use Prim.Native.Char.{code}
use Rattle.std.proofs.Math.Option.{Option, none, some}
use Rattle.rules.specs.Lists.{all, is_empty}
use Rattle.rules.specs.Text.{bytes, split, is_digit, value_from, row}
use Rattle.rules.specs.Build.{Build, paper01}
use Rattle.rules.specs.Node.{Node, power_on}
use Rattle.rules.specs.Operation.{poll, peek, dispose, begin_atomic, end_atomic, describe, launch}
use Rattle.rules.specs.Operation.{Operation, arrive, schedule, preempt, dispatch, tick, turn, user, unknown, Report}
use Rattle.rules.specs.Step.{step}

-- "A line ends with a newline (byte 10)."
abbrev pub newline : ℕ
newline = 10

-- "A line over 128 bytes, the newline not counted"
abbrev pub line_limit : ℕ
line_limit = 128

-- "at most 4,294,967,295"
abbrev pub largest : ℕ
largest = 4_294_967_295

-- "Numbers have 1 to 10 decimal digits, no sign, at most 4,294,967,295; leading zeros are read."
unfoldable pub is_number : List ℕ → Bool
is_number cs = not (is_empty cs) && (leb (length cs) 10 && (all is_digit cs && leb (value_from 0 cs) largest))

-- the number that a field writes, none where it is bad
unfoldable pub number : List ℕ → Option ℕ
number cs = cond (is_number cs) (some (value_from 0 cs)) none

-- a number in front of the numbers read behind it; none where either is bad
unfoldable pub and_number : Option ℕ → Option (List ℕ) → Option (List ℕ)
and_number none ns = none
and_number (some n) none = none
and_number (some n) (some ns) = some (n ∷ ns)

-- the numbers of all fields, none where one is bad
unfoldable pub numbers : List (List ℕ) → Option (List ℕ)
numbers [] = some []
numbers (f ∷ fs) = and_number (number f) (numbers fs)

-- "for A, any count of words is read"
unfoldable pub group_and_words : List ℕ → Operation
group_and_words [] = unknown
group_and_words (g ∷ ws) = arrive g ws

-- an operation with one field; "a wrong count of fields is unreadable"
unfoldable pub one_field : (ℕ → Operation) → List ℕ → Operation
one_field f [] = unknown
one_field f (x ∷ []) = f x
one_field f (x ∷ y ∷ ns) = unknown

-- an operation with no field
unfoldable pub no_field : Operation → List ℕ → Operation
no_field op [] = op
no_field op (x ∷ ns) = unknown

-- the operation in which the field is 0 or 1, and tells no or yes
unfoldable pub yes_or_no : (Bool → Operation) → ℕ → Operation
yes_or_no f zero = f false
yes_or_no f (suc zero) = f true
yes_or_no f (suc (suc x)) = unknown

-- B: "any other field on B is 2"
unfoldable pub force_field : (Bool → Operation) → List ℕ → Operation
force_field f [] = f false
force_field f (x ∷ ns) = one_field (yes_or_no f) (x ∷ ns)

-- the letter of each operation, with how its fields are read
pub record Letter : Type 0 where
  pub letter : ℕ
  pub fields : List ℕ → Operation

-- the table of operations
unfoldable pub letters : List Letter
letters =
    record { letter = code "A"; fields = group_and_words }
    ∷ record { letter = code "S"; fields = one_field schedule }
    ∷ record { letter = code "O"; fields = no_field preempt }
    ∷ record { letter = code "I"; fields = one_field dispatch }
    ∷ record { letter = code "T"; fields = one_field tick }
    ∷ record { letter = code "C"; fields = no_field turn }
    ∷ record { letter = code "M"; fields = no_field (user poll) }
    ∷ record { letter = code "E"; fields = one_field (λ x. user (peek x)) }
    ∷ record { letter = code "D"; fields = no_field (user dispose) }
    ∷ record { letter = code "B"; fields = force_field (λ f. user (begin_atomic f)) }
    ∷ record { letter = code "N"; fields = no_field (user end_atomic) }
    ∷ record { letter = code "P"; fields = one_field (λ x. user (describe x)) }
    ∷ record { letter = code "L"; fields = one_field (λ x. user (launch x)) }
    ∷ []

-- the operation of a letter and its fields
unfoldable pub lettered : ℕ → List Letter → List ℕ → Operation
lettered c [] ns = unknown
lettered c (l ∷ ls) ns = elim (eqb c l.letter) [ true ↦ l.fields ns | false ↦ lettered c ls ns ]

-- a field that is one byte, by this byte, and by 0, which is no letter, where it is none or several
unfoldable pub only_byte : List ℕ → ℕ
only_byte [] = 0
only_byte (c ∷ []) = c
only_byte (c ∷ d ∷ cs) = 0

-- "one with a bad number .. is unreadable"
unfoldable pub operation_of : ℕ → Option (List ℕ) → Operation
operation_of c none = unknown
operation_of c (some ns) = lettered c letters ns

-- "Fields stand in a fixed order, parted by commas, no quoting, no blanks."
unfoldable pub read_fields : List (List ℕ) → Operation
read_fields [] = unknown
read_fields (f ∷ fs) = operation_of (only_byte f) (numbers fs)

-- "A line over 128 bytes .. , an empty one, or one with a bad number or a wrong count of fields is unreadable"
unfoldable pub read_line : List ℕ → Operation
read_line l = cond (ltb line_limit (length l)) unknown (read_fields (split (code ",") l))

-- "A last line may lack its newline.": behind the last newline no line begins
unfoldable pub ended : List (List ℕ) → List (List ℕ)
ended [] = []
ended (l ∷ []) = cond (is_empty l) [] (l ∷ [])
ended (l ∷ m ∷ ls) = l ∷ ended (m ∷ ls)

-- a script's lines
unfoldable pub script_lines : List ℕ → List (List ℕ)
script_lines s = ended (split newline s)

-- "per line: line number from 1, answer (0 accepted), value, trap, upcall group or 0, moved; an accepted L adds node, group, words"
unfoldable pub report_line : ℕ → Report → List ℕ
report_line i r = row (i ∷ r.answer ∷ r.value ∷ r.trap ∷ r.upcall ∷ r.moved ∷ r.sent) ++ (newline ∷ [])

-- the listing's lines from line i on, where the node stands at n
unfoldable pub list_from : Build → ℕ → Node → List (List ℕ) → List ℕ
list_from b i n [] = []
list_from b i n (l ∷ ls) =
    let s = step b n (read_line l) in
    report_line i s.report ++ list_from b (suc i) s.node ls

-- "The listing has the header, then per line"
unfoldable pub header : List ℕ
header = bytes "line,answer,value,trap,upcall,moved\n"

-- from a script's bytes to its listing's bytes: "every script has its one listing"
unfoldable pub listing : List ℕ → List ℕ
listing s = header ++ list_from paper01 1 (power_on paper01) (script_lines s)
