-- "The script and its listing": a line on each side of each of its sentences, script and listing byte for byte. Assumes nothing.
use Rattle.std.specs.Prelude.{ℕ, ◌≡◌, not, List, [], ◌∷◌, ◌++◌, map, eqb, replicate}
use Prim.Native.String.{String}
use Rattle.rules.specs.Lists.{filter, all, up_from}
use Rattle.rules.specs.Operation.{user, describe, unknown}
use Rattle.rules.specs.Text.{bytes}
use Rattle.rules.specs.Script.{read_line, script_lines, listing}
use Rattle.rules.specs.Cases.Case.{◌gives◌, copies, Lists}

-- all bytes but those of a text
abbrev pub bytes_but : String → List ℕ
bytes_but s = filter (λ c. all (λ d. not (eqb c d)) (bytes s)) (up_from 0 256)

-- the cases of that section, sentence by sentence
pub record ScriptCasesHold : Type 0 where
  -- a text's bytes: what the texts of the tables stand for
  pub text : bytes "line,0\n" ≡ 108 ∷ 105 ∷ 110 ∷ 101 ∷ 44 ∷ 48 ∷ 10 ∷ []
  -- "Empty input gives the header alone."
  pub empty-input : listing [] ≡ bytes "line,answer,value,trap,upcall,moved\n"
  -- "Fields stand in a fixed order": the letter first; each operation by its letter
  pub letters : Lists
      ("S,1\n" gives "1,0,0,0,0,0\n"
      ∷ "A,1,7\n" gives "2,0,0,0,1,0\n"
      ∷ "T,1\n" gives "3,0,0,0,0,0\n"
      ∷ "M\n" gives "4,0,1,0,0,0\n"
      ∷ "E,0\n" gives "5,0,7,0,0,0\n"
      ∷ "D\n" gives "6,0,0,0,0,0\n"
      ∷ "B\n" gives "7,0,0,0,0,0\n"
      ∷ "N\n" gives "8,0,0,0,0,0\n"
      ∷ "P,1\n" gives "9,0,1,0,0,0\n"
      ∷ "L,0\n" gives "10,0,1,0,0,0,0,1,1\n"
      ∷ "O\n" gives "11,0,0,0,0,0\n"
      ∷ "I,1\n" gives "12,0,0,0,0,0\n"
      ∷ "C\n" gives "13,0,0,0,0,0\n"
      ∷ "1,S\n" gives "14,2,0,0,0,0\n"
      ∷ ",S,1\n" gives "15,2,0,0,0,0\n"
      ∷ "7,1,A\n" gives "16,2,0,0,0,0\n"
      ∷ [])
  -- an operation is one capital letter: small ones, others, two, none
  pub one-capital : Lists
      ("S,1\n" gives "1,0,0,0,0,0\n"
      ∷ "a,1,7\n" gives "2,2,0,0,0,0\n"
      ∷ "s,2\n" gives "3,2,0,0,0,0\n"
      ∷ "t,1\n" gives "4,2,0,0,0,0\n"
      ∷ "m\n" gives "5,2,0,0,0,0\n"
      ∷ "e,0\n" gives "6,2,0,0,0,0\n"
      ∷ "d\n" gives "7,2,0,0,0,0\n"
      ∷ "b\n" gives "8,2,0,0,0,0\n"
      ∷ "n\n" gives "9,2,0,0,0,0\n"
      ∷ "p,1\n" gives "10,2,0,0,0,0\n"
      ∷ "l,0\n" gives "11,2,0,0,0,0\n"
      ∷ "o\n" gives "12,2,0,0,0,0\n"
      ∷ "i,1\n" gives "13,2,0,0,0,0\n"
      ∷ "c\n" gives "14,2,0,0,0,0\n"
      ∷ "R\n" gives "15,2,0,0,0,0\n"
      ∷ "X,1\n" gives "16,2,0,0,0,0\n"
      ∷ "AA,1,7\n" gives "17,2,0,0,0,0\n"
      ∷ "SS,2\n" gives "18,2,0,0,0,0\n"
      ∷ "MM\n" gives "19,2,0,0,0,0\n"
      ∷ "OO\n" gives "20,2,0,0,0,0\n"
      ∷ "OI,1\n" gives "21,2,0,0,0,0\n"
      ∷ "CC\n" gives "22,2,0,0,0,0\n"
      ∷ "S2\n" gives "23,2,0,0,0,0\n"
      ∷ "1\n" gives "24,2,0,0,0,0\n"
      ∷ ",\n" gives "25,2,0,0,0,0\n"
      ∷ [])
  -- no byte but the thirteen letters begins a line that is read: alone, before one number, before two
  pub other-letters : map (λ c. read_line (c ∷ [])) (bytes_but "ASOITCMEDBNPL") ≡ replicate 243 unknown
  pub other-letters-one : map (λ c. read_line (c ∷ bytes ",1")) (bytes_but "ASOITCMEDBNPL") ≡ replicate 243 unknown
  pub other-letters-two : map (λ c. read_line (c ∷ bytes ",1,7")) (bytes_but "ASOITCMEDBNPL") ≡ replicate 243 unknown
  -- "parted by commas": no other byte parts them
  pub commas : Lists
      ("S,1\n" gives "1,0,0,0,0,0\n"
      ∷ "S;2\n" gives "2,2,0,0,0,0\n"
      ∷ "S 2\n" gives "3,2,0,0,0,0\n"
      ∷ "S\t2\n" gives "4,2,0,0,0,0\n"
      ∷ "S.2\n" gives "5,2,0,0,0,0\n"
      ∷ "A,1;7\n" gives "6,2,0,0,0,0\n"
      ∷ "S,2\n" gives "7,0,0,0,0,0\n"
      ∷ [])
  -- none but the comma
  pub only-comma : map (λ c. read_line (bytes "S" ++ (c ∷ bytes "2"))) (bytes_but ",") ≡ replicate 255 unknown
  -- "no quoting, no blanks"
  pub no-blanks : Lists
      ("S,1\n" gives "1,0,0,0,0,0\n"
      ∷ " S,2\n" gives "2,2,0,0,0,0\n"
      ∷ "S ,2\n" gives "3,2,0,0,0,0\n"
      ∷ "S, 2\n" gives "4,2,0,0,0,0\n"
      ∷ "S,2 \n" gives "5,2,0,0,0,0\n"
      ∷ "S,\t2\n" gives "6,2,0,0,0,0\n"
      ∷ " M\n" gives "7,2,0,0,0,0\n"
      ∷ "M \n" gives "8,2,0,0,0,0\n"
      ∷ "S,\"2\"\n" gives "9,2,0,0,0,0\n"
      ∷ "\"S\",2\n" gives "10,2,0,0,0,0\n"
      ∷ "S,'2'\n" gives "11,2,0,0,0,0\n"
      ∷ [])
  -- "Numbers have 1 to 10 decimal digits": ten are read, eleven are not; one is, none is not
  pub ten-digits : Lists
      ("S,0000000002\n" gives "1,0,0,0,0,0\n"
      ∷ "S,00000000002\n" gives "2,2,0,0,0,0\n"
      ∷ "S,2\n" gives "3,0,0,0,0,0\n"
      ∷ "S,\n" gives "4,2,0,0,0,0\n"
      ∷ "P,4294967295\n" gives "5,0,1,0,0,0\n"
      ∷ "P,04294967295\n" gives "6,2,0,0,0,0\n"
      ∷ "P,1234567890\n" gives "7,0,2,0,0,0\n"
      ∷ "P,0\n" gives "8,0,3,0,0,0\n"
      ∷ "P,\n" gives "9,2,0,0,0,0\n"
      ∷ "L,0\n" gives "10,0,3,0,0,0,0,2,4294967295,1234567890,0\n"
      ∷ [])
  -- "decimal digits": the bytes before 0 and behind 9 are none, nor is a letter
  pub decimal-digits : Lists
      ("S,1\n" gives "1,0,0,0,0,0\n"
      ∷ "P,0\n" gives "2,0,1,0,0,0\n"
      ∷ "P,9\n" gives "3,0,2,0,0,0\n"
      ∷ "P,/\n" gives "4,2,0,0,0,0\n"
      ∷ "P,:\n" gives "5,2,0,0,0,0\n"
      ∷ "P,1/\n" gives "6,2,0,0,0,0\n"
      ∷ "P,:1\n" gives "7,2,0,0,0,0\n"
      ∷ "P,a\n" gives "8,2,0,0,0,0\n"
      ∷ "P,0x1\n" gives "9,2,0,0,0,0\n"
      ∷ "P,1e1\n" gives "10,2,0,0,0,0\n"
      ∷ "P,1.0\n" gives "11,2,0,0,0,0\n"
      ∷ "P,1_0\n" gives "12,2,0,0,0,0\n"
      ∷ "L,0\n" gives "13,0,2,0,0,0,0,1,0,9\n"
      ∷ [])
  -- each digit by its value, and no other byte, alone or behind a digit
  pub digits : map (λ c. read_line (bytes "P," ++ (c ∷ []))) (bytes "0123456789") ≡ map (λ w. user (describe w)) (up_from 0 10)
  pub other-digits : map (λ c. read_line (bytes "P," ++ (c ∷ []))) (bytes_but "0123456789") ≡ replicate 246 unknown
  pub other-digits-behind : map (λ c. read_line (bytes "P,1" ++ (c ∷ []))) (bytes_but "0123456789") ≡ replicate 246 unknown
  -- "no sign"
  pub no_sign : Lists
      ("S,+1\n" gives "1,2,0,0,0,0\n"
      ∷ "S,-1\n" gives "2,2,0,0,0,0\n"
      ∷ "S,1-\n" gives "3,2,0,0,0,0\n"
      ∷ "S,1+\n" gives "4,2,0,0,0,0\n"
      ∷ "S,-0\n" gives "5,2,0,0,0,0\n"
      ∷ "S,1\n" gives "6,0,0,0,0,0\n"
      ∷ [])
  -- "at most 4,294,967,295"
  pub largest : Lists
      ("S,1\n" gives "1,0,0,0,0,0\n"
      ∷ "T,4294967295\n" gives "2,15,0,0,0,0\n"
      ∷ "T,4294967296\n" gives "3,2,0,0,0,0\n"
      ∷ "T,9999999999\n" gives "4,2,0,0,0,0\n"
      ∷ "P,4294967295\n" gives "5,0,1,0,0,0\n"
      ∷ "P,4294967296\n" gives "6,2,0,0,0,0\n"
      ∷ "P,9999999999\n" gives "7,2,0,0,0,0\n"
      ∷ "L,0\n" gives "8,0,1,0,0,0,0,1,4294967295\n"
      ∷ [])
  -- "leading zeros are read"
  pub leading_zeros : Lists
      ("S,01\n" gives "1,0,0,0,0,0\n"
      ∷ "M\n" gives "2,0,0,0,0,0\n"
      ∷ "S,00\n" gives "3,0,0,0,0,0\n"
      ∷ "M\n" gives "4,7,0,0,0,0\n"
      ∷ "S,08\n" gives "5,0,0,0,0,0\n"
      ∷ "P,0000000010\n" gives "6,0,1,0,0,0\n"
      ∷ "P,010\n" gives "7,0,2,0,0,0\n"
      ∷ "L,003\n" gives "8,0,2,0,0,0,3,8,10,10\n"
      ∷ [])
  -- "A line ends with a newline (byte 10).": a carriage return and a NUL belong to the line
  pub newline : Lists
      ("S,1\n" gives "1,0,0,0,0,0\n"
      ∷ "S,2\r\n" gives "2,2,0,0,0,0\n"
      ∷ "S,2\0\n" gives "3,2,0,0,0,0\n"
      ∷ "\0\n" gives "4,2,0,0,0,0\n"
      ∷ "S,2\u{b}\n" gives "5,2,0,0,0,0\n"
      ∷ "S,2\n" gives "6,0,0,0,0,0\n"
      ∷ [])
  -- no other byte ends a line
  pub only-newline : map (λ c. script_lines (77 ∷ c ∷ 77 ∷ [])) (bytes_but "\n") ≡ map (λ c. (77 ∷ c ∷ 77 ∷ []) ∷ []) (bytes_but "\n")
  -- a byte above 127 is no letter and no digit
  pub not_ascii : Lists
      ("S,1\n" gives "1,0,0,0,0,0\n"
      ∷ "S,²\n" gives "2,2,0,0,0,0\n"
      ∷ "Á,1,7\n" gives "3,2,0,0,0,0\n"
      ∷ "S,Ù2\n" gives "4,2,0,0,0,0\n"
      ∷ "Ó,2\n" gives "5,2,0,0,0,0\n"
      ∷ "S,2\n" gives "6,0,0,0,0,0\n"
      ∷ [])
  -- "A line over 128 bytes, the newline not counted, .. is unreadable": 127 and 128 bytes are read (and have too many words), 129 are not,
  -- nor are their first 128, nor is the rest a line
  pub long-line : Lists
      ("S,1\n" gives "1,0,0,0,0,0\n"
      ∷ record { asked = bytes "A,1" ++ (copies 62 ",1" ++ bytes "\n"); listed = bytes "2,4,0,0,0,0\n" }
      ∷ record { asked = bytes "A,1,11" ++ (copies 61 ",1" ++ bytes "\n"); listed = bytes "3,4,0,0,0,0\n" }
      ∷ record { asked = bytes "A,1,11" ++ (copies 61 ",1" ++ bytes "1\n"); listed = bytes "4,2,0,0,0,0\n" }
      ∷ record { asked = bytes "A,1,11" ++ (copies 61 ",1" ++ bytes "M\n"); listed = bytes "5,2,0,0,0,0\n" }
      ∷ record { asked = copies 300 "M" ++ bytes "\n"; listed = bytes "6,2,0,0,0,0\n" }
      ∷ record { asked = copies 129 "M" ++ bytes "\n"; listed = bytes "7,2,0,0,0,0\n" }
      ∷ "M\n" gives "8,0,0,0,0,0\n"
      ∷ [])
  -- "an empty one": it has its number, one alone too, and several
  pub empty-line : Lists
      ("\n" gives "1,2,0,0,0,0\n"
      ∷ "M\n" gives "2,7,0,0,0,0\n"
      ∷ "\n" gives "3,2,0,0,0,0\n"
      ∷ "\n" gives "4,2,0,0,0,0\n"
      ∷ "S,1\n" gives "5,0,0,0,0,0\n"
      ∷ "\n" gives "6,2,0,0,0,0\n"
      ∷ [])
  -- a newline alone is one empty line
  pub one-empty-line : Lists
      ("\n" gives "1,2,0,0,0,0\n"
      ∷ [])
  -- "a bad number": an empty field, wherever it stands
  pub empty-field : Lists
      ("S,1\n" gives "1,0,0,0,0,0\n"
      ∷ "A,1,\n" gives "2,2,0,0,0,0\n"
      ∷ "A,1,7,\n" gives "3,2,0,0,0,0\n"
      ∷ "A,,7\n" gives "4,2,0,0,0,0\n"
      ∷ "A,1,,7\n" gives "5,2,0,0,0,0\n"
      ∷ "S,\n" gives "6,2,0,0,0,0\n"
      ∷ "S,,2\n" gives "7,2,0,0,0,0\n"
      ∷ "S,2,\n" gives "8,2,0,0,0,0\n"
      ∷ "E,\n" gives "9,2,0,0,0,0\n"
      ∷ "M,\n" gives "10,2,0,0,0,0\n"
      ∷ "D,\n" gives "11,2,0,0,0,0\n"
      ∷ "O,\n" gives "12,2,0,0,0,0\n"
      ∷ "I,\n" gives "13,2,0,0,0,0\n"
      ∷ "I,2,\n" gives "14,2,0,0,0,0\n"
      ∷ ",M\n" gives "15,2,0,0,0,0\n"
      ∷ ",O\n" gives "16,2,0,0,0,0\n"
      ∷ [])
  -- a bad number anywhere in a line, behind the ninth word too
  pub bad-number : Lists
      ("S,1\n" gives "1,0,0,0,0,0\n"
      ∷ "A,x,7\n" gives "2,2,0,0,0,0\n"
      ∷ "A,1,x\n" gives "3,2,0,0,0,0\n"
      ∷ "A,1,7,x,7\n" gives "4,2,0,0,0,0\n"
      ∷ "A,1,1,2,3,4,5,6,7,8,x\n" gives "5,2,0,0,0,0\n"
      ∷ "A,1,1,2,3,4,5,6,7,8,9,10,x\n" gives "6,2,0,0,0,0\n"
      ∷ "T,x\n" gives "7,2,0,0,0,0\n"
      ∷ "E,x\n" gives "8,2,0,0,0,0\n"
      ∷ "P,x\n" gives "9,2,0,0,0,0\n"
      ∷ "L,x\n" gives "10,2,0,0,0,0\n"
      ∷ "S,x\n" gives "11,2,0,0,0,0\n"
      ∷ "I,x\n" gives "12,2,0,0,0,0\n"
      ∷ [])
  -- "a wrong count of fields": one too few
  pub missing-field : Lists
      ("S,1\n" gives "1,0,0,0,0,0\n"
      ∷ "A\n" gives "2,2,0,0,0,0\n"
      ∷ "S\n" gives "3,2,0,0,0,0\n"
      ∷ "T\n" gives "4,2,0,0,0,0\n"
      ∷ "E\n" gives "5,2,0,0,0,0\n"
      ∷ "P\n" gives "6,2,0,0,0,0\n"
      ∷ "L\n" gives "7,2,0,0,0,0\n"
      ∷ "I\n" gives "8,2,0,0,0,0\n"
      ∷ "M\n" gives "9,0,0,0,0,0\n"
      ∷ [])
  -- one too many
  pub spare-field : Lists
      ("S,1\n" gives "1,0,0,0,0,0\n"
      ∷ "S,2,2\n" gives "2,2,0,0,0,0\n"
      ∷ "T,1,1\n" gives "3,2,0,0,0,0\n"
      ∷ "M,0\n" gives "4,2,0,0,0,0\n"
      ∷ "E,0,0\n" gives "5,2,0,0,0,0\n"
      ∷ "D,0\n" gives "6,2,0,0,0,0\n"
      ∷ "B,0,0\n" gives "7,2,0,0,0,0\n"
      ∷ "N,0\n" gives "8,2,0,0,0,0\n"
      ∷ "P,1,1\n" gives "9,2,0,0,0,0\n"
      ∷ "L,0,0\n" gives "10,2,0,0,0,0\n"
      ∷ "O,1\n" gives "11,2,0,0,0,0\n"
      ∷ "I,1,1\n" gives "12,2,0,0,0,0\n"
      ∷ "L,0\n" gives "13,12,0,0,0,0\n"
      ∷ "M\n" gives "14,0,0,0,0,0\n"
      ∷ [])
  -- "for A, any count of words is read": none is 4 and not 2, nine are 4, twenty are 4
  pub any-words : Lists
      ("A,1\n" gives "1,4,0,0,0,0\n"
      ∷ "A,1,7\n" gives "2,0,0,0,0,1\n"
      ∷ "A,1,1,2,3,4,5,6,7,8\n" gives "3,0,0,0,0,1\n"
      ∷ "A,1,1,2,3,4,5,6,7,8,9\n" gives "4,4,0,0,0,0\n"
      ∷ "A,1,1,2,3,4,5,6,7,8,9,0,1,2,3,4,5,6,7,8,9,0\n" gives "5,4,0,0,0,0\n"
      ∷ [])
  -- "A last line may lack its newline.", and is read like the others; the listing's line has its own
  pub last_line : Lists
      ("S,1\n" gives "1,0,0,0,0,0\n"
      ∷ "M" gives "2,0,0,0,0,0\n"
      ∷ [])
  -- the only line too
  pub last-line-alone : Lists
      ("S,1" gives "1,0,0,0,0,0\n"
      ∷ [])
  -- and one that cannot be read
  pub last-line-unreadable : Lists
      ("S,1\n" gives "1,0,0,0,0,0\n"
      ∷ "S,2," gives "2,2,0,0,0,0\n"
      ∷ [])
  -- behind the last newline there is no line
  pub no-line-behind : Lists
      ("S,1\n" gives "1,0,0,0,0,0\n"
      ∷ [])
  -- "line number from 1, answer (0 accepted), value, trap, upcall group or 0, moved": in decimal, no zeros in front
  pub numbers : Lists
      ("S,7\n" gives "1,0,0,0,0,0\n"
      ∷ "P,0\n" gives "2,0,1,0,0,0\n"
      ∷ "P,9\n" gives "3,0,2,0,0,0\n"
      ∷ "P,10\n" gives "4,0,3,0,0,0\n"
      ∷ "P,99\n" gives "5,0,4,0,0,0\n"
      ∷ "P,100\n" gives "6,0,5,0,0,0\n"
      ∷ "P,1000000000\n" gives "7,0,6,0,0,0\n"
      ∷ "P,4294967295\n" gives "8,0,7,0,0,0\n"
      ∷ "L,10\n" gives "9,0,7,0,0,0,10,7,0,9,10,99,100,1000000000,4294967295\n"
      ∷ "A,7,100\n" gives "10,0,0,0,7,0\n"
      ∷ "E,0\n" gives "11,0,100,0,0,0\n"
      ∷ [])
  -- each column of a report, none of them 0
  pub columns : Lists
      ("A,3,7\n" gives "1,0,0,0,0,1\n"
      ∷ "A,3,8\n" gives "2,0,0,0,0,1\n"
      ∷ "S,3\n" gives "3,0,0,0,3,0\n"
      ∷ "D\n" gives "4,0,0,1,0,0\n"
      ∷ "N\n" gives "5,0,0,2,3,0\n"
      ∷ "T,1\n" gives "6,0,0,0,0,0\n"
      ∷ "S,1\n" gives "7,0,0,0,0,0\n"
      ∷ "A,1,5\n" gives "8,0,0,0,1,0\n"
      ∷ "A,2,5,6\n" gives "9,0,0,0,0,0\n"
      ∷ "S,2\n" gives "10,0,0,0,2,2\n"
      ∷ "D\n" gives "11,0,0,1,0,0\n"
      ∷ "A,2,6,7\n" gives "12,0,0,0,0,0\n"
      ∷ "T,256\n" gives "13,0,0,3,0,1\n"
      ∷ "M\n" gives "14,0,2,0,0,0\n"
      ∷ [])
  -- "an accepted L adds node, group, words", a refused one nothing
  pub sent : Lists
      ("S,4\n" gives "1,0,0,0,0,0\n"
      ∷ "L,5\n" gives "2,12,0,0,0,0\n"
      ∷ "P,7\n" gives "3,0,1,0,0,0\n"
      ∷ "L,64\n" gives "4,13,0,0,0,0\n"
      ∷ "P,8\n" gives "5,0,2,0,0,0\n"
      ∷ "L,5\n" gives "6,0,2,0,0,0,5,4,7,8\n"
      ∷ "L,5\n" gives "7,12,0,0,0,0\n"
      ∷ "S,8\n" gives "8,0,0,0,0,0\n"
      ∷ "P,1\n" gives "9,0,1,0,0,0\n"
      ∷ "L,0\n" gives "10,0,1,0,0,0,0,8,1\n"
      ∷ [])
