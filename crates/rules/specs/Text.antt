-- Text as bytes: what scripts are read with and listings written with. Assumes nothing.
use Rattle.std.specs.Prelude.{ℕ, zero, suc, ◌+◌, ◌-◌, ◌*◌, ◌/◌, ◌%◌, Bool, true, false, ◌&&◌, List, [], ◌∷◌, ◌++◌, eqb, leb, ltb}
use Prim.Native.Char.{code}
use Prim.Native.String.{String, [] as end, ◌∷◌ as ◌then◌}

-- the codes of a text's characters: of an ASCII text its bytes
abbrev pub bytes : String → List ℕ
bytes end = []
bytes (c then s) = code c ∷ bytes s

-- x in front of the first part
unfoldable pub extend_first : ℕ → List (List ℕ) → List (List ℕ)
extend_first x [] = (x ∷ []) ∷ []
extend_first x (p ∷ ps) = (x ∷ p) ∷ ps

-- the parts of a text that the separator s parts: one more than there are separators
unfoldable pub split : ℕ → List ℕ → List (List ℕ)
split s [] = [] ∷ []
split s (x ∷ xs) = elim (eqb x s) [ true ↦ [] ∷ split s xs | false ↦ extend_first x (split s xs) ]

-- a decimal digit
unfoldable pub is_digit : ℕ → Bool
is_digit c = leb (code "0") c && leb c (code "9")

-- the number that decimal digits write, behind a number a already read
unfoldable pub value_from : ℕ → List ℕ → ℕ
value_from a [] = a
value_from a (c ∷ cs) = value_from (a * 10 + (c - code "0")) cs

-- the decimal digits of n, most significant first and no more than it takes, in front of a text; d bounds their count
unfoldable pub decimal_before : ℕ → ℕ → List ℕ → List ℕ
decimal_before zero n rest = rest
decimal_before (suc d) n rest =
    elim (ltb n 10) [
      | true ↦ (code "0" + n) ∷ rest
      | false ↦ decimal_before d (n / 10) ((code "0" + n % 10) ∷ rest)
    ]

-- the decimal digits of n
unfoldable pub decimal : ℕ → List ℕ
decimal n = decimal_before (suc n) n []

-- decimal numbers parted by commas
unfoldable pub row : List ℕ → List ℕ
row [] = []
row (n ∷ []) = decimal n
row (n ∷ m ∷ ns) = decimal n ++ (code "," ∷ row (m ∷ ns))
