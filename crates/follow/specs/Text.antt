-- The room that the answer for a message takes as a line of text. Assumes nothing.
use Rattle.std.specs.Prelude.{ℕ}

-- the longest reason in words
abbrev pub words_room : ℕ
words_room = 54

-- a line: the words, three numbers of at most 20 digits, and 26 bytes around them
abbrev pub why_room : ℕ
why_room = 140
