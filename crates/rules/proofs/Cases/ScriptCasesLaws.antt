-- The cases of the script section hold, by computation. Assumes nothing.
use mathlib.Core.Path.{refl}
use Rattle.rules.specs.Cases.ScriptCases.{ScriptCasesHold}
use Rattle.rules.proofs.Cases.Computes.{computes}

pub script-cases-hold : ScriptCasesHold
unfolding computes
script-cases-hold =
    record {
      text = refl;
      empty-input = refl;
      letters = refl;
      one-capital = refl;
      other-letters = refl;
      other-letters-one = refl;
      other-letters-two = refl;
      commas = refl;
      only-comma = refl;
      no-blanks = refl;
      ten-digits = refl;
      decimal-digits = refl;
      digits = refl;
      other-digits = refl;
      other-digits-behind = refl;
      no_sign = refl;
      largest = refl;
      leading_zeros = refl;
      newline = refl;
      only-newline = refl;
      not_ascii = refl;
      long-line = refl;
      empty-line = refl;
      one-empty-line = refl;
      empty-field = refl;
      bad-number = refl;
      missing-field = refl;
      spare-field = refl;
      any-words = refl;
      last_line = refl;
      last-line-alone = refl;
      last-line-unreadable = refl;
      no-line-behind = refl;
      numbers = refl;
      columns = refl;
      sent = refl;
    }
