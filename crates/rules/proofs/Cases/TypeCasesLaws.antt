-- The types' cases hold: each is computed from the definitions. Assumes nothing.
use mathlib.Core.Path.{refl}
use Rattle.rules.specs.Types.{operation_of as operation_named}
use Rattle.rules.specs.Text.{extend_first, split, is_digit, value_from}
use Rattle.rules.specs.Script.{is_number, number, and_number, numbers, group_and_words, one_field, no_field, yes_or_no, force_field, letters, lettered, only_byte, operation_of, read_fields, read_line}
use Rattle.rules.specs.Cases.TypeCases.{TypesHold}

pub types-hold : TypesHold
unfolding
    operation_named
    extend_first split is_digit value_from
    is_number number and_number numbers group_and_words one_field no_field yes_or_no force_field letters lettered only_byte operation_of read_fields read_line
types-hold =
    record {
      operations = λ x ws. refl;
      letters = refl;
      reports = refl;
      nothing-sent = refl;
      build = refl;
      shared-limits = refl;
    }
