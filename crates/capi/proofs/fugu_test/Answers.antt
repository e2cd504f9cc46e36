-- `capi::fugu_test` meets its contract: the test's answer as a number. Assumes nothing.
use mathlib.Core.Bool.{Bool, true, false, cond}
use mathlib.Core.Path.{◌≡◌, ◌∙◌, ap, refl}
use mir.Val.{bool_byte}
use Rattle.capi.proofs.fugu_test.Goals as goal

number : (t : Bool) → bool_byte t ≡ cond t 1 0
number true = refl
number false = refl

pub returns : goal.returns
returns c = c.from.ensures ∙ number c.is_node.result ∙ ap (λ (t : Bool). cond t 1 0) c.is_node.ensures
