-- The cases of O, I and S hold, by computation. Assumes nothing.
use mathlib.Core.Path.{refl}
use Rattle.rules.specs.Cases.SwitchCases.{PreemptCases, DispatchCases, SwitchCases}
use Rattle.rules.proofs.Cases.Computes.{computes}
use Rattle.rules.proofs.Cases.TestComputes.{same-words}

pub preempt-cases : PreemptCases
unfolding computes
preempt-cases =
    record {
      taken = refl;
      taken-words = refl;
      taken-forced = refl;
      taken-from-nobody = refl;
      taken-from-nobody-words = same-words _ _ refl;
      taken-in-order = refl;
      taken-full = refl;
      taken-none-spared = refl;
      taken-flags = refl;
    }

pub dispatch-cases : DispatchCases
unfolding computes
dispatch-cases =
    record {
      given_word = refl;
      given-upcall = refl;
      given-brought = refl;
      given-flags = refl;
      given-again = refl;
      given-revoked = refl;
      given-refused = refl;
    }

pub switch-cases : SwitchCases
unfolding computes
switch-cases =
    record {
      moved-summed = refl;
      as-two-lines = refl;
      same-words-left = same-words _ _ refl;
      same-pages-left = same-words _ _ refl;
      switch-to-nobody = refl;
      switch-from-nobody = refl;
      switch-from-nobody-words = same-words _ _ refl;
      switch-to-runner = refl;
      switch-to-runner-words = same-words _ _ refl;
      switch-nobody-to-nobody = same-words _ _ refl;
      switch-forced = refl;
      switch-refused = refl;
    }
