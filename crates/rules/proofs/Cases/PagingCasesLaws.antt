-- The cases of swap space hold, by computation. Assumes nothing.
use mathlib.Core.Path.{refl}
use Rattle.rules.specs.Cases.PagingCases.{SendCases, BringCases, PageCountCases}
use Rattle.rules.proofs.Cases.Computes.{computes}
use Rattle.rules.proofs.Cases.TestComputes.{same-words}

pub send-cases : SendCases
unfolding computes
send-cases =
    record {
      crowded-words = same-words _ _ refl;
      packed-words = same-words _ _ refl;
      first_out = refl;
      third-out = refl;
      not-renewed-by-writing = refl;
      not-renewed-by-reading = refl;
      runner-spared = refl;
      second-not-spared = refl;
      other-not-spared = refl;
      other-flags-not-spared = refl;
      nobodys-first-not-spared = refl;
      own-last-not-spared = refl;
      new-runner-out-and-in = refl;
      timeout-sends = refl;
      whole = refl;
    }

pub bring-cases : BringCases
unfolding computes
bring-cases =
    record {
      write-brings = refl;
      freed-to-the-end = refl;
      write-exchanges = refl;
      last-place-written = refl;
      written-behind-used = refl;
      last-stays-in-swap = refl;
      last-stays-as-it-runs = refl;
      runner-writes = refl;
      own-first-not-spared = refl;
      runner-brought = refl;
      runner-exchanged = refl;
      exchanged-full = refl;
      renewed-by-exchange = refl;
      longest-of-all = refl;
      after-settling = refl;
      written-not-spared = refl;
      second-stays = refl;
      second-brought = refl;
      into-the-front = refl;
      not-before-needed = refl;
      later-stay-in-swap = refl;
      no-page-moves = refl;
    }

pub page-count-cases : PageCountCases
unfolding computes
page-count-cases =
    record {
      out_stays = refl;
      both-counted = refl;
      both-stay = refl;
      brought-stays = refl;
    }
