-- The cases of the memory hold. The memory test is computed as TestComputes says. Assumes nothing.
use mathlib.Core.Path.{◌≡◌, refl, ◌∙◌}
use mathlib.Core.Bool.{true}
use mathlib.Core.List.{[], ◌∷◌, ◌++◌}
use lib.ListN.{take}
use Rattle.rules.specs.Operation.{schedule, user, dispose}
use Rattle.rules.specs.MemoryTest.{is_memory}
use Rattle.rules.specs.Cases.MemoryCases.{cut, fresh, forced, busy, seven_used, swapped, first_swapped, nobodys}
use Rattle.rules.specs.Cases.MemoryCases.{MapCases, StepOnMemoryCases, NodeCases, NoNodeCases, HeadCases, CountCases}
use Rattle.rules.proofs.Cases.Computes.{computes}
use Rattle.rules.proofs.Cases.MemoryParts.{counts-in, flags-in, unused-in, idle-in}
use Rattle.rules.proofs.Cases.TestComputes.{words-fail, node-fails, page-fails, is-node, same-words, step-report, step-writes, step-refused, head_of, head-reads, head-none, counts-of, counts-none}

pub map_cases : MapCases
unfolding computes
map_cases =
    record {
      fresh-words = same-words _ _ refl;
      fresh-size = refl;
      busy-words = same-words _ _ refl;
      last_frame = refl;
      last-page = refl;
      last-queued = refl;
      last-described = refl;
    }

-- memories that the cases below speak of more than once
fresh-node : is_memory fresh ≡ true
unfolding computes
fresh-node = is-node _ refl

-- the busy node, with a word past its size
busy-node : is_memory (busy ++ (7 ∷ [])) ≡ true
unfolding computes
busy-node = is-node _ refl

-- the one with seven places used up
seven-used : is_memory seven_used ≡ true
unfolding computes
seven-used = is-node _ refl

-- the one with a page in swap
swapped-node : is_memory swapped ≡ true
unfolding computes
swapped-node = is-node _ refl

-- the one with a first page in swap
first-swapped : is_memory first_swapped ≡ true
unfolding computes
first-swapped = is-node _ refl

-- the one in which they are group 1's pages
nobodys-node : is_memory nobodys ≡ true
unfolding computes
nobodys-node = is-node _ refl

-- the one whose timer force keeps
forced-timer : is_memory forced ≡ true
unfolding computes
forced-timer = is-node _ refl

pub node-cases : NodeCases
unfolding computes
node-cases =
    record {
      fresh-node = fresh-node;
      busy-node = busy-node;
      full-queue-node = is-node _ refl;
      seven-used = seven-used;
      edges = is-node _ refl;
      swapped-node = swapped-node;
      first-swapped = first-swapped;
      nothing-sent-out = is-node _ refl;
      nobodys-node = nobodys-node;
      forced-timer = forced-timer;
    }

pub no-node-cases : NoNodeCases
unfolding computes
no-node-cases =
    record {
      too_short = words-fail _ 0 refl;
      no_words = words-fail _ 0 refl;
      running-nine = node-fails _ 0 refl;
      queue-seventeen = words-fail _ 1 (counts-in _ ∙ refl);
      descriptor-nine = words-fail _ 1 (counts-in _ ∙ refl);
      free-33 = words-fail _ 1 (counts-in _ ∙ refl);
      list-97 = words-fail _ 1 (counts-in _ ∙ refl);
      swap-65 = words-fail _ 1 (counts-in _ ∙ refl);
      entered-33 = words-fail _ 1 (counts-in _ ∙ refl);
      group-zero = node-fails _ 3 refl;
      group-nine = node-fails _ 3 refl;
      length-zero = node-fails _ 3 refl;
      length-nine = words-fail _ 1 (counts-in _ ∙ refl);
      length-zero-buffered = node-fails _ 5 refl;
      length-nine-buffered = node-fails _ 5 refl;
      length-zero-swapped = node-fails _ 5 refl;
      length-nine-swapped = node-fails _ 5 refl;
      eight-used = node-fails _ 5 refl;
      timer-256 = node-fails _ 1 refl;
      frame-twice = page-fails _ 1 refl;
      frame-missing = page-fails _ 31 refl;
      frame-listed-and-free = page-fails _ 0 refl;
      frame-listed-twice = page-fails _ 1 refl;
      swap-twice = page-fails _ 33 refl;
      swap-missing = page-fails _ 95 refl;
      swap-listed-and-free = page-fails _ 37 refl;
      swap-listed-twice = page-fails _ 37 refl;
      page-96 = page-fails _ 95 refl;
      page-97th = node-fails _ 7 refl;
      swap-97 = node-fails _ 7 refl;
      free-97 = node-fails _ 7 refl;
      listed-98 = node-fails _ 7 refl;
      frame-in-swap-line = node-fails _ 8 refl;
      swap-in-free-line = node-fails _ 10 refl;
      entered-missing = node-fails _ 9 refl;
      entered-another = node-fails _ 9 refl;
      entered-twice = node-fails _ 9 refl;
      entered-free = node-fails _ 9 refl;
      entered-swap = node-fails _ 10 refl;
      entered-97 = node-fails _ 10 refl;
      entered-first = node-fails _ 9 refl;
      entered-last = node-fails _ 9 refl;
      list-too-long = node-fails _ 5 refl;
      list-too-short = node-fails _ 5 refl;
      list-of-none = node-fails _ 5 refl;
      atomic-two = words-fail _ 2 (flags-in _ ∙ refl);
      pending-two = words-fail _ 2 (flags-in _ ∙ refl);
      force-two = words-fail _ 2 (flags-in _ ∙ refl);
      revoked-two = words-fail _ 2 (flags-in _ ∙ refl);
      atomic-two-first = words-fail _ 2 (flags-in _ ∙ refl);
      pending-two-last = words-fail _ 2 (flags-in _ ∙ refl);
      queue-unused = words-fail _ 3 (unused-in _ ∙ refl);
      queue-unused-length = words-fail _ 3 (unused-in _ ∙ refl);
      queue-unused-last = words-fail _ 3 (unused-in _ ∙ refl);
      free-unused = words-fail _ 3 (unused-in _ ∙ refl);
      free-unused-last = words-fail _ 3 (unused-in _ ∙ refl);
      swap-unused = words-fail _ 3 (unused-in _ ∙ refl);
      swap-unused-last = words-fail _ 3 (unused-in _ ∙ refl);
      entered-unused = words-fail _ 3 (unused-in _ ∙ refl);
      entered-unused-last = words-fail _ 3 (unused-in _ ∙ refl);
      list-unused = words-fail _ 3 (unused-in _ ∙ refl);
      list-unused-first = words-fail _ 3 (unused-in _ ∙ refl);
      list-unused-last = words-fail _ 3 (unused-in _ ∙ refl);
      descriptor-unused = words-fail _ 3 (unused-in _ ∙ refl);
      descriptor-unused-first = words-fail _ 3 (unused-in _ ∙ refl);
      descriptor-unused-last = words-fail _ 3 (unused-in _ ∙ refl);
      words-past = words-fail _ 3 (unused-in _ ∙ refl);
      words-past-last = words-fail _ 3 (unused-in _ ∙ refl);
      words-past-buffered = node-fails _ 5 refl;
      words-past-buffered-last = node-fails _ 5 refl;
      words-past-swapped = node-fails _ 5 refl;
      free-frame-length = words-fail _ 4 (idle-in _ ∙ refl);
      free-frame-word = words-fail _ 4 (idle-in _ ∙ refl);
      free-swap-length = words-fail _ 4 (idle-in _ ∙ refl);
      free-swap-word = words-fail _ 4 (idle-in _ ∙ refl);
      used-up-length = node-fails _ 5 refl;
      used-up-word = node-fails _ 5 refl;
      behind-length = node-fails _ 5 refl;
      behind-word = node-fails _ 5 refl;
      used-up-swapped = node-fails _ 5 refl;
      behind-swapped = node-fails _ 5 refl;
      pledges-97 = node-fails _ 11 refl;
      used-of-none = node-fails _ 5 refl;
      pending-not-atomic = node-fails _ 5 refl;
      pending-not-atomic-queued = node-fails _ 5 refl;
      force-not-atomic = node-fails _ 5 refl;
      revoked-not-atomic = node-fails _ 5 refl;
      force-not-atomic-runner = node-fails _ 5 refl;
      revoked-not-atomic-runner = node-fails _ 5 refl;
      pending-no-line-runner = node-fails _ 12 refl;
      pending-no-line = node-fails _ 12 refl;
      pending-no-line-first = node-fails _ 12 refl;
      pending-no-line-last = node-fails _ 12 refl;
      runner-not-atomic = node-fails _ 13 refl;
      runner-not-atomic-buffered = node-fails _ 13 refl;
      head-of-nobody = node-fails _ 14 refl;
      head-of-another = node-fails _ 14 refl;
      head-group-buffered = node-fails _ 14 refl;
      head-group-revoked = node-fails _ 14 refl;
      head-of-nobody-rested = node-fails _ 14 refl;
      head-of-another-rested = node-fails _ 14 refl;
      head-group-revoked-rested = node-fails _ 14 refl;
      timer-idle = node-fails _ 14 refl;
      timer-force-off = node-fails _ 14 refl;
      timer-of-nobody = node-fails _ 14 refl;
      timer-of-another = node-fails _ 14 refl;
      runner-swapped = node-fails _ 15 refl;
    }

pub step-on-memory-cases : StepOnMemoryCases
unfolding computes
step-on-memory-cases =
    record {
      power-on-report = refl;
      power-on-words = same-words _ _ refl;
      power-on-longer = same-words _ _ refl;
      power-on-short = refl;
      power-on-none = refl;
      step-report = step-report fresh _ fresh-node;
      step_words = step-writes _ (schedule 1) (take 1092) _ fresh-node refl;
      step-short = step-refused _ _ (words-fail _ 0 refl);
      step-no-node = step-refused _ _ (node-fails _ 0 refl);
      before-unknown = step-refused _ _ (node-fails _ 0 refl);
      before-nobody = step-refused _ _ (node-fails _ 14 refl);
      before-schedule = step-refused _ _ (node-fails _ 0 refl);
      before-ticks = step-refused _ _ (words-fail _ 0 refl);
      unknown-two = step-report fresh _ fresh-node;
      dispose-report = step-report _ _ busy-node;
      dispose-memory = step-writes _ (user dispose) (cut 1245 8004) _ busy-node refl;
    }

pub head-cases : HeadCases
unfolding computes
head-cases =
    record {
      head-direct = head_of _ busy-node;
      head-buffered = head_of _ seven-used;
      head-words = head-reads _ _ seven-used refl;
      head-nobody = head_of _ first-swapped;
      head-nobodys = head_of _ nobodys-node;
      head-no-line = head_of _ forced-timer;
      head-no-node = head-none _ (node-fails _ 1 refl);
    }

pub count-cases : CountCases
unfolding computes
count-cases =
    record {
      counts-fresh = counts-of _ fresh-node;
      counts-told = counts-of _ swapped-node;
      counts-no-node = counts-none _ (node-fails _ 14 refl);
    }
