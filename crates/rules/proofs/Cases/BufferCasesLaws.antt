-- The cases of the queue, the buffers and the frames hold, by computation. Assumes nothing.
use mathlib.Core.Path.{refl}
use Rattle.rules.specs.Cases.BufferCases.{ArriveCases, DisposeCases}
use Rattle.rules.proofs.Cases.Computes.{computes}

pub arrive-cases : ArriveCases
unfolding computes
arrive-cases =
    record {
      arrive-order = refl;
      arrive-buffered-order = refl;
      queue-words = refl;
      queue-moves-up = refl;
      frame-filled = refl;
      arrive-behind-used = refl;
      arrive-next-frame = refl;
      arrive-next-place = refl;
      list-head-first = refl;
      taken-from-front = refl;
      taken-by-whom = refl;
      taken-by-group-1 = refl;
      taken-by-group-8 = refl;
    }

pub dispose-cases : DisposeCases
unfolding computes
dispose-cases =
    record {
      dispose-timer = refl;
      dispose-pending = refl;
      dispose-only-own = refl;
      dispose-last-buffered = refl;
      used-up-place = refl;
      used-up-frame = refl;
      used-up-frame-freed = refl;
      not-yet-freed = refl;
      last-frame-freed = refl;
      eighth-disposed = refl;
      eighth-disposed-free = refl;
      freed-to-the-end = refl;
      freed-count = refl;
    }
