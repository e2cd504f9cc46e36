-- What is reported of a descriptor that is sent. Assumes nothing.
use Rattle.std.specs.Prelude.{ℕ, List, ◌∷◌, length}
use Rattle.rules.specs.Operation.{Report, accepted, no_trap}

-- L: "sends the descriptor to node .., stamped with the running group; value: its length"
abbrev pub sending : ℕ → ℕ → List ℕ → Report
sending k g d = record { answer = accepted; value = length d; trap = no_trap; upcall = 0; moved = 0; sent = k ∷ g ∷ d }
