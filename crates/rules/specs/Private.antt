-- "The private line of demand 3": the first-in first-out line that a group would have alone, written from its own section of the paper and
-- not from the node. Assumes nothing.
use Rattle.std.specs.Prelude.{ℕ, Bool, true, false, cond, not, ◌&&◌, List, [], ◌∷◌, ◌++◌, eqb, leb, ltb, length, get_or}
use Rattle.rules.specs.Lists.{is_empty}
use Rattle.rules.specs.Build.{word_limit, last_node}
use Rattle.rules.specs.Node.{Message}
use Rattle.rules.specs.Operation.{Request, poll, peek, dispose, begin_atomic, end_atomic, describe, launch}
use Rattle.rules.specs.Operation.{Operation, arrive, schedule, preempt, dispatch, tick, turn, user, unknown}
use Rattle.rules.specs.Operation.{accepted, no_message, past_message, still_pending, descriptor_full, descriptor_empty, bad_node}

-- "It keeps: having the processor, atomic, pending, a list of messages and a descriptor"
pub record PrivateLine : Type 0 where
  pub has : Bool
  pub atomic : Bool
  pub pending : Bool
  pub messages : List Message
  pub descriptor : List ℕ

-- "at first all off or empty"
unfoldable pub at_first : PrivateLine
at_first = record { has = false; atomic = false; pending = false; messages = []; descriptor = [] }

-- what a private line may be told of a step, and nothing else
pub data Told : Type 0 where
  -- an accepted A for the group, with its words
  message : List ℕ → Told
  -- an accepted S, O or I: it names the group, or it does not
  processor : Bool → Told
  -- one of M to L
  request : Request → Told
  nothing : Told

-- "Of the run's operations the private line of group g takes only what is listed here; of the answers it is told only whether an A or an S
-- was accepted"
unfoldable pub told : ℕ → Operation → Bool → Told
told g (arrive h ws) ok = cond (ok && eqb h g) (message ws) nothing
told g (schedule h) ok = cond ok (processor (eqb h g)) nothing
-- "For the private line an accepted O is as an accepted `S,0`, an accepted `I,g` as an accepted `S,g`."
told g preempt ok = cond ok (processor (eqb 0 g)) nothing
told g (dispatch h) ok = cond ok (processor (eqb h g)) nothing
told g (tick k) ok = nothing
-- C "belongs to no group"
told g turn ok = nothing
told g (user r) ok = request r
told g unknown ok = nothing

-- "the answer number, the value and, for an accepted L, the node, group and words sent"
pub record Answer : Type 0 where
  pub number : ℕ
  pub value : ℕ
  pub sent : List ℕ

-- "Answer and value are 0 where none is named."
unfoldable pub says : ℕ → Answer
says x = record { number = accepted; value = x; sent = [] }

-- a refusal
unfoldable pub refuses : ℕ → Answer
refuses a = record { number = a; value = 0; sent = [] }

-- an answer, and the line after it
pub record Served : Type 0 where
  pub answer : Answer
  pub line : PrivateLine

-- an answer that changes nothing
unfoldable pub unchanged : Answer → PrivateLine → Served
unchanged a p = record { answer = a; line = p }

-- "M: value the words in the first message, 0 if none."
unfoldable pub own_poll : List Message → Answer
own_poll [] = says 0
own_poll (m ∷ ms) = says (length m.words)

-- "E, i: 8 if the list is empty, 9 if i is not below the first message's length, else value its word i."
unfoldable pub own_peek : List Message → ℕ → Answer
own_peek [] i = refuses no_message
own_peek (m ∷ ms) i = cond (ltb i (length m.words)) (says (get_or m.words i 0)) (refuses past_message)

-- "D: 8 if the list is empty, else the first goes and pending is off."
unfoldable pub own_dispose : List Message → PrivateLine → Served
own_dispose [] p = unchanged (refuses no_message) p
own_dispose (m ∷ ms) p =
    record {
      answer = says 0;
      line = record { has = p.has; atomic = p.atomic; pending = false; messages = ms; descriptor = p.descriptor };
    }

-- the line with this flag
unfoldable pub with_atomic : Bool → PrivateLine → PrivateLine
with_atomic a p = record { has = p.has; atomic = a; pending = p.pending; messages = p.messages; descriptor = p.descriptor }

-- the line with this descriptor
unfoldable pub with_own_descriptor : List ℕ → PrivateLine → PrivateLine
with_own_descriptor d p = record { has = p.has; atomic = p.atomic; pending = p.pending; messages = p.messages; descriptor = d }

-- "N: 10 while pending, else atomic off."
unfoldable pub own_end : PrivateLine → Served
own_end p = cond p.pending (unchanged (refuses still_pending) p) (record { answer = says 0; line = with_atomic false p })

-- "P: 11 at 8 words, else the word joins; value the new length."
unfoldable pub own_describe : PrivateLine → ℕ → Served
own_describe p w =
    let d = p.descriptor ++ (w ∷ []) in
    cond (leb word_limit (length p.descriptor)) (unchanged (refuses descriptor_full) p)
    (record { answer = says (length d); line = with_own_descriptor d p })

-- "L: 12 with an empty descriptor, 13 for a node above 63, else it sends node, g and the words; value their count; the descriptor is then
-- empty."
unfoldable pub own_launch : ℕ → List ℕ → PrivateLine → ℕ → Served
own_launch g [] p k = unchanged (refuses descriptor_empty) p
own_launch g (w ∷ d) p k =
    cond (ltb last_node k) (unchanged (refuses bad_node) p)
    (record {
      answer = record { number = accepted; value = length (w ∷ d); sent = k ∷ g ∷ w ∷ d };
      line = with_own_descriptor [] p;
    })

-- M to L; B is heard alike with and without force
unfoldable pub own : ℕ → PrivateLine → Request → Served
own g p poll = unchanged (own_poll p.messages) p
own g p (peek i) = unchanged (own_peek p.messages i) p
own g p dispose = own_dispose p.messages p
own g p (begin_atomic force) = unchanged (says 0) (with_atomic true p)
own g p end_atomic = own_end p
own g p (describe w) = own_describe p w
own g p (launch k) = own_launch g p.descriptor p k

-- what a step is to a private line: its answers, none or one, whether it has an upcall, and the line after it
pub record Heard : Type 0 where
  pub answers : List Answer
  pub upcall : Bool
  pub line : PrivateLine

-- "if g has the processor, isn't atomic and its list isn't empty, atomic and pending go on: an upcall"
unfoldable pub is_called : PrivateLine → Bool
is_called p = p.has && (not p.atomic && not (is_empty p.messages))

-- the line after the upcall rule
unfoldable pub called : PrivateLine → PrivateLine
called p =
    cond (is_called p)
    (record { has = p.has; atomic = true; pending = true; messages = p.messages; descriptor = p.descriptor })
    p

-- "After each accepted one above"
unfoldable pub afterwards : List Answer → PrivateLine → Heard
afterwards xs p = record { answers = xs; upcall = is_called p; line = called p }

-- "A refused operation changes nothing."
unfoldable pub answered : Served → Heard
answered s =
    cond (eqb s.answer.number accepted) (afterwards (s.answer ∷ []) s.line)
    (record { answers = s.answer ∷ []; upcall = false; line = s.line })

-- "Any other step: nothing."
unfoldable pub unheard : PrivateLine → Heard
unheard p = record { answers = []; upcall = false; line = p }

-- "An accepted A for g: the message joins the end."
unfoldable pub joined : ℕ → List ℕ → PrivateLine → PrivateLine
joined g ws p =
    record {
      has = p.has;
      atomic = p.atomic;
      pending = p.pending;
      messages = p.messages ++ (record { group = g; words = ws } ∷ []);
      descriptor = p.descriptor;
    }

-- "An accepted S: g has the processor exactly if S names g."
unfoldable pub with_has : Bool → PrivateLine → PrivateLine
with_has h p = record { has = h; atomic = p.atomic; pending = p.pending; messages = p.messages; descriptor = p.descriptor }

-- one step of the private line of group g; "While g has it, M to L are g's own."
unfoldable pub hear : ℕ → PrivateLine → Told → Heard
hear g p (message ws) = afterwards [] (joined g ws p)
hear g p (processor h) = afterwards [] (with_has h p)
hear g p (request r) = cond p.has (answered (own g p r)) (unheard p)
hear g p nothing = unheard p
