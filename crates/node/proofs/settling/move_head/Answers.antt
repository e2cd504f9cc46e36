-- `node::settling::move_head` meets its contract: the head is stored while it still stands in the queue, and then dropped. Assumes nothing.
use Prim.Native.Nat.{◌+◌, ◌≤◌, ℕ}
use native.Mathlib.Omega.{arith}
use mathlib.Core.List.{List}
use mathlib.Core.Path.{◌≡◌}
use lib.ListN.{length}
use Rattle.rules.specs.Build.{group_count, paper01}
use Rattle.rules.specs.Memory.{queue_at, size, word, words_at}
use Rattle.rules.specs.Node.{Message, Node}
use Rattle.rules.specs.Paging.{store}
use Rattle.memory.specs.Holds.{Becomes, Holds, Kept, Some}
use Rattle.memory.specs.Paging.{Wanting}
use Rattle.memory.specs.declared.descriptor.Descriptor.{Descriptor as Descriptor·rt}
use Rattle.memory.proofs.PieceLaws.{holds-pieces}
use Rattle.memory.proofs.queue.QueueLaws.{message-read}
use Rattle.node.specs.Steps.{Headed, head_of, moving_head}
use Rattle.node.proofs.settling.MoveLaws.{head-good-group, head-wanting, stored-queued}
use Rattle.node.proofs.settling.move_head.Goals as goal

-- what stands at the head of the queue
record Read (m : List ℕ) : Type 0 where
  long : size ≤ length m
  low : 1 ≤ word m queue_at
  high : word m queue_at ≤ group_count
  some : Some m (Wanting (word m queue_at))

head-kept : {m : List ℕ} {n : Node} {r : List ℕ} → Holds m n r → Headed n
    → (word m queue_at ≡ (head_of n).group) × Kept (word m queue_at) (word m (queue_at + 1)) (words_at m (queue_at + 2) 8) (head_of n)
unfolding head_of
head-kept h headed = message-read h 0 headed.some

reading : {m : List ℕ} → Some m Headed → Read m
reading {m} p =
    let good = head-good-group p.fact in
    let g = (head-kept p.holds p.fact).0 in
    record {
      long = (holds-pieces p.holds).long;
      low = rw g good.group-low;
      high = rw g good.group-high;
      some = record { node = p.node; rest = p.rest; holds = p.holds; fact = rw g (head-wanting p.fact) };
    }

-- what is read at the head is kept of its message, and so it is stored, and still in the queue
stored : {m m' : List ℕ} (d : Descriptor·rt) → d ≡ record { len = word m (queue_at + 1); words = words_at m (queue_at + 1 + 1) 8 }
    → ((x : Message) → Kept (word m queue_at) d.len d.words x → Becomes m m' (Wanting (word m queue_at)) (store paper01 x))
    → (n : Node) (r : List ℕ) → Holds m n r → Headed n → Holds m' (store paper01 (head_of n) n) r
stored {m} d e stores n r h headed =
    let k = head-kept h headed in
    stores (head_of n) (rw e k.1) n r h (rw k.0 (head-wanting headed))

pub bounds-m-4 : goal.bounds-m-4
bounds-m-4 c = let t = reading c.requires in omega (arith, t.long)

pub message-head-requires : goal.message-head-requires
message-head-requires c = let t = reading c.requires in omega (arith, t.long)

pub store-requires : goal.store-requires
unfolding word
store-requires c = let t = reading c.requires in record { le_g = (t.low, t.high); some = t.some }

pub drop_head-requires : goal.drop_head-requires
unfolding word
drop_head-requires c =
    let p = c.requires in
    record {
      node = store paper01 (head_of p.node) p.node;
      rest = p.rest;
      holds = stored c.message-head.result c.message-head.ensures c.store.ensures p.node p.rest p.holds p.fact;
      fact = stored-queued p.fact;
    }

pub returns : goal.returns
unfolding moving_head word
returns c n r h headed =
    c.drop_head.ensures (store paper01 (head_of n) n) r (stored c.message-head.result c.message-head.ensures c.store.ensures n r h headed) (stored-queued headed)
