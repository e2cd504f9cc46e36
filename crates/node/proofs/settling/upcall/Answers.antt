-- `node::settling::upcall` meets its contract: the four words that are read decide whether an upcall is due. Assumes nothing.
use Prim.Native.Nat.{ℕ}
use native.Mathlib.Omega.{arith}
use mathlib.Core.Bool.{true}
use mathlib.Core.List.{List}
use mathlib.Core.Path.{◌∙◌, ◌≡◌, ap, refl, sym}
use lib.ListN.{length}
use Rattle.rules.specs.Memory.{count_offset, flag_word, running_at, word}
use Rattle.memory.specs.Writes.{InGroup}
use Rattle.memory.specs.declared.group.Group.{Group as Group·rt}
use Rattle.memory.proofs.PieceLaws.{holds-pieces}
use Rattle.node.proofs.settling.CallLaws.{called-atomic, called-buffered, called-empty, called-nobody, called-queued, runner-high}
use Rattle.node.proofs.settling.upcall.Goals as goal
use Rattle.node.proofs.settling.upcall.Goals.{else-x-eq0-via-else-x-eq0, else-x-eq0-via-then-x-eq0+else-m-eq0}
use Rattle.node.proofs.settling.upcall.Lts as lts
use Rattle.node.proofs.settling.upcall.Tie as tie
use Rattle.node.proofs.settling.upcall.Reads as past

-- The places of the code that lemmas speak of.

abbrev Else1 : Type 0
Else1 = lts.Else1 tie.the-claims past.Pre past.Post

facts : (c : Else1) (m : List ℕ) → length m ≡ length c.args.m.now → InGroup m (word c.args.m.now running_at) count_offset
unfolding word
facts c m l =
    let p = c.requires in
    record {
      long = omega (arith, (holds-pieces p.holds).long);
      low = omega (arith, c.if-g-eq0.false);
      high = runner-high p.holds p.fact c.if-g-eq0.false;
      inside = omega arith;
    }

pub bounds-m-0 : goal.bounds-m-0
bounds-m-0 c = omega (arith, (holds-pieces c.requires.holds).long)

pub returns-then-g-eq0 : goal.returns-then-g-eq0
unfolding word
returns-then-g-eq0 c n r h s = called-nobody h s c.if-g-eq0.true

pub read-x-requires : goal.read-x-requires
unfolding word
read-x-requires c = facts c _ refl

pub returns-then-x-ne0 : goal.returns-then-x-ne0
unfolding word
returns-then-x-ne0 c n r h s = called-atomic h s c.if-g-eq0.false (λ e. c.if-x-ne0.true (ap (λ (x : Group·rt). x.atomic) c.read-x.ensures ∙ e))

pub bounds-m-2 : goal.bounds-m-2
bounds-m-2 c = omega (arith, (holds-pieces c.requires.holds).long)

pub returns-then-m-eq0 : goal.returns-then-m-eq0
unfolding word
returns-then-m-eq0 c n r h s = called-empty h s c.if-g-eq0.false (sym (ap (λ (x : Group·rt). x.atomic) c.read-x.ensures) ∙ c.if-x-ne0.false) (sym (ap (λ (x : Group·rt). x.count) c.read-x.ensures) ∙ c.if-x-eq0.true) c.if-m-eq0.true

pub set_flags-requires : goal.set_flags-requires
unfolding word
set_flags-requires c = facts c.before.before.before.before.before.before _ refl

pub returns : goal.returns
unfolding word flag_word
returns c n r h s =
    let some = c.if-g-eq0.false in
    let read = c.read-x.ensures in
    let off = sym (ap (λ (x : Group·rt). x.atomic) read) ∙ c.if-x-ne0.false in
    let count = ap (λ (x : Group·rt). x.count) read in
    let w = c.set_flags.ensures true true refl refl n r h tt in
    elim c.else-x-eq0.branch [
      | else-x-eq0-via-then-x-eq0+else-m-eq0 v ↦ called-queued h s some off (sym count ∙ v.if-x-eq0.true) v.if-m-eq0.false w
      | else-x-eq0-via-else-x-eq0 v ↦ called-buffered h s some off (λ e. v.if-x-eq0.false (count ∙ e)) w
    ]
