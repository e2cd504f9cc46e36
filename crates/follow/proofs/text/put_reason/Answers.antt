-- `follow::text::put_reason` meets its contract: each arm has the words of its reason. Assumes nothing.
use native.Mathlib.Omega.{arith}
use mathlib.Core.Path.{refl}
use Rattle.reasons.specs.Why.{reason_words}
use Rattle.follow.specs.Text.{words_room}
use Rattle.follow.proofs.text.WhyLaws.{words-else, words-none, words-put}
use Rattle.follow.proofs.text.put_reason.Goals as goal

pub returns-in-0 : goal.returns-in-0
unfolding reason_words
returns-in-0 c = words-none c.args.out.now c.args.at c.args.reason words_room c.in-0.is

pub returns-in-1 : goal.returns-in-1
unfolding reason_words
returns-in-1 c = words-put c.args.reason 1 words_room c.in-1.is refl (omega arith) c.put_text.ensures

pub returns-in-2 : goal.returns-in-2
unfolding reason_words
returns-in-2 c = words-put c.args.reason 2 words_room c.in-2.is refl (omega arith) c.put_text-in-2.ensures

pub returns-in-3 : goal.returns-in-3
unfolding reason_words
returns-in-3 c = words-put c.args.reason 3 words_room c.in-3.is refl (omega arith) c.put_text-in-3.ensures

pub returns-in-4 : goal.returns-in-4
unfolding reason_words
returns-in-4 c = words-put c.args.reason 4 words_room c.in-4.is refl (omega arith) c.put_text-in-4.ensures

pub returns-in-5 : goal.returns-in-5
unfolding reason_words
returns-in-5 c = words-put c.args.reason 5 words_room c.in-5.is refl (omega arith) c.put_text-in-5.ensures

pub returns-in-6 : goal.returns-in-6
unfolding reason_words
returns-in-6 c = words-put c.args.reason 6 words_room c.in-6.is refl (omega arith) c.put_text-in-6.ensures

pub returns-in_default : goal.returns-in_default
unfolding reason_words
returns-in_default c = let r = c.in_default.in_default-own.rest in words-put c.args.reason c.args.reason words_room refl (words-else c.args.reason r.0.0.0.0.0.0.1 r.0.0.0.0.0.1 r.0.0.0.0.1 r.0.0.0.1 r.0.0.1 r.0.1 r.1) (omega arith) c.put_text-in_default.ensures
