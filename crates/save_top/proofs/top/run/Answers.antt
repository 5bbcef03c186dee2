use Rattle.std.proofs.Common.{◌≡◌, Some, sym, ◌∙◌}
use Rattle.save_disk.specs.Trace.{Told, IsFresh}
use Rattle.container.specs.Signers.{signing}
use Rattle.save_top.specs.declared.form.Order.{Order}
use Rattle.save_top.specs.Output.{Reply, Answers}
use Rattle.save_top.specs.Replies.{IsReplyTo}
use Rattle.save_top.specs.Words.{order_of}
use Rattle.save_top.proofs.RunLemmas.{end_is_not_2, at_moments, ended}
use Rattle.save_top.proofs.top.run.Given.{Over}
use Rattle.save_top.proofs.top.run.Goals as goal

pub returns-clause-form : goal.returns-clause-form
returns-clause-form g c = (
  λ two. absurd (end_is_not_2 c.obey.result c.obey.ensures.known two),
  λ none. absurd (let some = c.in-Some.ensures in cc),
)

-- the replies to an order under the signer
abbrev IsReply : (g : Over) (c : goal.After-obey g) → Order → Told → Reply → Type 0
IsReply g c order told =
    IsReplyTo (signing g.G.Signer.tag_of g.G.Signer.is_demanding c.args.signer.now) order told.start

same_order : (one two : Order) → Some one ≡ Some two → one ≡ two
same_order one two same = cc

-- that was said which the words' order answers
said : (g : Over) (c : goal.After-obey g) (order : Order) → order_of c.args.words.now ≡ Some order → (told : Told)
    → (g.D.Disk.state c.args.desk.now).told ≡ Some told → IsFresh told
    → Answers (IsReply g c order told) (g.D.Disk.state c.args.desk.now) (g.D.Disk.state c.obey.new.desk) c.obey.result
said g c order is_order told is fresh =
    rw (same_order order c.in-Some.order (sym is_order ∙ sym c.in-Some.ensures)) (c.obey.ensures.answers told is fresh)

pub returns-clause-any_moment : goal.returns-clause-any_moment
returns-clause-any_moment g c = λ order is_order told is fresh.
    at_moments (IsReply g c order told) _ _ c.obey.result (said g c order is_order told is fresh) told is

pub returns-clause-whole : goal.returns-clause-whole
returns-clause-whole g c = λ low order is_order told is fresh.
    (said g c order is_order told is fresh).whole low told is

pub returns-clause-complete : goal.returns-clause-complete
returns-clause-complete g c = λ order is_order none.
    ended _ _ c.obey.result c.obey.ensures.known c.obey.ensures.disk c.obey.ensures.sink none
