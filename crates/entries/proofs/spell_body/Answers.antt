use Rattle.std.proofs.Common.{◌+◌, ◌*◌, get_or, set, sym, ap, ◌∙◌, arith, length-set}
use Rattle.entries.proofs.Spells.{spelled_more, spelled_all}
use Rattle.entries.proofs.spell_body.Goals as goal

pub loop-k-preserved : goal.loop-k-preserved
loop-k-preserved c = (
  spelled_more c.loop-k.text c.args.body.now c.loop-k.k _ _ (omega arith) (omega arith) (ap (λ p. get_or p 0 0) c.digits_of.ensures) (ap (λ p. get_or p 1 0) c.digits_of.ensures) ∙ c.loop-k.invariant.0,
  length-set (set c.loop-k.text (2 * c.loop-k.k) _) (2 * c.loop-k.k + 1) _ ∙ length-set c.loop-k.text (2 * c.loop-k.k) _ ∙ c.loop-k.invariant.1,
)

pub returns : goal.returns
returns c = sym (spelled_all c.loop-k.text c.args.body.now c.loop-k.k (omega arith) (omega arith)) ∙ c.loop-k.invariant.0
