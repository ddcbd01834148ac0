use Rattle.std.proofs.Common.{[], ◌∷◌, replicate, ap, ◌∙◌}
use Rattle.homes.specs.Bodies.{bodies_of}
use Rattle.clients.specs.Writes.{answers_of}
use Rattle.clients.proofs.boards.third_write_of_two.Goals as goal

-- what the board means is known, and the three answers of that are computed
pub returns : goal.returns
unfolding bodies_of
returns c = c.write_each.ensures.said ∙ ap (λ m. answers_of m (0 ∷ 1 ∷ 1 ∷ []) (replicate 16 1)) c.allowance_of_two-home.ensures
