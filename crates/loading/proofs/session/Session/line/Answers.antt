use Rattle.std.proofs.Common.{refl}
use Rattle.loading.proofs.Turns.{line_done}
use Rattle.loading.proofs.session.Session.line.Goals as goal

pub returns-in-Ok-clause-table : goal.returns-in-Ok-clause-table
returns-in-Ok-clause-table g c =
    line_done _ (g.met.H.Home.sound c.args.self.now.home) _ _ _ c.in-Ok.ensures.said c.load.ensures.said c.load.ensures.home c.load.ensures.loaded

pub returns-in-Err-clause-table : goal.returns-in-Err-clause-table
returns-in-Err-clause-table g c =
    line_done _ (g.met.H.Home.sound c.args.self.now.home) c.args.self.now.loaded _ _ c.in-Err.ensures.said refl refl refl
