use Rattle.std.proofs.Common.{◌≡◌, ◌++◌, length, take, drop}
use Rattle.clients.specs.Writes.{answers_of, after_writes}
use Rattle.clients.proofs.writing.write_each.Given as goal

-- the answers so far, and what the writes that are left make of them and of the home
abbrev pub invariant-loop-k : goal.invariant-loop-k
invariant-loop-k g l = record {
  long : length l.answers ≡ g.row.N;
  said : answers_of (g.H.Home.meaning l.initial.home) l.fn.numbers l.body ≡ take l.k l.answers ++ answers_of (g.H.Home.meaning l.home) (drop l.k l.number-items) l.body;
  left : after_writes (g.H.Home.meaning l.initial.home) l.fn.numbers l.body ≡ after_writes (g.H.Home.meaning l.home) (drop l.k l.number-items) l.body;
}
