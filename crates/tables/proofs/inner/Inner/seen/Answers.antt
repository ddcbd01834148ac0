use Rattle.std.proofs.Common.{rules}
use Rattle.tables.proofs.inner.Inner.seen.Goals as goal
use Rattle.tables.proofs.inner.Inner.seen.Goals.{in_default-via-in-None-1, in_default-via-in-Some+in-Master-1}

pub returns-2 : goal.returns-2
returns-2 c =
    let told = c.seen_master.ensures in
    elim c.in_default.branch [
      | in_default-via-in-None-1 w ↦ search rules
      | in_default-via-in-Some+in-Master-1 w ↦ record {
        hold = λ home high. (let t = told.hold home high in search rules);
        version = λ home high. (let t = told.version home high in search rules);
        mark = λ home high. (let t = told.mark home high in search rules);
      }
    ]
