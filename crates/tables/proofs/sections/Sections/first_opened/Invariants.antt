use Rattle.std.proofs.Common.{◌≡◌, ℕ, ◌<◌, length, get_or, None}
use Rattle.model.specs.Versions.{opened_as}
use Rattle.tables.specs.View.{sections_of}
use Rattle.tables.proofs.sections.Sections.first_opened.Given as goal

-- the places below the user's are filled
abbrev pub invariant-loop-user : goal.invariant-loop-user
invariant-loop-user l = (length l.row ≡ 8) × ((j : ℕ) → j < l.user-counter → get_or l.row j None ≡ opened_as j (sections_of l.self j))
