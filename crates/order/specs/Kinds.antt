-- The orders of the two kinds, and the same orders as tests.
use Rattle.std.specs.Prelude.{◌≡◌, ◌<◌, Bool, true, false, ◌&&◌, ◌||◌, ◌⊎◌, ◌==◌, nat_lt}
use Rattle.order.specs.declared.open_section.OpenSection.{OpenSection}
use Rattle.order.specs.declared.candidate.Candidate.{Candidate}
use Rattle.order.specs.declared.candidate.Place.{Place}
use Rattle.order.specs.declared.candidate.Place.TheVariants.{Master, Slot}

-- the lower stamp first, then the lower user
abbrev pub OpenSectionBefore : OpenSection → OpenSection → Type 0
OpenSectionBefore x y = (x.stamp < y.stamp) ⊎ ((x.stamp ≡ y.stamp) × (x.user < y.user))

-- the master first, then the lower user, then the lower age
abbrev pub PlaceBefore : Place → Place → Type 0
PlaceBefore Master Master = ⊥
PlaceBefore Master (Slot u a) = Unit {0}
PlaceBefore (Slot u a) Master = ⊥
PlaceBefore (Slot u a) (Slot v b) = (u < v) ⊎ ((u ≡ v) × (a < b))

-- the higher version first, then the place
abbrev pub CandidateBefore : Candidate → Candidate → Type 0
CandidateBefore x y = (y.version < x.version) ⊎ ((x.version ≡ y.version) × PlaceBefore x.place y.place)

abbrev pub open_section_test : OpenSection → OpenSection → Bool
open_section_test x y = nat_lt x.stamp y.stamp || (x.stamp == y.stamp && nat_lt x.user y.user)

abbrev pub place_test : Place → Place → Bool
place_test Master Master = false
place_test Master (Slot u a) = true
place_test (Slot u a) Master = false
place_test (Slot u a) (Slot v b) = nat_lt u v || (u == v && nat_lt a b)

abbrev pub candidate_test : Candidate → Candidate → Bool
candidate_test x y = nat_lt y.version x.version || (x.version == y.version && place_test x.place y.place)
