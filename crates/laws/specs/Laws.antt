-- The laws over whole runs, in words of turns and of the history of sections, and one over the worlds that runs lead to.
use Rattle.std.specs.Prelude.{◌≡◌, ℕ, ◌<◌, ◌≤◌, ◌⊎◌, ◌↔◌, List, Some, None, Option, nat_le, nat_lt}
use Rattle.model.specs.declared.door.Door.{Door}
use Rattle.model.specs.declared.body.Body.{Body}
use Rattle.model.specs.declared.answer.State.{State}
use Rattle.model.specs.declared.slot.Slot.{Slot}
use Rattle.model.specs.Tools.{is_some, nth}
use Rattle.model.specs.Worlds.{World, part}
use Rattle.model.specs.Calls.{Turn, turn, Find, Take, Commit, found, taken, committed}
use Rattle.model.specs.Versions.{place_of}
use Rattle.model.specs.Drafts.{any_draft}
use Rattle.model.specs.History.{Reader, own_draft, version_of, draft, before}

-- `first` has each record's first bytes in the home, and ts are the turns; turns are named by their positions
module _ (first : ℕ → List ℕ) (ts : List Turn) where
  -- the turn at k is an accepted find of r by a section that was opened at o; it is of no own draft, and answers the state st and the version v
  pub record FindAt (k r o : ℕ) (st : State) (v : ℕ) : Type 0 where
    pub door : Door
    pub user : ℕ
    pub hold : ℕ
    pub reader : Reader
    pub is : nth ts k ≡ Some (turn door (Find user hold r) (found st v))
    pub open_section : (before first ts k).section user ≡ Some reader
    pub opened : reader.opened_at ≡ o
    pub no_draft : reader.draft r ≡ None

  -- the turn at k is an accepted take through the hold of a section: the named bytes, `count` from `offset` on, are answered as bs
  pub record TakeAt (k : ℕ) (reader : Reader) (hold offset count : ℕ) (bs : List ℕ) : Type 0 where
    pub door : Door
    pub user : ℕ
    pub is : nth ts k ≡ Some (turn door (Take user hold offset count) (taken bs))
    pub open_section : (before first ts k).section user ≡ Some reader

  -- the turn at m is an accepted commit that answers c
  pub record CommitAt (m c : ℕ) : Type 0 where
    pub door : Door
    pub user : ℕ
    pub is : nth ts m ≡ Some (turn door (Commit user) (committed c))

  -- the turn at m is an accepted commit that answers c, carries r and stores the body b in it
  pub record StoreAt (m r c : ℕ) (b : Body) : Type 0 where
    pub commit : CommitAt m c
    pub carries : draft (before first ts m) commit.user r ≡ Some b

  -- m lies between the positions a and b
  abbrev pub Between : ℕ → ℕ → ℕ → Type 0
  Between a m b = ((a < m) × (m < b)) ⊎ ((b < m) × (m < a))

  -- Equal finds: two accepted finds of one record, neither of an own draft, answer the same version and state
  -- exactly when no accepted commit that carries the record lies between their sections' openings.
  abbrev pub EqualFinds : Type 0
  EqualFinds =
      (k₁ k₂ r o₁ o₂ v₁ v₂ : ℕ) (st₁ st₂ : State) → FindAt k₁ r o₁ st₁ v₁ → FindAt k₂ r o₂ st₂ v₂
      → ((v₁ ≡ v₂) × (st₁ ≡ st₂)) ↔ ((m c : ℕ) (b : Body) → StoreAt m r c b → Between o₁ m o₂ → ⊥)

  -- the commit at m is the only one that answered the version v; it lies before the position o, and stored the body b in r
  pub record StoredBy (r v o : ℕ) (m : ℕ) (b : Body) : Type 0 where
    pub stores : StoreAt m r v b
    pub earlier : m < o
    pub only : (n : ℕ) → CommitAt n v → n ≡ m

  -- Held bytes: an accepted take from a hold on r at a version above 0 gives the named bytes of the body that the one commit which
  -- answered this version stored in r, and that commit lies before the section's opening; at version 0 it gives those of r's first bytes.
  abbrev pub HeldBytes : Type 0
  HeldBytes =
      (k hold offset count r v : ℕ) (reader : Reader) (bs : List ℕ) → TakeAt k reader hold offset count bs → reader.hold hold ≡ version_of r v
      → (0 < v → (m : ℕ) × (b : Body) × StoredBy r v reader.opened_at m b × (bs ≡ part offset count b.bytes))
      × (v ≡ 0 → bs ≡ part offset count (first r))

  -- No write is lost: between a section's opening and its accepted commit of a record no other accepted commit of that record lies.
  abbrev pub NoWriteLost : Type 0
  NoWriteLost =
      (m r c : ℕ) (b : Body) (own : StoreAt m r c b) (reader : Reader) → (before first ts m).section own.commit.user ≡ Some reader
      → (n d : ℕ) (e : Body) → StoreAt n r d e → reader.opened_at < n → n < m → ⊥

  -- Drafts are own: an accepted take from a hold on an own draft gives the named bytes of the draft as the history has it.
  abbrev pub DraftsOwn : Type 0
  DraftsOwn =
      (k hold offset count r : ℕ) (reader : Reader) (bs : List ℕ) → TakeAt k reader hold offset count bs → reader.hold hold ≡ own_draft r
      → (b : Body) × (reader.draft r ≡ Some b) × (bs ≡ part offset count b.bytes)

-- what every run keeps
pub record Laws (first : ℕ → List ℕ) (ts : List Turn) : Type 0 where
  pub equal_finds : EqualFinds first ts
  pub held_bytes : HeldBytes first ts
  pub no_write_lost : NoWriteLost first ts
  pub drafts_own : DraftsOwn first ts

-- A log's used slots follow one another from the oldest on, with its drafts last. The log is a table of its places, with the place of its oldest slot.
pub record Ring (slots : ℕ → Option Slot) (first : ℕ) : Type 0 where
  -- so many slots are live or retired, and so many are used
  pub versions : ℕ
  pub used : ℕ
  pub fits : (versions ≤ used) × (used ≤ 8)
  -- by age: the used slots are in a row, and from `versions` on they are drafts
  pub in_a_row : (i : ℕ) → i < 8 → is_some (slots (place_of first i)) ≡ nat_lt i used
  pub drafts_last : (i : ℕ) → i < used → any_draft (slots (place_of first i)) ≡ nat_le versions i

-- Logs in order: each user's log is such a ring. So a lock's draft goes behind the newest slot, and a collect, which looks at the age 0, takes the
-- oldest slot, and answers Nothing exactly when the log is empty.
abbrev pub LogsInOrder : World → Type 0
LogsInOrder w = (u : ℕ) → u < 8 → Ring (w.slot u) (w.oldest u)
