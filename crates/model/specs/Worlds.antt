-- The store with what it stands on, as plain data. Tables are functions; users are 0 to 7, and there are 64 masters at most.
use Rattle.std.specs.Prelude.{ℕ, ◌+◌, min, cond, List, [], ◌++◌, length, take, drop, replicate, None, Option, nat_lt, slice_index_or}
use Rattle.interfaces.specs.Homes.{Meaning}
use Rattle.model.specs.declared.body.Mark.TheVariants.{Present, Cleared}
use Rattle.model.specs.declared.body.Body.{Body}
use Rattle.model.specs.declared.slot.Slot.{Slot}
use Rattle.model.specs.declared.slot.Hold.{Hold}
use Rattle.model.specs.declared.slot.Master.{Master}
use Rattle.model.specs.Tools.{put}

-- a version of a record
pub record Entry : Type 0 where
  pub version : ℕ
  pub body : Body

-- an open section: its opening stamp, and what its holds 0 to 3 are on
pub record Section : Type 0 where
  pub opening : ℕ
  pub hold : ℕ → Hold

pub record World : Type 0 where
  -- what the home means: its records' bytes, and which writes it takes
  pub home : Meaning
  -- the source's highest stamp
  pub highest : ℕ
  pub tick : ℕ
  pub watermark : ℕ
  -- by record
  pub master : ℕ → Master
  -- by user
  pub section : ℕ → Option Section
  -- by user: where the oldest slot of its log stands. A log has eight places, used as a ring
  pub oldest : ℕ → ℕ
  -- by user and place: the slot, where it is used
  pub slot : ℕ → ℕ → Option Slot

abbrev pub world : Meaning → ℕ → ℕ → ℕ → (ℕ → Master) → (ℕ → Option Section) → (ℕ → ℕ) → (ℕ → ℕ → Option Slot) → World
world home highest tick watermark masters sections oldest slots =
    record { home = home; highest = highest; tick = tick; watermark = watermark; master = masters; section = sections; oldest = oldest; slot = slots }

-- the first hour, over a home and a source that has given stamps up to a highest
abbrev pub first_master : Master
first_master = record { version = 0; mark = Present }

abbrev pub first_hour : Meaning → ℕ → World
first_hour home highest = world home highest 0 0 (λ r. first_master) (λ u. None) (λ u. 0) (λ u p. None)

-- how many records are served
abbrev pub served : World → ℕ
served w = min 64 (length w.home.bodies)

-- a record's bytes in a home
abbrev pub home_bytes : Meaning → ℕ → List ℕ
home_bytes home r = slice_index_or home.bodies r []

-- the version of a record that its master is
abbrev pub master_entry : World → ℕ → Entry
master_entry w r = record { version = (w.master r).version; body = record { bytes = home_bytes w.home r; mark = (w.master r).mark } }

-- Bodies.

-- so many bytes from an offset on
abbrev pub part : ℕ → ℕ → List ℕ → List ℕ
part offset count bytes = take count (drop offset bytes)

-- a body with new bytes from an offset on; it is then present
abbrev pub written : ℕ → List ℕ → Body → Body
written offset new b = record { bytes = take offset b.bytes ++ new ++ drop (offset + length new) b.bytes; mark = Present }

-- a cleared body
abbrev pub blank : Body
blank = record { bytes = replicate 16 0; mark = Cleared }

-- Changes of one part of a world.

abbrev pub with_section : World → ℕ → Option Section → World
with_section w u s = world w.home w.highest w.tick w.watermark w.master (put w.section u s) w.oldest w.slot

abbrev pub with_highest : World → ℕ → World
with_highest w s = world w.home s w.tick w.watermark w.master w.section w.oldest w.slot

abbrev pub with_tick : World → ℕ → World
with_tick w t = world w.home w.highest t w.watermark w.master w.section w.oldest w.slot

abbrev pub with_watermark : World → ℕ → World
with_watermark w s = world w.home w.highest w.tick s w.master w.section w.oldest w.slot

abbrev pub with_slots : World → (ℕ → ℕ → Option Slot) → World
with_slots w slots = world w.home w.highest w.tick w.watermark w.master w.section w.oldest slots

abbrev pub with_oldest : World → ℕ → ℕ → World
with_oldest w u p = world w.home w.highest w.tick w.watermark w.master w.section (put w.oldest u p) w.slot

abbrev pub with_home : World → Meaning → World
with_home w home = world home w.highest w.tick w.watermark w.master w.section w.oldest w.slot

-- there are 64 masters
abbrev pub put_master : (ℕ → Master) → ℕ → Master → ℕ → Master
put_master masters r m = cond (nat_lt r 64) (put masters r m) masters

abbrev pub with_master : World → ℕ → Master → World
with_master w r m = world w.home w.highest w.tick w.watermark (put_master w.master r m) w.section w.oldest w.slot

-- one place of one log
abbrev pub put_slot : (ℕ → ℕ → Option Slot) → ℕ → ℕ → Option Slot → ℕ → ℕ → Option Slot
put_slot slots u p s = put slots u (put (slots u) p s)
