-- The table of masters at the first hour.
use Rattle.std.proofs.Common.{◌≡◌, replicate, refl}
use mathlib.Core.Path.{fun_ext}
use Rattle.model.specs.declared.slot.Master.{Master}
use Rattle.model.specs.Worlds.{first_master}
use Rattle.tables.specs.View.{masters_of}
use Rattle.tables.proofs.Arrays.{replicated_alike}

pub first_masters : masters_of (record { all = replicate 64 first_master }) ≡ (λ n. first_master)
first_masters = fun_ext (λ n. replicated_alike (λ (m : Master). m) 64 n first_master first_master refl)
