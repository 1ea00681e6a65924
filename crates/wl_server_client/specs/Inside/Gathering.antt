-- A client whose notes were gathered.
use Rattle.std.specs.Prelude.{[], Bool, if◌then◌else◌}
use Rattle.wl_server_client.specs.Stored.{Stored, no_times}

module _ {T U C : Type 0} (waits : Bool) where
  -- the client without its notes: without those that wait only if they were gathered, too
  abbrev pub emptied : Stored T U C → Stored T U C
  emptied s = record { serial = s.serial; part = record s.part { waiting = if waits then [] else s.part.waiting }; made = []; times = no_times }
