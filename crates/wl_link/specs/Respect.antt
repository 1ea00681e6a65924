-- Relations that each reading keeps, if each verdict of the reader keeps them.
--
-- Such a relation is one of a core, of what was given after it, and of the core then.
use Rattle.std.proofs.Common.{◌≡◌, true, List, [], ◌++◌, Some, Result, Ok}
use Rattle.std.specs.Prelude.{map}
use Rattle.wl_wire.specs.declared.error.IoFault.{IoFault}
use Rattle.wl_wire.specs.Message.{WireMessage}
use Rattle.wl_link.specs.Puts.{Said}
use Rattle.wl_link.specs.Reader.{Given, HandedOut, Reader, Unreadable, Verdict, came_to, put_and_gave}

-- The verdict keeps the relation, however it ends: its messages were put, a write failed, or memory was refused. If it has
-- no messages, no write fails.
pub record Keeps {Core Event Finish : Type 0} (reader : Reader Core Event Finish) (R : Core → List (Given Event) → Core → Type 0) (c : Core) (v : Verdict Core Event) : Type 0 where
  pub carried : (put others : List Said) (wrote : Result (Unit {0}) IoFault) → v.puts ≡ put ++ others → (v.puts ≡ [] → wrote ≡ Ok tt)
      → R c (put_and_gave put (v.events (came_to reader v wrote))) (came_to reader v wrote)
  pub starved : v.asks ≡ true → R c (map HandedOut (v.events v.starved)) v.starved

-- each entry of a reading keeps the relation; there are entries only as long as the core reads on
pub record RespectsReading {Core Event Finish : Type 0} (reader : Reader Core Event Finish) (R : Core → List (Given Event) → Core → Type 0) : Type 0 where
  pub same : (c : Core) → R c [] c
  pub joins : (c d e : Core) (g h : List (Given Event)) → R c g d → R d h e → R c (g ++ h) e
  pub handles : (c : Core) (m : WireMessage) → reader.reads_on c ≡ true → Keeps reader R c (reader.handles c m)
  pub malformed : (c : Core) (u : Unreadable) → reader.reads_on c ≡ true → Keeps reader R c (reader.malformed c u)
  pub faulted : (c : Core) (f : IoFault) → reader.reads_on c ≡ true → R c [] (reader.faulted c f)

-- and so does the end of what is open
pub record Respects {Core Event Finish : Type 0} (reader : Reader Core Event Finish) (R : Core → List (Given Event) → Core → Type 0) : Type 0 where
  pub reading : RespectsReading reader R
  pub takes : (c : Core) (u : Finish) (v : Verdict Core Event) → reader.takes c u ≡ Some v → Keeps reader R c v

-- ---- relations of cores alone

-- the verdict keeps the relation of cores, however it ends
pub record KeepsCore {Core Event : Type 0} (R : Core → Core → Type 0) (c : Core) (v : Verdict Core Event) : Type 0 where
  pub core : R c v.core
  pub last : (d : Core) → R d (v.last d)
  pub starved : R c v.starved

-- each verdict keeps the relation, as for example that who is killed stays killed
pub record RespectsCores {Core Event Finish : Type 0} (reader : Reader Core Event Finish) (R : Core → Core → Type 0) : Type 0 where
  pub same : (c : Core) → R c c
  pub joins : (c d e : Core) → R c d → R d e → R c e
  pub handles : (c : Core) (m : WireMessage) → KeepsCore R c (reader.handles c m)
  pub malformed : (c : Core) (u : Unreadable) → KeepsCore R c (reader.malformed c u)
  pub takes : (c : Core) (u : Finish) (v : Verdict Core Event) → reader.takes c u ≡ Some v → KeepsCore R c v
  pub broken : (c : Core) (f : IoFault) → R c (reader.broken c f)
  pub faulted : (c : Core) (f : IoFault) → R c (reader.faulted c f)
