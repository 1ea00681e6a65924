-- That something is always served. The law holds of a reader whose verdicts can always be carried out, and which malformed
-- bytes end.
use Rattle.std.proofs.Common.{◌≡◌, ℕ, false, List, Some, Result}
use Rattle.wl_wire.specs.declared.error.IoFault.{IoFault}
use Rattle.wl_wire.specs.Message.{WireMessage}
use Rattle.wl_link.specs.Exchange.{Queue, Sending}
use Rattle.wl_link.specs.Link.{LinkState}
use Rattle.wl_link.specs.Reader.{CarriesOut, Given, ReaderState, Reader, Unreadable, Verdict, came_to}
use Rattle.wl_link.specs.Served.{ServedFrom}
use Rattle.wl_link.specs.Stretch.{IsOver}

module _ {T Core Event Finish : Type 0} (sends : T → Queue → Result ℕ IoFault → T → Type 0) (reader : Reader Core Event Finish) where
  -- the verdict can be carried out without a refusal of memory, and what waits to be read stays
  pub record Carried (v : Verdict Core Event) (link : LinkState T) : Type 0 where
    pub sent : List Sending
    pub gave : List (Given Event)
    pub after : ReaderState T Core
    pub carried : CarriesOut sends reader v link sent gave false after
    pub waits : after.link.incoming ≡ link.incoming

  -- each verdict of the reader can be carried out, and malformed bytes are the end of the reader
  pub record AlwaysGoesOn : Type 0 where
    pub handles : (c : Core) (m : WireMessage) (link : LinkState T) → Carried (reader.handles c m) link
    pub malformed : (c : Core) (u : Unreadable) (link : LinkState T) → Carried (reader.malformed c u) link
    pub over : (c : Core) (u : Unreadable) (link : LinkState T) → IsOver reader (malformed c u link).after.core
    pub takes : (c : Core) (u : Finish) (v : Verdict Core Event) (link : LinkState T) → reader.takes c u ≡ Some v → Carried v link

  -- there is something that is served
  abbrev pub SomethingIsServed : ReaderState T Core → List Finish → Type 0
  SomethingIsServed p finishes = (gave : List (Given Event)) × (after : ReaderState T Core) × ServedFrom sends reader p finishes gave after

-- malformed bytes are the end of the reader, whether a write fails or not
abbrev pub EndsMalformed : {Core Event Finish : Type 0} → Reader Core Event Finish → Type 0
EndsMalformed {Core = Core} reader =
    (c : Core) (u : Unreadable) (wrote : Result (Unit {0}) IoFault) → IsOver reader (came_to reader (reader.malformed c u) wrote)
