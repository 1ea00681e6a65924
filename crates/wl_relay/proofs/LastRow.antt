-- A change of the last interface.
use Rattle.std.proofs.Common.{◌≡◌, ℕ, suc, ◌<◌, List, [], ◌∷◌, ◌++◌, length, map, take, set, get_or, take-suc, sym, ap, ◌∙◌, arith}
use Rattle.std.specs.Prelude.{Vec}
use Rattle.std.specs.declared.alloc.Global.{Global}
use Rattle.std.proofs.Math.Seq.{take-length, take-suc-set}
use Rattle.std.proofs.lemmas.List.{length-set, map-append}
use Rattle.wl_wire.specs.declared.interface.Interface.{Interface}
use Rattle.wl_wire.specs.declared.interface.MessageDesc.{MessageDesc}
use Rattle.wl_wire.specs.Table.{InterfaceRow, MessageRow, interface_row, interface_rows, message_row}
use Rattle.wl_relay.specs.Rows.{ChangesLast, with_event, with_request}
use Rattle.wl_relay.proofs.RowWords.{rows_pushed}

-- the last one is replaced by what the change makes of it
pub last_changed : (change : InterfaceRow → InterfaceRow) (before : List Interface) (i : ℕ) (old new : Interface) → suc i ≡ length before
    → old ≡ get_or before i old → interface_row new ≡ change (interface_row old)
    → ChangesLast change (interface_rows before) (interface_rows (set before i new))
last_changed change before i old new size is changed =
    let there : i < length before = omega arith in
    let all : before ≡ take i before ++ old ∷ [] =
    sym (take-length before) ∙ ap (λ (n : ℕ). take n before) (sym size) ∙ take-suc before i old there
    ∙ ap (λ (x : Interface). take i before ++ x ∷ []) (sym is)
    in
    let after : set before i new ≡ take i before ++ new ∷ [] =
    sym (take-length (set before i new)) ∙ ap (λ (n : ℕ). take n (set before i new)) (length-set before i new ∙ sym size)
    ∙ take-suc-set before i new there
    in (
      interface_rows (take i before),
      interface_row old,
      rows_pushed (take i before) before old all,
      rows_pushed (take i before) (set before i new) new after
          ∙ ap (λ (row : InterfaceRow). interface_rows (take i before) ++ row ∷ []) changed,
    )

-- one request more
pub request_added : (i : Interface) (requests : Vec MessageDesc Global) (m : MessageDesc) → requests.items ≡ i.requests.items ++ m ∷ []
    → interface_row (record i { requests = requests }) ≡ with_request (interface_row i) (message_row m)
request_added i requests m same =
    ap (λ (ms : List MessageRow). record (interface_row i) { requests = ms })
    (ap (map message_row) same ∙ map-append message_row i.requests.items (m ∷ []))

-- one event more
pub event_added : (i : Interface) (events : Vec MessageDesc Global) (m : MessageDesc) → events.items ≡ i.events.items ++ m ∷ []
    → interface_row (record i { events = events }) ≡ with_event (interface_row i) (message_row m)
event_added i events m same =
    ap (λ (ms : List MessageRow). record (interface_row i) { events = ms })
    (ap (map message_row) same ∙ map-append message_row i.events.items (m ∷ []))
