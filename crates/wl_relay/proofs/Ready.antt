-- What is made ready on the link to a side, said of the relay.
use Rattle.std.specs.Prelude.{◌≡◌, ◌≢◌, [], OnOk, Result, Ok, Err}
use Rattle.std.proofs.Common.{ap, refl, subst, sym}
use Rattle.wl_link.specs.Exchange.{nothing}
use Rattle.wl_link.specs.Link.{LinkState}
use Rattle.wl_link.specs.Mailbox.{MailboxState}
use Rattle.wl_link.specs.MailboxLink.{still_to_send}
use Rattle.wl_follow.specs.declared.side.Side.{Side}
use Rattle.wl_follow.specs.declared.side.Side.TheVariants.{Client, Server}
use Rattle.wl_relay.specs.Flow.{GivesOut, MakesReady, RelayState, one_send}

-- nothing else is ready before it was sent, and what is to be sent is ready if some of it is
module _ {E : Type 0} (answer : Result (Unit {0}) E) (l l' : LinkState MailboxState) where
  abbrev pub Earlier : Type 0
  Earlier = OnOk answer (l.transport.waiting.bytes ≢ [] → l' ≡ l)

  abbrev pub NoneLeft : Type 0
  NoneLeft = OnOk answer ((still_to_send l).bytes ≡ [] → l' ≡ l)

  abbrev pub SomeReady : Type 0
  SomeReady = OnOk answer (l'.transport.waiting.bytes ≡ [] → (still_to_send l).bytes ≡ [])

  abbrev pub WholeSend : Type 0
  WholeSend = l.transport.waiting ≡ nothing → (still_to_send l).bytes ≢ [] → OnOk answer (l'.transport.waiting ≡ one_send (still_to_send l))

module _ (side : Side) (r s : RelayState) (l : LinkState MailboxState) (same : r ≡ s) where
  to_client : MakesReady Client s (record s { client = l }) → side ≡ Client → MakesReady side r (record s { client = l })
  to_client made is =
      subst (λ (x : Side). MakesReady x r (record s { client = l })) (sym is)
      (subst (λ (x : RelayState). MakesReady Client x (record s { client = l })) (sym same) made)

  to_server : MakesReady Server s (record s { server = l }) → side ≡ Server → MakesReady side r (record s { server = l })
  to_server made is =
      subst (λ (x : Side). MakesReady x r (record s { server = l })) (sym is)
      (subst (λ (x : RelayState). MakesReady Server x (record s { server = l })) (sym same) made)

  pub client_made : {E : Type 0} (answer : Result (Unit {0}) E) → side ≡ Client → GivesOut s.client nothing l → Earlier answer s.client l → NoneLeft answer s.client l
      → SomeReady answer s.client l → WholeSend answer s.client l → OnOk answer (MakesReady side r (record s { client = l }))
  client_made (Ok u) is kept earlier none some whole = to_client (record {
    keeps = (kept.0, refl, kept.1, refl, refl, refl, refl);
    earlier = λ e. ap (λ (x : LinkState MailboxState). record s { client = x }) (earlier e);
    none = λ e. ap (λ (x : LinkState MailboxState). record s { client = x }) (none e);
    some = some;
    whole = whole;
  }) is
  client_made (Err e) is kept earlier none some whole = tt

  pub server_made : {E : Type 0} (answer : Result (Unit {0}) E) → side ≡ Server → GivesOut s.server nothing l → Earlier answer s.server l → NoneLeft answer s.server l
      → SomeReady answer s.server l → WholeSend answer s.server l → OnOk answer (MakesReady side r (record s { server = l }))
  server_made (Ok u) is kept earlier none some whole = to_server (record {
    keeps = (refl, kept.0, refl, kept.1, refl, refl, refl);
    earlier = λ e. ap (λ (x : LinkState MailboxState). record s { server = x }) (earlier e);
    none = λ e. ap (λ (x : LinkState MailboxState). record s { server = x }) (none e);
    some = some;
    whole = whole;
  }) is
  server_made (Err e) is kept earlier none some whole = tt
