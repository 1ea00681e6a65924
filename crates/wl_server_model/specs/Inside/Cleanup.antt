-- What a cleanup does to the clients and to the notes.
use Rattle.std.specs.Prelude.{◌≡◌, ℕ, List, Bool, true, ◌++◌, Option, Result, length}
use Rattle.wl_wire.specs.declared.error.IoFault.{IoFault}
use Rattle.wl_link.specs.Exchange.{Queue}
use Rattle.wl_server_client.specs.declared.notes.Note.{Note}
use Rattle.wl_server_model.specs.Inside.Gathering.{AllLeft, Gathers}
use Rattle.wl_server_client.specs.Ids.{ClientParts}
use Rattle.wl_server_model.specs.Inside.Leaving.{FlushesKilled, all_staying, collected, ends_at, given_at}
use Rattle.wl_server_model.specs.NoteOrder.{IsInOrder}
use Rattle.wl_server_model.specs.Inside.Places.{AllFeel}
use Rattle.wl_server_client.specs.Stored.{Stored}

-- The killed clients are flushed, all notes are gathered, and the killed clients leave.
pub record CleansUp {T U C : Type 0} (sends : T → Queue → Result ℕ IoFault → T → Type 0) (clients : List (Option (Stored T U C))) (notes : List (Note U)) (refused : Bool)
    (clients' : List (Option (Stored T U C))) (notes' : List (Note U)) (given : List (ClientParts × T)) : Type 0 where
  pub flushed : List (Option (Stored T U C))
  pub left : List (Option (Stored T U C))
  pub told : List (Note U)
  pub flushes : AllFeel (λ id p lacked did q. FlushesKilled sends p lacked did q) refused (length clients) clients flushed
  pub gathers : Gathers true flushed notes left told
  pub all : AllLeft true left
  pub in_order : IsInOrder true clients notes told
  pub stay : clients' ≡ all_staying left
  pub noted : notes' ≡ told ++ collected ends_at 0 left
  pub gave : given ≡ collected given_at 0 left
