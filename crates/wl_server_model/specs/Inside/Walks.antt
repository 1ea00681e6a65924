-- What the functions that go through objects say to their callers.
use Rattle.std.specs.Prelude.{List, map}
use Rattle.std.specs.FinMap as finmap
use Rattle.wl_link.specs.Store.{Store}
use Rattle.wl_server_client.specs.declared.objects.Kept.{Kept}
use Rattle.wl_server_client.specs.Ids.{ClientParts, IdParts}
use Rattle.wl_server_client.specs.Part.{id_at}

-- the ids of all objects of a client, by ascending number
abbrev pub ids_of : {U : Type 0} → ClientParts → Store (Kept U) → List IdParts
ids_of client store = map (λ e. id_at client e.0 e.1) (finmap.entries store.objects)
