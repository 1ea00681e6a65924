-- What the place of an open action stands for.
use Rattle.std.specs.Prelude.{Bool, Option, None, Some}
use Rattle.wl_server_client.specs.declared.reading.action.OpenAction.{OpenAction}
use Rattle.wl_server_client.specs.declared.reading.action.OpenAction.TheVariants as opened
use Rattle.wl_server_client.specs.declared.reading.open_place.OpenKind.{OpenKind}
use Rattle.wl_server_client.specs.declared.reading.open_place.OpenKind.TheVariants as of_kind
use Rattle.wl_server_client.specs.Ids.{IdParts}

-- the open action of this kind, with this object; a request may be a destructor, and may have made an object
abbrev pub opened_by : OpenKind → IdParts → Bool → Option IdParts → Option OpenAction
opened_by of_kind.Closed object is_destructor created = None
opened_by of_kind.Request object is_destructor created = Some (opened.Request object is_destructor created)
opened_by of_kind.Bind object is_destructor created = Some (opened.Bind object)
