-- A sync that is answered in place, without its callback being made.
use Rattle.std.specs.Prelude.{◌≡◌, ℕ, true}
use Rattle.wl_wire.specs.Parse.{IsWhole, length_of, payload_of}
use Rattle.wl_wire.specs.Reading.{IsWord}
use Rattle.wl_wire.specs.Table.{display_id}
use Rattle.wl_link.specs.declared.object.Object.{Object}
use Rattle.wl_link.specs.Identity.{Objects}
use Rattle.wl_link.specs.Link.{LinkState}
use Rattle.wl_link.specs.Store.{removed, stored}
use Rattle.wl_server_client.specs.declared.objects.Kept.{Kept}
use Rattle.wl_server_client.specs.declared.reading.front_request.FrontRequest.{FrontRequest}
use Rattle.wl_server_client.specs.Requests.{is_valid_new}

module _ {U : Type 0} where
  -- a client may make an object at the number, and if it is removed again, the store is as it was
  pub record LeavesNoTrace (objects : Objects (Kept U)) (n : ℕ) : Type 0 where
    pub valid : is_valid_new objects n ≡ true
    pub stays : (x : Object (Kept U)) → removed (stored objects.store n x) n ≡ objects.store

-- This request at the front is a sync of a callback with this number: it was sent to a display, it is there whole, and it has
-- one word after its header.
pub record IsSyncOf {T : Type 0} (link : LinkState T) (request : FrontRequest) (n : ℕ) : Type 0 where
  pub display : request.sender.interface ≡ display_id
  pub opcode : request.opcode ≡ 0
  pub whole : IsWhole link.incoming.bytes
  pub twelve : length_of link.incoming.bytes ≡ 12
  pub word : IsWord n (payload_of link.incoming.bytes)
