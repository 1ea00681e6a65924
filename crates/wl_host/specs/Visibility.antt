-- Which clients see which globals: groups that they have in common, and lists of what is hidden.
use Rattle.std.specs.Prelude.{◌≡◌, ℕ, List, Bool, not, ◌==◌, ◌&&◌}
use Rattle.std.specs.Int.Bits.{bit_and}
use Rattle.std.specs.List.{list_any}
use Rattle.wl_server_client.specs.Ids.{ClientParts, GlobalParts}
use Rattle.wl_flat.specs.declared.flat.FlatClientId.{FlatClientId}
use Rattle.wl_flat.specs.declared.flat.FlatGlobalId.{FlatGlobalId}
use Rattle.wl_host.specs.declared.server.HostClient.{HostClient}
use Rattle.wl_host.specs.declared.server.HostGlobal.{HostGlobal}

-- the list has the client
abbrev pub lists_client : List FlatClientId → ClientParts → Bool
lists_client ids id = list_any (λ c. (id.serial == c.serial) && (id.slot == c.slot)) ids

-- the list has the global
abbrev pub lists_global : List FlatGlobalId → GlobalParts → Bool
lists_global ids id = list_any (λ g. (id.serial == g.serial) && (id.name == g.name)) ids

-- they have a group in common
abbrev pub share_group : HostGlobal → HostClient → Bool
share_group global viewer = not (bit_and global.groups viewer.groups == 0)

-- a client sees a global if they have a group in common, and neither is hidden from the other
abbrev pub sees : HostGlobal → ClientParts → HostClient → GlobalParts → Bool
sees global client viewer id =
    share_group global viewer && not (lists_client global.hidden.keys client) && not (lists_global viewer.hidden.keys id)

-- the client has these data and groups, and exactly the globals of the list are hidden from it
pub record IsViewer (user_data groups : ℕ) (hidden : List FlatGlobalId) (viewer : HostClient) : Type 0 where
  pub has_data : viewer.user_data ≡ user_data
  pub has_groups : viewer.groups ≡ groups
  pub hides : (id : GlobalParts) → lists_global viewer.hidden.keys id ≡ lists_global hidden id

-- the global has these data and groups, and is hidden from exactly the clients of the list
pub record IsViewed (user_data groups : ℕ) (hidden : List FlatClientId) (global : HostGlobal) : Type 0 where
  pub has_data : global.user_data ≡ user_data
  pub has_groups : global.groups ≡ groups
  pub hides : (id : ClientParts) → lists_client global.hidden.keys id ≡ lists_client hidden id
