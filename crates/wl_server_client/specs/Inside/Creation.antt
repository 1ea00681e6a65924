-- What the functions that create objects say to their callers.
use Rattle.std.specs.Prelude.{◌≡◌, ◌⊎◌, ℕ}
use Rattle.wl_link.specs.Store.{Store, server_range, IsFull, IsLeastAbsent}
use Rattle.wl_server_client.specs.declared.error.CreateError.{CreateError}
use Rattle.wl_server_client.specs.declared.error.CreateError.TheVariants as create

-- why no object is created if no serial is left; it is looked first whether a number is left
abbrev pub LacksSerial : {D : Type 0} → Store D → CreateError → Type 0
LacksSerial store e =
    (IsFull server_range store × (e ≡ create.IdsExhausted)) ⊎ ((n : ℕ) × IsLeastAbsent server_range store n × (e ≡ create.SerialsExhausted))
