-- What a call writes to memory that the host lends, where there is room for it.
use Rattle.std.specs.Prelude.{List, length, Bool, nat_le, if◌then◌else◌}
use Rattle.wl_flat.specs.Flat.{over_front}
use Rattle.wl_flat.specs.declared.status.Status.{Status}
use Rattle.wl_flat.specs.declared.status.Status.TheVariants as status

abbrev pub has_room : {A : Type 0} → List A → List A → Bool
has_room new lent = nat_le (length new) (length lent)

-- it is written to the front if there is room for it
abbrev pub written : {A : Type 0} → List A → List A → List A
written new lent = if has_room new lent then over_front new lent else lent

abbrev pub status_for : Bool → Status
status_for fits = if fits then status.Ok else status.TooSmall
