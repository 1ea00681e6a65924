-- What a place holds may go to another thread, if a session may: any thread may free a block of the C library's heap.
use mir.Raw.{raw}
use base.Fraction.{full_share}
use base.Shift.{Keyless}
use denote.Memory.{lone}
use denote.Param.Send.{IsSend, part_keyless}
use denote.RattleType.{RattleType}
use denote.RawPtr.{Ptr, block_ptr, null_ptr, lies_at}
use Rattle.std.specs.Prelude.{None, Option, Some}
use Rattle.std.proofs.Crossing as crossing
use Rattle.wl_c.specs.Held.{the_heap, owns_held}

module _ (R : RattleType) (sends : IsSend R) where
  lies : (p : Ptr) (x : R.Denot) → Keyless (lies_at R full_share p x)
  lies (block_ptr b o) x = part_keyless R sends full_share x b o
  lies null_ptr x = tt

  pub held_crosses : (p : Ptr) (held : Option R.Denot) → Keyless (owns_held R p held)
  held_crosses p None = tt
  held_crosses p (Some x) = (lies p x, crossing.frees.frees the_heap (raw (lone R.mir)) p)
