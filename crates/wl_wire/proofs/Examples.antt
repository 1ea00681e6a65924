-- Tables that are accepted and refused, computed from the definitions alone.
use Rattle.std.proofs.Common.{◌≡◌, ℕ, zero, suc, ◌+◌, ◌++◌, ◌∷◌, [], List, true, Option, Some, None, refl, arith}
use Rattle.std.specs.Prelude.{codes}
use Rattle.std.specs.List.{slice_get}
use Rattle.std.proofs.lemmas.Bool.{false≢true}
use Rattle.std.proofs.lemmas.Option.{slice_get_past}
use Rattle.wl_wire.specs.declared.argument.AllowNull.TheVariants.{Yes, No}
use Rattle.wl_wire.specs.declared.argument.ArgumentType.{ArgumentType}
use Rattle.wl_wire.specs.declared.argument.ArgumentType.TheVariants.{Int, Str, Object, NewId, Array, Fd}
use Rattle.wl_wire.specs.declared.interface.InterfaceId.{InterfaceId}
use Rattle.wl_wire.specs.declared.protocol.TableError.{TableError}
use Rattle.wl_wire.specs.declared.protocol.TableError.TheVariants as fault
use Rattle.wl_wire.specs.Table.{Extension, InterfaceRow, MessageRow, first_message, fixed_rows, extended_table, is_extension_at_fault, HasFault, HasFaultFrom, IsAcceptedTable, LacksExtensionFaults}

-- an interface with messages of each kind
abbrev quad_row : InterfaceRow
quad_row = record {
  name = codes "quad";
  version = 3;
  requests =
      first_message (codes "poke") (Int ∷ []) None []
      ∷ record (first_message (codes "make") (NewId ∷ []) (Some (record { 0 = 4 })) []) { since = 2 }
      ∷ record (first_message (codes "destroy") [] None []) { is_destructor = true }
      ∷ first_message (codes "link") (Object Yes ∷ Object No ∷ []) None (record { 0 = 4 } ∷ record { 0 = 4 } ∷ [])
      ∷ first_message (codes "give") (Str No ∷ Array ∷ Fd ∷ []) None []
      ∷ [];
  events =
      first_message (codes "moved") (Int ∷ []) None []
      ∷ first_message (codes "made") (NewId ∷ []) (Some (record { 0 = 4 })) []
      ∷ record (first_message (codes "gone") [] None []) { is_destructor = true }
      ∷ [];
}

-- an interface with one request
abbrev asking : List ArgumentType → Option InterfaceId → InterfaceRow
asking signature child = record { name = codes "a"; version = 1; requests = first_message (codes "r") signature child [] ∷ []; events = [] }

abbrev alone : InterfaceRow → List InterfaceRow
alone row = fixed_rows ++ row ∷ []

past : (i : ℕ) → slice_get (alone quad_row) (4 + suc i) ≡ None
past i = slice_get_past (alone quad_row) (4 + suc i) (omega arith)

-- it is the interface 4, and accepted
quad_alone : IsAcceptedTable (alone quad_row)
quad_alone = record { fixed = refl; no_fault = none }
  where
    none : (e : TableError) → ¬ (HasFault (alone quad_row) e)
    none (fault.ZeroInName zero) has = false≢true has
    none (fault.DuplicateName zero) has = false≢true has
    none (fault.UnknownInterface zero) has = false≢true has
    none (fault.TooManyNewIds zero) has = false≢true has
    none (fault.MissingChild zero) has = false≢true has
    none (fault.ArgInterfaces zero) has = false≢true has
    none (fault.ZeroInName (suc i)) has = rw (past i) at has
    none (fault.DuplicateName (suc i)) has = rw (past i) at has
    none (fault.UnknownInterface (suc i)) has = rw (past i) at has
    none (fault.TooManyNewIds (suc i)) has = rw (past i) at has
    none (fault.MissingChild (suc i)) has = rw (past i) at has
    none (fault.ArgInterfaces (suc i)) has = rw (past i) at has
    none fault.OutOfMemory has = false≢true has

quad_twice : HasFault (fixed_rows ++ quad_row ∷ quad_row ∷ []) (fault.DuplicateName 1)
quad_twice = refl

two_new_ids : HasFault (alone (asking (NewId ∷ NewId ∷ []) None)) (fault.TooManyNewIds 0)
two_new_ids = refl

outside : HasFault (alone (asking (NewId ∷ []) (Some (record { 0 = 5 })))) (fault.UnknownInterface 0)
outside = refl

-- a child that no argument asks for is looked at too
idle_child : HasFault (alone (asking [] (Some (record { 0 = 5 })))) (fault.UnknownInterface 0)
idle_child = refl

no_child : HasFault (alone (asking (NewId ∷ []) None)) (fault.MissingChild 0)
no_child = refl

no_argument_interface : HasFault (alone (asking (Object No ∷ []) None)) (fault.ArgInterfaces 0)
no_argument_interface = refl

-- rows that a table of `quad` is asked to take: the place of a fault is counted among them
second_quad : HasFaultFrom 5 (alone quad_row ++ quad_row ∷ []) (fault.DuplicateName 0)
second_quad = refl

outside_of_both : HasFaultFrom 5 (alone quad_row ++ asking (NewId ∷ []) (Some (record { 0 = 6 })) ∷ []) (fault.UnknownInterface 0)
outside_of_both = refl

-- `quad` takes more messages, of which the first request has the opcode 5, and the first event the opcode 3
abbrev tip : MessageRow
tip = record (first_message (codes "tip") (Int ∷ []) None []) { since = 4 }

abbrev more_of_quad : ℕ → Extension
more_of_quad version = record { place = 4; version = version; requests = tip ∷ []; events = tip ∷ tip ∷ [] }

longer_quad : extended_table (alone quad_row) (more_of_quad 4)
    ≡ alone (record quad_row { version = 4; requests = quad_row.requests ++ tip ∷ []; events = quad_row.events ++ tip ∷ tip ∷ [] })
longer_quad = refl

-- its version does not fall
version_stays : extended_table (alone quad_row) (more_of_quad 2)
    ≡ alone (record quad_row { requests = quad_row.requests ++ tip ∷ []; events = quad_row.events ++ tip ∷ tip ∷ [] })
version_stays = refl

no_fault_of_tips : LacksExtensionFaults (alone quad_row) 4 (tip ∷ tip ∷ tip ∷ [])
no_fault_of_tips fault.OutOfMemory = refl
no_fault_of_tips _ = refl

-- a fixed interface takes no messages, and neither does one past the last
fixed_stays : is_extension_at_fault (alone quad_row) 3 [] (fault.UnknownInterface 0) ≡ true
fixed_stays = refl

past_the_last : is_extension_at_fault (alone quad_row) 5 [] (fault.UnknownInterface 0) ≡ true
past_the_last = refl

-- a new message may make an object of the interface that it is of, but none of one past the last
own_child : LacksExtensionFaults (alone quad_row) 4 (first_message (codes "r") (NewId ∷ []) (Some (record { 0 = 4 })) [] ∷ [])
own_child fault.OutOfMemory = refl
own_child _ = refl

child_past_the_last : is_extension_at_fault (alone quad_row) 4 (first_message (codes "r") (NewId ∷ []) (Some (record { 0 = 5 })) [] ∷ []) (fault.UnknownInterface 0) ≡ true
child_past_the_last = refl
