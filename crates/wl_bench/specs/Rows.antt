-- The messages of the table as plain data.
use Rattle.std.specs.Prelude.{Bool, true, false, Option, None, Some}
use Rattle.wl_wire.specs.declared.interface.InterfaceId.{InterfaceId}
use Rattle.wl_wire.specs.Table.{MessageRow}
use Rattle.wl_bench.specs.declared.table.Kind.{Kind}
use Rattle.wl_bench.specs.declared.table.Kind.TheVariants as kind
use Rattle.wl_bench.specs.declared.table.Row.{Row}
use Rattle.wl_bench.specs.Table.{quad_id}

abbrev pub child_of : Kind → Option InterfaceId
child_of kind.Maker = Some quad_id
child_of kind.Plain = None
child_of kind.Destructor = None

abbrev pub is_ending : Kind → Bool
is_ending kind.Destructor = true
is_ending kind.Plain = false
is_ending kind.Maker = false

-- what the data say
abbrev pub message_of : Row → MessageRow
message_of row = record {
  name = row.name.now;
  signature = row.signature.now;
  since = row.since;
  is_destructor = is_ending row.kind;
  child_interface = child_of row.kind;
  arg_interfaces = row.objects.now;
}
