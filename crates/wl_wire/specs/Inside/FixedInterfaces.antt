-- the rows of the fixed interfaces as the code has them
use Rattle.std.specs.Prelude.{map}
use Rattle.wl_wire.specs.declared.core_interfaces.FixedInterface.{FixedInterface}
use Rattle.wl_wire.specs.declared.core_interfaces.FixedMessage.{FixedMessage}
use Rattle.wl_wire.specs.Table.{InterfaceRow, MessageRow}

abbrev pub row_of_message : FixedMessage → MessageRow
row_of_message m = record {
  name = m.name.now;
  signature = m.signature.now;
  since = 1;
  is_destructor = m.is_destructor;
  child_interface = m.child_interface;
  arg_interfaces = m.arg_interfaces.now;
}

abbrev pub row_of_interface : FixedInterface → InterfaceRow
row_of_interface i = record {
  name = i.name.now;
  version = i.version;
  requests = map row_of_message i.requests.now;
  events = map row_of_message i.events.now;
}
