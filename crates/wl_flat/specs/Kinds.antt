-- The numbers of kinds in flat structs.
use Rattle.std.specs.Prelude.{ℕ}

-- ---- arguments

abbrev pub int : ℕ
int = 0

abbrev pub uint : ℕ
uint = 1

abbrev pub fixed : ℕ
fixed = 2

abbrev pub string : ℕ
string = 3

abbrev pub object : ℕ
object = 4

abbrev pub new_id : ℕ
new_id = 5

abbrev pub array : ℕ
array = 6

abbrev pub descriptor : ℕ
descriptor = 7

abbrev pub null_string : ℕ
null_string = 8

-- ---- actions

abbrev pub request : ℕ
request = 1

abbrev pub bind : ℕ
bind = 2

abbrev pub registry : ℕ
registry = 3

-- ---- notes

abbrev pub inserted : ℕ
inserted = 1

abbrev pub killed : ℕ
killed = 2

abbrev pub destroyed : ℕ
destroyed = 3

-- ---- what becomes of an event that leaves its queue

abbrev pub handed : ℕ
handed = 0

abbrev pub session_failed : ℕ
session_failed = 1

abbrev pub queue_dropped : ℕ
queue_dropped = 2

abbrev pub sender_destroyed : ℕ
sender_destroyed = 3

-- ---- what a slot says of its object

abbrev pub slot_free : ℕ
slot_free = 0

abbrev pub slot_alive : ℕ
slot_alive = 1

abbrev pub slot_destroyed : ℕ
slot_destroyed = 2

-- ---- violations

abbrev pub violation_unknown_sender : ℕ
violation_unknown_sender = 1

abbrev pub violation_unknown_opcode : ℕ
violation_unknown_opcode = 2

abbrev pub violation_short_header : ℕ
violation_short_header = 3

abbrev pub violation_missing_bytes : ℕ
violation_missing_bytes = 4

abbrev pub violation_unended_string : ℕ
violation_unended_string = 5

abbrev pub violation_since_later : ℕ
violation_since_later = 6

abbrev pub violation_refused_bind : ℕ
violation_refused_bind = 7

abbrev pub violation_null_name : ℕ
violation_null_name = 8

abbrev pub violation_invalid_new_id : ℕ
violation_invalid_new_id = 9

abbrev pub violation_unknown_id : ℕ
violation_unknown_id = 10

abbrev pub violation_wrong_interface : ℕ
violation_wrong_interface = 11

abbrev pub violation_null_object : ℕ
violation_null_object = 12

abbrev pub violation_too_many_objects : ℕ
violation_too_many_objects = 13

-- ---- what is told

abbrev pub message : ℕ
message = 1

abbrev pub unknown_message : ℕ
unknown_message = 2

abbrev pub no_message : ℕ
no_message = 3

-- ---- runs of messages

abbrev pub plain_run : ℕ
plain_run = 0

abbrev pub deletes_id : ℕ
deletes_id = 1

abbrev pub passed_over : ℕ
passed_over = 2

abbrev pub lacks_descriptors : ℕ
lacks_descriptors = 3
