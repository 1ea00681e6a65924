use Rattle.std.proofs.Common.{rules}
use Rattle.wl_flat.proofs.RowsRead.{name_at-there, name_at-no_text}
use Rattle.wl_flat.proofs.rows.name_at.Goals as goal

pub returns-in_ok-from_str-in-Ok : goal.returns-in_ok-from_str-in-Ok
returns-in_ok-from_str-in-Ok c = search (rules, name_at-there)

pub returns-in-Err : goal.returns-in-Err
returns-in-Err c = search (rules, name_at-no_text)
