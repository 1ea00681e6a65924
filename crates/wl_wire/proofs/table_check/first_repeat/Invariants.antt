use Rattle.std.proofs.Common.{◌≡◌, ℕ, ◌<◌, false, ◌||◌, List, take, Bor}
use Rattle.std.specs.HashSet.{contains}
use Rattle.std.specs.List.{list_any}
use Rattle.std.specs.Str.{bytes_eq}
use Rattle.std.specs.String.{string_bytes}
use Rattle.wl_wire.specs.Inside.TableCheck.{is_repeated_behind}
use Rattle.wl_wire.proofs.table_check.first_repeat.Given as goal

abbrev pub invariant-loop-interface : goal.invariant-loop-interface
invariant-loop-interface l =
    (q : Bor (List ℕ)) → contains (λ x y. bytes_eq x.now y.now) l.names q ≡ list_any (λ e. bytes_eq q.now (string_bytes e.name)) (take l.interface-index l.kept)

abbrev pub invariant-loop-at : goal.invariant-loop-at
invariant-loop-at l = record {
  before : (k : ℕ) → k < l.at → is_repeated_behind l.kept l.interfaces k ≡ false;
  known : (q : Bor (List ℕ)) → contains (λ x y. bytes_eq x.now y.now) l.names q
      ≡ (list_any (λ e. bytes_eq q.now (string_bytes e.name)) l.kept || list_any (λ e. bytes_eq q.now (string_bytes e.name)) (take l.at l.interfaces));
}
