use Rattle.std.proofs.Common.{◌≡◌, ◌∙◌, sym, ap, length, ◌<◌, true, arith}
use Rattle.std.proofs.lemmas.Slice.Eq.{bytes_eq-Decides}
use Rattle.std.proofs.lemmas.List.{length-map}
use Rattle.std.specs.Str.{bytes_eq}
use Rattle.wl_wire.specs.Table.{interface_row, name_of}
use Rattle.wl_wire.proofs.protocol.Protocol.find_bytes.Goals as goal

pub returns-then-eq-clause-found : goal.returns-then-eq-clause-found
returns-then-eq-clause-found c =
    let count : length c.self.inside.interfaces.items ≡ length c.args.self.now
    = sym (length-map c.self.inside.interfaces.items interface_row) ∙ ap length c.self.view_is in
    let within : c.loop-place.place < length c.args.self.now = omega (arith, count, c.len-place-end.ensures, c.loop-place-test.true) in
    let text : name_of c.args.self.now c.loop-place.place ≡ c.as_bytes.result.now = sym (c.as_bytes.ensures.value ∙ c.name.ensures.name) in
    let same : bytes_eq c.as_bytes.result.now c.args.name.now ≡ true = sym c.eq.ensures ∙ c.if-eq.true in
    (within, text ∙ (bytes_eq-Decides c.as_bytes.result.now c.args.name.now).0 same)
