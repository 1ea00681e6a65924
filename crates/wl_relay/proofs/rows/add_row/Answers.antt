use Rattle.std.proofs.Common.{◌<◌, length, codes, arith, subst, sym, List}
use mathlib.Core.Logic.{inl, inr}
use Rattle.wl_wire.specs.Table.{InterfaceRow, interface_rows}
use Rattle.wl_relay.specs.Rows.{AddsRow}
use Rattle.wl_relay.specs.Words.{Word, spoken}
use Rattle.wl_relay.proofs.RowWords.{first_is, no_event, no_interface, no_request, others_of}
use Rattle.wl_relay.proofs.rows.add_row.Goals as goal

pub returns-in-interface-clause-added : goal.returns-in-interface-clause-added
returns-in-interface-clause-added c = λ done.
    let words = c.args.words.now in
    let some : 0 < length words = omega (arith, c.in-len1-up.len_at_least) in
    let at = first_is words _ (codes "interface") some c.in-interface.is in
    (spoken (others_of words), inl (at, c.add_interface.ensures.added done))

pub returns-in-interface-clause-none : goal.returns-in-interface-clause-none
returns-in-interface-clause-none c = λ done.
    let words = c.args.words.now in
    let rows = interface_rows c.args.interfaces.now.items in
    let some : 0 < length words = omega (arith, c.in-len1-up.len_at_least) in
    let at = first_is words _ (codes "interface") some c.in-interface.is in
    subst (λ (ws : List Word). (rows' : List InterfaceRow) → ¬ (AddsRow rows ws rows')) (sym at)
    (no_interface rows (spoken (others_of words)) (c.add_interface.ensures.none done))

pub returns-in-request-clause-added : goal.returns-in-request-clause-added
returns-in-request-clause-added c = λ done.
    let words = c.args.words.now in
    let some : 0 < length words = omega (arith, c.in-len1-up.len_at_least) in
    let at = first_is words _ (codes "request") some c.in-request.is in
    (spoken (others_of words), inr (inl (at, c.request_row.ensures.added done)))

pub returns-in-request-clause-none : goal.returns-in-request-clause-none
returns-in-request-clause-none c = λ done.
    let words = c.args.words.now in
    let rows = interface_rows c.args.interfaces.now.items in
    let some : 0 < length words = omega (arith, c.in-len1-up.len_at_least) in
    let at = first_is words _ (codes "request") some c.in-request.is in
    subst (λ (ws : List Word). (rows' : List InterfaceRow) → ¬ (AddsRow rows ws rows')) (sym at)
    (no_request rows (spoken (others_of words)) (c.request_row.ensures.none done))

pub returns-in-event-clause-added : goal.returns-in-event-clause-added
returns-in-event-clause-added c = λ done.
    let words = c.args.words.now in
    let some : 0 < length words = omega (arith, c.in-len1-up.len_at_least) in
    let at = first_is words _ (codes "event") some c.in-event.is in
    (spoken (others_of words), inr (inr (at, c.event_row.ensures.added done)))

pub returns-in-event-clause-none : goal.returns-in-event-clause-none
returns-in-event-clause-none c = λ done.
    let words = c.args.words.now in
    let rows = interface_rows c.args.interfaces.now.items in
    let some : 0 < length words = omega (arith, c.in-len1-up.len_at_least) in
    let at = first_is words _ (codes "event") some c.in-event.is in
    subst (λ (ws : List Word). (rows' : List InterfaceRow) → ¬ (AddsRow rows ws rows')) (sym at)
    (no_event rows (spoken (others_of words)) (c.event_row.ensures.none done))
