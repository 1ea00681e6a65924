use Rattle.std.proofs.Common.{◌∙◌, [], Ok, Err, Some, None, ap, sym, subst}
use Rattle.wl_host.proofs.Asking.{asked_again, asked_found, asked_none, asked_on, listed_again}
use Rattle.wl_host.specs.Seats.{SeatsState, ledger_at}
use Rattle.wl_host.specs.Server.{Asks, AsksInTurn}
use Rattle.wl_host.proofs.server.sending.next_of.Goals as goal

pub returns-in-Ok-Some-clause-asked : goal.returns-in-Ok-Some-clause-asked
returns-in-Ok-Some-clause-asked c =
    let inv = c.loop-slot.invariant in
    let same = ap (λ (s : SeatsState). s.ledgers) c.in-Some.ensures.beside ∙ ap (λ (s : SeatsState). s.ledgers) inv.beside in
    inv.asked _ _ _ (asked_found c.args.seats.now.ledgers c.loop-slot.core c.ask_at.new.core c.loop-slot.seats.writable c.in-Some.slot c.next_listed.new.self.writable c.in-Ok-Some.id
    c.in-Some.ensures.slots (subst (λ ls. Asks c.loop-slot.core (ledger_at c.in-Some.slot ls) (Ok (Some c.in-Ok-Some.id)) c.ask_at.new.core) same (subst (λ o. Asks c.loop-slot.core (ledger_at c.in-Some.slot c.next_listed.new.self.ledgers) (Ok o) c.ask_at.new.core) c.in-Ok-Some.field-0-is c.in-Ok-Some.ensures)))

pub loop-slot-preserved : goal.loop-slot-preserved
loop-slot-preserved c =
    let inv = c.loop-slot.invariant in
    let same = ap (λ (s : SeatsState). s.ledgers) c.in-Some.ensures.beside ∙ ap (λ (s : SeatsState). s.ledgers) inv.beside in
    let one = subst (λ ls. Asks c.loop-slot.core (ledger_at c.in-Some.slot ls) (Ok None) c.ask_at.new.core) same (subst (λ o. Asks c.loop-slot.core (ledger_at c.in-Some.slot c.next_listed.new.self.ledgers) (Ok o) c.ask_at.new.core) c.in-Ok-None.field-0-is c.in-Ok-None.ensures) in record {
      asked = λ found rest after t. inv.asked found rest after (asked_on c.args.seats.now.ledgers c.loop-slot.core c.ask_at.new.core c.loop-slot.seats.writable c.in-Some.slot
          c.next_listed.new.self.writable found rest after c.in-Some.ensures.slots one t);
      beside = c.in-Some.ensures.beside ∙ ap (λ (s : SeatsState). let r : SeatsState = record s { writable = c.next_listed.new.self.writable } in r) inv.beside;
    }

pub returns-in-Err-clause-asked : goal.returns-in-Err-clause-asked
returns-in-Err-clause-asked c =
    let inv = c.loop-slot.invariant in
    let same = ap (λ (s : SeatsState). s.ledgers) c.in-Some.ensures.beside ∙ ap (λ (s : SeatsState). s.ledgers) inv.beside in
    let again = ap (λ (s : SeatsState). s.writable) c.list.ensures ∙ listed_again c.loop-slot.core c.ask_at.new.core c.next_listed.new.self c.in-Some.slot c.in-Err.refused c.in-Err.ensures in
    subst (λ ws. AsksInTurn c.args.seats.now.ledgers c.args.core.now c.args.seats.now.writable (Err c.in-Err.refused) ws c.ask_at.new.core) (sym again)
    (inv.asked _ _ _ (asked_again c.args.seats.now.ledgers c.loop-slot.core c.ask_at.new.core c.loop-slot.seats.writable c.in-Some.slot c.next_listed.new.self.writable c.in-Err.refused
    c.in-Some.ensures.slots (subst (λ ls. Asks c.loop-slot.core (ledger_at c.in-Some.slot ls) (Err c.in-Err.refused) c.ask_at.new.core) same c.in-Err.ensures)))

pub returns-clause-asked : goal.returns-clause-asked
returns-clause-asked c =
    let none = c.in_default.ensures.slots in
    subst (λ ws. AsksInTurn c.args.seats.now.ledgers c.args.core.now c.args.seats.now.writable (Ok None) ws c.loop-slot.core) (sym none.1)
    (c.loop-slot.invariant.asked (Ok None) [] c.loop-slot.core (asked_none c.args.seats.now.ledgers c.loop-slot.core c.loop-slot.seats.writable none.0))
