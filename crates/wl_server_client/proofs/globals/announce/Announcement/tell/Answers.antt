use Rattle.std.proofs.Common.{◌≡◌, ◌∙◌, ◌∷◌, [], ℕ, List, Result, Some, map, sym, arith}
use Rattle.wl_wire.specs.declared.argument.Argument.TheVariants as arg
use Rattle.wl_wire.specs.declared.error.IoFault.{IoFault}
use Rattle.wl_wire.specs.Argument.{WireArgument}
use Rattle.wl_wire.specs.Table.{InterfaceRow, name_of}
use Rattle.wl_link.specs.Exchange.{Queue}
use Rattle.wl_link.specs.Link.{LinkState}
use Rattle.wl_server_client.specs.Globals.{Shown}
use Rattle.wl_server_client.specs.Inside.Puts.{Puts}
use Rattle.wl_server_client.specs.Telling.{by_object, making}
use Rattle.std.proofs.lemmas.Bool.{eqb-true}
use Rattle.wl_link.specs.Identity.{Id}
use Rattle.wl_server_client.specs.Felt.{announcements, is_first}
use Rattle.wl_server_client.proofs.GlobalCalls.PutEach.{each_of_none, each_starved}
use Rattle.wl_sets.proofs.Lists.{other_of}
use Rattle.wl_server_client.proofs.GlobalCalls.SameIds.{same_id_self}
use Rattle.wl_server_client.proofs.globals.announce.Announcement.tell.Goals as goal

pub returns-then-is_empty-clause-puts : goal.returns-then-is_empty-clause-puts
returns-then-is_empty-clause-puts g c = each_of_none _ _ _ _ (eqb-true _ _ (sym c.is_empty.ensures ∙ c.if-is_empty.true))

pub returns-in_default-new_message-clause-puts : goal.returns-in_default-new_message-clause-puts
returns-in_default-new_message-clause-puts g c = grind (arith, each_starved, other_of, is_first, same_id_self)

told_each : {T : Type 0} (sends : T → Queue → Result ℕ IoFault → T → Type 0) (before after : LinkState T) (table : List InterfaceRow) (g : Shown)
    (rs : List Id) (opcode : ℕ)
    (args : List WireArgument) (answer : Result (Unit {0}) IoFault) → opcode ≡ 0
    → args ≡ arg.Uint g.name ∷ arg.Str (Some (name_of table g.interface.0)) ∷ arg.Uint g.version ∷ []
    → Puts sends before (map (λ r. making (is_first rs r) (by_object r opcode args)) rs) answer after
    → Puts sends before (announcements table rs g) answer after
told_each sends before after table g rs opcode args answer same_opcode same_args puts = grind (arith, map, making, is_first, by_object, name_of)

pub returns-in-Some-clause-puts : goal.returns-in-Some-clause-puts
returns-in-Some-clause-puts g c =
    let a = c.self.inside in
    let news = rw c.in-Some.is at c.self.invariant in
    rw (← c.self.view_is) (told_each g.T.Transport.sends _ _ a.protocol.now (record { name = a.name; interface = a.interface; version = a.version })
    c.args.registries.now _ _ _ news.0 news.1 c.put_to_each.ensures.news)

pub returns-clause-puts : goal.returns-clause-puts
returns-clause-puts g c =
    let a = c.self.inside in
    rw (← c.self.view_is) (told_each g.T.Transport.sends _ _ a.protocol.now (record { name = a.name; interface = a.interface; version = a.version })
    c.args.registries.now _ _ _ c.in-Ok.ensures.0 c.in-Ok.ensures.1 c.put_to_each-wrote.ensures.news)
