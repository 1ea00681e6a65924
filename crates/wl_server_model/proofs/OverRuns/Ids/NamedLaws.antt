-- What holds of any id that names an object at some point of a run.
use Rattle.std.proofs.Common.{◌≡◌, ℕ, ◌≤◌, false, List, [], ◌∷◌, ◌++◌, Option, Some, Ok, refl, ap, subst, ◌∙◌, arith, true≢false}
use Rattle.wl_wire.specs.Table.{InterfaceRow}
use Rattle.wl_link.specs.Identity.{OwnsExactly}
use Rattle.wl_link.specs.Identity as objects
use Rattle.wl_link.specs.Link.{LinkState, IsFresh}
use Rattle.wl_link.proofs.Ids.EndsLaw.{run_leads}
use Rattle.wl_link.proofs.Ids.NamedLaw.{named_law, none_again_law}
use Rattle.wl_server_model.specs.declared.step.Reply.TheVariants as reply
use Rattle.wl_server_model.specs.declared.step.Step.TheVariants as step
use Rattle.wl_server_client.specs.Globals.{Offer, new_offer}
use Rattle.wl_server_model.specs.Identified.{is_over}
use Rattle.wl_server_client.specs.Ids.{ClientParts}
use Rattle.wl_server_model.specs.Named.{EachKeepsNaming, KeepsNaming, NamesNoneAgain, offer_through}
use Rattle.wl_server_client.specs.Part.{display_object, id_of, serial_of}
use Rattle.wl_server_model.specs.PartStep.{Asked, Call, World}
use Rattle.wl_server_model.specs.Runs.{Alone, Leads, Own, just_inserted, concerns, mine, offer_over}
use Rattle.wl_server_model.specs.Server.{Seen, ServerState, new_server, seen}
use Rattle.wl_server_model.specs.Steps.{Entry, offer_after}
use Rattle.wl_server_model.proofs.OverRuns.Alone.IsolationLaw.{alone_run, each_alone, numbered, offer_over_one, offer_run, one_more, split_run, shared_run}
use Rattle.wl_server_model.proofs.OverRuns.Alone.OwnRuns.{AreMine, are_mine}
use Rattle.wl_server_model.proofs.OverRuns.Ids.IdentityLaws.{change_both, names_of, own_by, run_begins, run_change}
use Rattle.wl_server_model.proofs.OverRuns.Ids.GivenLaws.{clients_given}

module _ {T U G C : Type 0} (w : World T G C) (id : ClientParts) where
  own_named : (offer : Offer G) (link : LinkState T) (client_data : C) (done : List (Own T U G C)) (point : Seen T U C) (later : List (Own T U G C))
      (t : Seen T U C)
      → AreMine id done → AreMine id later → Alone w id offer (just_inserted link client_data) done point
      → Alone w id (offer_through offer done) point later t
      → KeepsNaming w id offer (just_inserted link client_data) done point later t
  unfolding own_by change_both
  own_named offer link client_data done point later t own more led alone =
      let first = run_begins w id offer link client_data done point own led in
      let rest = run_change w id (offer_through offer done) point first.kept later t more first.are first.empty alone in
      record {
        ids = own_by w id offer link client_data (done ++ later) t
            (change_both w id offer (just_inserted link client_data) (objects.first_objects display_object) done point later t first rest);
        first = first.changes;
        rest = rest.changes;
        split = refl;
        there = first.kept;
        before = first.follows;
        after_point = rest.follows;
        stays = λ o named. (
            let (birth, at, own) = named_law serial_of display_object refl first.changes rest.changes first.kept rest.kept
            (run_leads serial_of (OwnsExactly is_over) (objects.first_objects display_object) first.kept first.changes first.ends)
            (run_leads serial_of (OwnsExactly is_over) first.kept rest.kept rest.changes rest.ends) (id_of o)
            ((names_of w id point first.kept first.are o).0 named) in
            let ends = names_of w id t rest.kept rest.are o in
            (birth, at, (λ some. own.0 (ends.0 some), λ is. ends.1 (own.1 is)))
            );
      }

  -- an id that names none at a later point names none behind it
  none_again : (offer : Offer G) (link : LinkState T) (client_data : C) (done : List (Own T U G C)) (point : Seen T U C)
      (between : List (Own T U G C)) (mid : Seen T U C)
      (later : List (Own T U G C)) (t : Seen T U C) → AreMine id done → AreMine id between → AreMine id later
      → Alone w id offer (just_inserted link client_data) done point
      → Alone w id (offer_through offer done) point between mid → Alone w id (offer_through (offer_through offer done) between) mid later t
      → NamesNoneAgain point mid t
  none_again offer link client_data done point between mid later t own next more led onward alone o named none =
      let a = run_begins w id offer link client_data done point own led in
      let b = run_change w id (offer_through offer done) point a.kept between mid next a.are a.empty onward in
      let c = run_change w id (offer_through (offer_through offer done) between) mid b.kept later t more b.are b.empty alone in
      let again = none_again_law serial_of display_object refl a.changes b.changes c.changes a.kept b.kept c.kept
      (run_leads serial_of (OwnsExactly is_over) (objects.first_objects display_object) a.kept a.changes a.ends)
      (run_leads serial_of (OwnsExactly is_over) a.kept b.kept b.changes b.ends)
      (run_leads serial_of (OwnsExactly is_over) b.kept c.kept c.changes c.ends) (id_of o)
      ((names_of w id point a.kept a.are o).0 named)
      (λ some. none ((names_of w id mid b.kept b.are o).1 some)) in
      λ some. again ((names_of w id t c.kept c.are o).0 some)

-- ---- every client of a server

module _ {T U G C : Type 0} where
  -- a call that does not concern a client leaves the offer
  pub far_offer : (id : ClientParts) (offer : Offer G) (call : Call T U G C) → concerns id call ≡ false → offer_after offer call ≡ offer
  far_offer id offer call far = grind (arith, true≢false)

  -- the offer after a run is that after the calls of it that concern a client
  pub through : (id : ClientParts) (run : List (Entry T U G C)) (offer : Offer G) → offer_over offer run ≡ offer_through offer (mine id run)
  through id [] offer = refl
  through id (e ∷ run) offer = grind (arith, far_offer, through id run (offer_after offer e.call))

  -- a client that was inserted is known from then on, and its own run leads on from each later point
  pub record IsInserted (w : World T G C) (id : ClientParts) (offer : Offer G) (transport : T) (limit : Option ℕ) (client_data : C)
      (between : List (Entry T U G C)) (point : ServerState T U G C) : Type 0 where
    pub link : LinkState T
    pub fresh : IsFresh transport limit link
    pub alone : Alone w id offer (just_inserted link client_data) (mine id between) (seen id point)
    pub given : id.serial ≤ point.last_client
    pub offered : point.offer ≡ offer_through offer (mine id between)

  pub inserted : (w : World T G C) (table : List InterfaceRow) (done : List (Entry T U G C)) (point : ServerState T U G C)
      → Leads w (new_server table) done point
      → (id : ClientParts) (transport : T) (client_data : C) (earlier between : List (Entry T U G C)) (e : Entry T U G C)
      → done ≡ earlier ++ e ∷ between
      → e.call ≡ Asked (step.InsertClient transport client_data) (reply.InsertClient (Ok id))
      → IsInserted w id (offer_over (new_offer table) (earlier ++ e ∷ [])) transport
      (Some (offer_over (new_offer table) earlier).default_limit) client_data between point
  inserted w table done point leads id transport client_data earlier between e split inserts =
      let (link, fresh, alone) = each_alone w table done point leads id transport client_data earlier between e split inserts in
      let (mid, first, (next, by, rest)) =
      split_run w (new_server table) point earlier (e ∷ between)
      (subst (λ (r : List (Entry T U G C)). Leads w (new_server table) r point) split leads) in
      let number = (numbered mid e.call id by.client (transport, client_data, inserts)).2 in
      record {
        link = link;
        fresh = fresh;
        alone = alone;
        given = omega (arith, number, by.last, one_more e.call id (transport, client_data, inserts), (clients_given next.offer point.offer next.last_client point.last_client between (shared_run w next point between rest)).0);
        offered = offer_run w next point between rest
            ∙ ap (λ (o : Offer G). offer_over o between) (grind (arith, offer_after, offer_run, new_server, offer_over_one, new_offer))
            ∙ through id between (offer_over (new_offer table) (earlier ++ e ∷ []));
      }

  pub each_keeps_naming : (w : World T G C) (table : List InterfaceRow) (done later : List (Entry T U G C)) (point after : ServerState T U G C)
      → Leads w (new_server table) done point → Leads w point later after → EachKeepsNaming w table done point later after
  each_keeps_naming w table done later point after leads others id transport client_data earlier between e split inserts =
      let is = inserted w table done point leads id transport client_data earlier between e split inserts in (
        is.link,
        is.fresh,
        grind (arith, own_named, offer_over, new_offer, mine, seen, are_mine, alone_run),
      )

  pub each_names_none_again : (w : World T G C) (table : List InterfaceRow) (done between later : List (Entry T U G C))
      (point mid after : ServerState T U G C)
      → Leads w (new_server table) done point → Leads w point between mid → Leads w mid later after
      → (id : ClientParts) (transport : T) (client_data : C) (earlier since : List (Entry T U G C)) (e : Entry T U G C) → done ≡ earlier ++ e ∷ since
      → e.call ≡ Asked (step.InsertClient transport client_data) (reply.InsertClient (Ok id))
      → NamesNoneAgain (seen id point) (seen id mid) (seen id after)
  each_names_none_again w table done between later point mid after leads onward others id transport client_data earlier since e split inserts =
      let is = inserted w table done point leads id transport client_data earlier since e split inserts in
      let last = (clients_given point.offer mid.offer point.last_client mid.last_client between (shared_run w point mid between onward)).0 in
      let offered = offer_run w point mid between onward ∙ through id between point.offer in
      none_again w id (offer_over (new_offer table) (earlier ++ e ∷ [])) is.link client_data (mine id since) (seen id point) (mine id between)
      (seen id mid) (mine id later) (seen id after)
      (are_mine id since) (are_mine id between) (are_mine id later) is.alone
      (subst (λ (o : Offer G). Alone w id o (seen id point) (mine id between) (seen id mid)) is.offered
      (alone_run w id point mid between is.given onward))
      (grind (arith, seen, mine, offer_through, alone_run))
