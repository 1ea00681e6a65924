use Rattle.std.proofs.Common.{◌≡◌, ◌∙◌, true, false, ap, refl, sym, subst}
use Rattle.wl_host.proofs.Notes.{first_noted, none_in_front, none_noted, one_in_front, refused_to_note, small_noted}
use Rattle.wl_host.specs.Notes.{Fetches}
use Rattle.wl_host.specs.Server.{ServerState}
use Rattle.wl_host.specs.contracts.server.Server.{the_view}
use Rattle.wl_host.proofs.server.Server.next_note.Goals as goal

pub returns-in-Err-clause-call : goal.returns-in-Err-clause-call
returns-in-Err-clause-call c = refused_to_note c.args.self.now c.fetch_notes.new.self c.in-Err.status c.args.out.now c.args.text.now c.in-Err.ensures

pub returns-in_default-front-clause-call : goal.returns-in_default-front-clause-call
returns-in_default-front-clause-call c =
    let none = none_in_front c.self.inside.notes c.in_default-front.ensures.variant.1 in
    none_noted c.args.self.now c.fetch_notes.new.self c.args.out.now c.args.text.now c.in_default.ensures (sym (ap (λ (s : ServerState). s.notes) c.self.view_is) ∙ none)

pub returns-then-not-copy_text-clause-call : goal.returns-then-not-copy_text-clause-call
returns-then-not-copy_text-clause-call c =
    let first = one_in_front c.self.inside.notes c.in-Some.note.now (c.in-Some.ensures.variant.0 refl) c.in-Some.ensures.lookup in
    let room : c.copy_text.result ≡ false = cc in
    small_noted c.args.self.now c.fetch_notes.new.self c.in-Some.note.now _ c.args.out.now c.flat_note.result c.args.text.now c.copy_text.new.text c.copy_text.result c.in_default.ensures
    (sym (ap (λ (s : ServerState). s.notes) c.self.view_is) ∙ first) c.flat_note.ensures c.copy_text.ensures.room c.copy_text.ensures.text room

pub returns-clause-call : goal.returns-clause-call
returns-clause-call c =
    let first = one_in_front c.self.inside.notes c.in-Some.note.now (c.in-Some.ensures.variant.0 refl) c.in-Some.ensures.lookup in
    let room : c.copy_text.result ≡ true = cc in
    let fetched = subst (Fetches c.args.self.now _) (sym c.self.view_is) c.in_default.ensures in
    first_noted c.args.self.now (the_view c.self.inside) c.in-Some.note.now _ c.pop_front.new.self.items c.args.out.now c.flat_note.result c.args.text.now c.copy_text.new.text c.copy_text.result fetched
    first c.flat_note.ensures c.copy_text.ensures.room c.copy_text.ensures.text room c.pop_front.ensures.rest
