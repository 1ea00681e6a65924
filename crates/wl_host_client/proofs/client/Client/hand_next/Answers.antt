use Rattle.std.proofs.Common.{rules, refl, ◌≡◌, ◌∙◌, [], List, ℤ, true, false, ap, sym}
use Rattle.wl_client.specs.Requests.{session_content}
use Rattle.wl_flat.specs.Arguments.{descriptors_out}
use Rattle.wl_host_client.specs.Client.{ClientCore, ReadsUnlessKept, kept_of, null_in}
use Rattle.wl_flat.specs.Nulls.{is_refused}
use Rattle.wl_flat.specs.declared.status.Status.TheVariants as status
use Rattle.wl_host_client.proofs.ClientDescriptors.{conserves_event}
use Rattle.wl_host_client.proofs.ClientReading.{event_read, hands_event, hands_nothing, read_keeps_notes, refuses_event}
use Rattle.wl_host_client.proofs.client.Client.hand_next.Goals as goal

-- reading made no note

pub invariant_of-self : goal.invariant_of-self
invariant_of-self c = read_keeps_notes c.self.inside.core c.read.new.core _ c.read.result _ c.read.ensures ∙ c.self.invariant

pub invariant_of-self-then-not-handed_out : goal.invariant_of-self-then-not-handed_out
invariant_of-self-then-not-handed_out c = read_keeps_notes c.self.inside.core c.read.new.core _ c.read.result _ c.read.ensures ∙ c.self.invariant

pub invariant_of-self-2 : goal.invariant_of-self-2
invariant_of-self-2 c = read_keeps_notes c.self.inside.core c.read.new.core _ c.read.result _ c.read.ensures ∙ c.self.invariant

pub invariant_of-self-then-is_refused : goal.invariant_of-self-then-is_refused
invariant_of-self-then-is_refused c =
    ap (λ (core : ClientCore). core.session.notes) c.refuse.ensures.ended.2
    ∙ (read_keeps_notes c.self.inside.core c.read.new.core _ c.read.result _ c.read.ensures ∙ c.self.invariant)

-- no event was read

pub returns-in_default : goal.returns-in_default
returns-in_default c =
    let reads : ReadsUnlessKept c.args.self.now.kept c.args.self.now.core c.read.result (kept_of c.read.new.is_kept c.read.new.event) c.read.new.core =
    rw (← c.self.view_is) c.read.ensures in (
      [],
      hands_nothing c.args.self.now (record { out = c.args.out.now; arguments = c.args.arguments.now; bytes = c.args.bytes.now }) c.read.result _
          c.read.new.core _ reads c.in_default.not-Ok (search rules),
      search rules,
    )

-- it was refused

pub returns-then-is_refused : goal.returns-then-is_refused
returns-then-is_refused c =
    let reads : ReadsUnlessKept c.args.self.now.kept c.args.self.now.core status.Ok (kept_of c.read.new.is_kept c.read.new.event) c.read.new.core =
    rw (← c.self.view_is) c.in-Ok.ensures in
    let kept = event_read c.args.self.now.core c.read.new.core c.args.self.now.kept c.read.new.is_kept c.read.new.event reads in
    let set : c.args.self.now.refuses_nulls ≡ c.self.inside.refuses_nulls = search rules in
    let is : is_refused c.args.self.now.refuses_nulls (null_in c.read.new.core (session_content c.read.new.event)) ≡ true =
    rw set (ap (is_refused c.self.inside.refuses_nulls) (sym c.forbidden_null_of-place.ensures) ∙ sym c.if-is_refused.ensures) in (
      [],
      rw c.refuse.ensures.status
          (refuses_event c.args.self.now _ _ c.read.new.core (session_content c.read.new.event) c.refuse.ensures.ended.0 _ reads kept is c.refuse.ensures.ended.1
          (rw (c.refuse.ensures.ended.2, c.refuse.ensures.kept) (search rules))),
      search rules,
    )

-- there was no room for it

pub returns-then-not-handed_out : goal.returns-then-not-handed_out
returns-then-not-handed_out c =
    let reads : ReadsUnlessKept c.args.self.now.kept c.args.self.now.core status.Ok (kept_of c.read.new.is_kept c.read.new.event) c.read.new.core =
    rw (← c.self.view_is) c.in-Ok.ensures in
    let kept = event_read c.args.self.now.core c.read.new.core c.args.self.now.kept c.read.new.is_kept c.read.new.event reads in
    let set : c.args.self.now.refuses_nulls ≡ c.self.inside.refuses_nulls = search rules in
    let is : is_refused c.args.self.now.refuses_nulls (null_in c.read.new.core (session_content c.read.new.event)) ≡ false =
    rw set (ap (is_refused c.self.inside.refuses_nulls) (sym c.forbidden_null_of-place.ensures) ∙ sym c.if-is_refused.ensures) in (
      [],
      hands_event c.args.self.now _ _ c.read.new.core (session_content c.read.new.event) status.TooSmall [] _ _ reads kept is
          (rw (← c.if-not-handed_out.ensures.fits) (refl, refl, search rules, search (rules, kept))),
      search rules,
    )

-- it was handed out

pub returns : goal.returns
returns c =
    let reads : ReadsUnlessKept c.args.self.now.kept c.args.self.now.core status.Ok (kept_of c.read.new.is_kept c.read.new.event) c.read.new.core =
    rw (← c.self.view_is) c.in-Ok.ensures in
    let kept = event_read c.args.self.now.core c.read.new.core c.args.self.now.kept c.read.new.is_kept c.read.new.event reads in
    let set : c.args.self.now.refuses_nulls ≡ c.self.inside.refuses_nulls = search rules in
    let is : is_refused c.args.self.now.refuses_nulls (null_in c.read.new.core (session_content c.read.new.event)) ≡ false =
    rw set (ap (is_refused c.self.inside.refuses_nulls) (sym c.forbidden_null_of-place.ensures) ∙ sym c.if-is_refused.ensures) in
    let came_out : List ℤ = descriptors_out c.args.self.now.arrivals c.read.new.event.args.items in (
      came_out,
      hands_event c.args.self.now _ _ c.read.new.core (session_content c.read.new.event) status.Ok came_out _ _ reads kept is
          (rw (← c.if-not-handed_out.ensures.fits) (refl, refl, search rules, search rules)),
      conserves_event c.args.self.now _ c.read.new.event.args.items (search rules) (search rules),
    )
