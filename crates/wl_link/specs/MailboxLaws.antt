-- That the transport by mailbox keeps the laws of a transport. Its impl of `Transport` takes these lemmas.
use Rattle.std.specs.Prelude.{◌≡◌, ℕ, zero, suc, ◌≤◌, Bool, true, false, Option, None, Some, List, [], ◌∷◌, length, take, Ok}
use Rattle.std.proofs.Common.{ap, inl, inr, arith}
use Rattle.std.proofs.lemmas.List.{length-take}
use Rattle.wl_wire.specs.declared.argument.Token.{Token}
use Rattle.wl_wire.specs.declared.error.IoFault.{IoFault}
use Rattle.wl_link.specs.Exchange.{Queue, nothing}
use Rattle.wl_link.specs.Mailbox.{MailboxState, MailboxSends, MailboxReceives, answer_under, has_room, end_answer, given, mailbox_gives}
use Rattle.wl_link.specs.declared.mailbox.Ending.{Ending}
use Rattle.wl_link.specs.declared.mailbox.Ending.TheVariants as ending

answer_within : (send_fault : Option IoFault) (room : Bool) (offered n : ℕ) → Ok n ≡ answer_under send_fault room offered → n ≤ offered
answer_within None true offered n e = let f : n ≡ offered = cc in omega arith
answer_within None false offered n e = absurd cc
answer_within (Some fault) room offered n e = absurd cc

pub mailbox_within_offer : (before after : MailboxState) (offer : Queue) (n : ℕ) → MailboxSends before offer (Ok n) after → n ≤ length offer.bytes
mailbox_within_offer before after offer n (inl s) = answer_within before.send_fault (has_room before offer) (length offer.bytes) n s.0
mailbox_within_offer before after offer n (inr s) = let e = s.0 in absurd cc

nothing_within : (room : ℕ) (came : Queue) → came ≡ nothing → length came.bytes ≤ room
nothing_within room came e = omega (arith, ap (λ (q : Queue). length q.bytes) e)

end_within : (end : Ending) (room : ℕ) (came : Queue) → Ok came ≡ end_answer end → length came.bytes ≤ room
end_within ending.Open room came e = absurd cc
end_within ending.Ended room came e = nothing_within room came cc
end_within (ending.Failed fault) room came e = absurd cc

given_within : (bytes : List ℕ) (tokens : List Token) (end : Ending) (room : ℕ) (came : Queue) → Ok came ≡ given bytes tokens end room → length came.bytes ≤ room
given_within [] tokens end room came e = end_within end room came e
given_within (b ∷ bytes) tokens end room came e =
    let f : came ≡ record { bytes = take room (b ∷ bytes); tokens = tokens } = cc in
    omega (arith, ap (λ (q : Queue). length q.bytes) f, length-take room (b ∷ bytes))

gives_within : (m : MailboxState) (room : ℕ) (came : Queue) → Ok came ≡ mailbox_gives m room → length came.bytes ≤ room
gives_within m zero came e = nothing_within zero came cc
gives_within m (suc n) came e = given_within m.arrived.bytes m.arrived.tokens m.ending (suc n) came e

pub mailbox_within_room : (before after : MailboxState) (room : ℕ) (came : Queue) → MailboxReceives before room (Ok came) after → length came.bytes ≤ room
mailbox_within_room before after room came (inl s) = gives_within before room came s.1
mailbox_within_room before after room came (inr s) = let e = s.0 in absurd cc

pub mailbox_few_tokens : (before after : MailboxState) (room : ℕ) (came : Queue) → MailboxReceives before room (Ok came) after → length came.tokens ≤ 28
mailbox_few_tokens before after room came (inl s) = s.0
mailbox_few_tokens before after room came (inr s) = let e = s.0 in absurd cc
