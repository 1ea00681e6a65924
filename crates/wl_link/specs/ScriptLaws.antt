-- That the transport by script keeps the laws of a transport. Its impl of `Transport` takes these lemmas.
use Rattle.std.specs.Prelude.{◌≡◌, ℕ, zero, suc, ◌≤◌, min, List, [], ◌∷◌, length, take, Result, Ok, Err}
use Rattle.std.proofs.Common.{ap, inl, inr, arith}
use Rattle.std.proofs.lemmas.List.{length-take}
use Rattle.wl_wire.specs.declared.error.IoFault.{IoFault}
use Rattle.wl_link.specs.Exchange.{Queue}
use Rattle.wl_link.specs.Script.{Script, ScriptSends, ScriptReceives, count_taken, given, script_gives}

count_within : (answers : List (Result ℕ IoFault)) (offered n : ℕ) → Ok n ≡ count_taken answers offered → n ≤ offered
count_within [] offered n e = let f : n ≡ offered = cc in omega arith
count_within (Ok m ∷ answers) offered n e = let f : n ≡ min m offered = cc in omega arith
count_within (Err fault ∷ answers) offered n e = absurd cc

pub script_within_offer : (before after : Script) (offer : Queue) (n : ℕ) → ScriptSends before offer (Ok n) after → n ≤ length offer.bytes
script_within_offer before after offer n (inl s) = count_within before.answers (length offer.bytes) n s.0
script_within_offer before after offer n (inr s) = let e = s.0 in absurd cc

given_within : (arrivals : List (Result Queue IoFault)) (room : ℕ) (came : Queue) → Ok came ≡ given arrivals room → length came.bytes ≤ room
given_within [] room came e = absurd cc
given_within (Ok chunk ∷ arrivals) room came e =
    let f : came ≡ record { bytes = take room chunk.bytes; tokens = chunk.tokens } = cc in
    omega (arith, ap (λ (q : Queue). length q.bytes) f, length-take room chunk.bytes)
given_within (Err fault ∷ arrivals) room came e = absurd cc

gives_within : (script : Script) (room : ℕ) (came : Queue) → Ok came ≡ script_gives script room → length came.bytes ≤ room
gives_within script zero came e =
    let f : came ≡ record { bytes = []; tokens = [] } = cc in
    omega (arith, ap (λ (q : Queue). length q.bytes) f)
gives_within script (suc n) came e = given_within script.arrivals (suc n) came e

pub script_within_room : (before after : Script) (room : ℕ) (came : Queue) → ScriptReceives before room (Ok came) after → length came.bytes ≤ room
script_within_room before after room came (inl s) = gives_within before room came s.1
script_within_room before after room came (inr s) = let e = s.0 in absurd cc

pub script_few_tokens : (before after : Script) (room : ℕ) (came : Queue) → ScriptReceives before room (Ok came) after → length came.tokens ≤ 28
script_few_tokens before after room came (inl s) = s.0
script_few_tokens before after room came (inr s) = let e = s.0 in absurd cc
